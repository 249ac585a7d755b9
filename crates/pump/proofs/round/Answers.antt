-- `pump::round` meets its contract. Assumes nothing.
use mathlib.Core.Path.{refl}
use native.Mathlib.Omega.{arith}
use Rattle.pump.proofs.Into.{on_length, on_few, on_pumpable, on_joined, reached_end}
use Rattle.pump.proofs.round.Goals as goal

pub over-rest-requires : goal.over-rest-requires
over-rest-requires c =
    let l = c.min-before.ensures in
    let some = c.if-left-eq0.false in
    let e = c.straight-first.ensures in
    let size = on_length _ _ _ _ _ _ _ _ _ _ _ e c.requires.0.going.desk in
    let end = reached_end _ _ _ _ c.requires.1 l some in (
      on_pumpable _ _ _ _ _ _ _ _ _ _ _ e _ _ (omega (arith, l)) c.requires.0,
      omega (arith, some),
      omega (arith, size, l, c.requires.2),
      omega (arith, size, end.0),
      omega (arith, size, end.1),
      omega (arith, size, c.requires.3),
    )

pub joined-requires : goal.joined-requires
joined-requires c =
    let desk = c.requires.0.going.desk in
    let first = on_few _ _ _ _ _ _ _ _ _ _ _ c.straight-first.ensures desk in
    let rest = on_few _ _ _ _ _ _ _ _ _ _ _ c.over-rest.ensures desk in
    omega (arith, first, rest, c.min-before.ensures, c.requires.2, c.requires.3)

pub returns : goal.returns
returns c =
    rw c.joined.ensures
    (on_joined _ _ _ _ _ _ _ _ _ _ _ c.straight-first.ensures _ _ _ _ _ (omega (arith, c.min-before.ensures)) refl c.over-rest.ensures)

-- `pump::over` meets its contract. Assumes nothing.
use mathlib.Core.Path.{ap, ◌∙◌}
use Prim.Native.Nat.{ℕ}
use native.Mathlib.Omega.{arith}
use lib.ListN.{length}
use Rattle.ring.specs.Ring.{place_at}
use Rattle.ring.proofs.Places.{place_past}
use Rattle.pump.proofs.Into.{into_moved, on_length, on_few, on_pumpable, on_joined}
use Rattle.pump.proofs.over.Goals as goal

pub returns-then-at-store : goal.returns-then-at-store
returns-then-at-store c =
    into_moved _ _ _ _ _ _ _ _ _ _ _ _ (place_past _ 0 ∙ ap (λ (n : ℕ). place_at (length c.args.store.now) n 0) (omega (arith, c.if-at-store.true))) c.straight.ensures

pub straight-rest-requires : goal.straight-rest-requires
straight-rest-requires c =
    let e = c.across-one.ensures in (
      on_pumpable _ _ _ _ _ _ _ _ _ _ _ e _ _ (omega (arith, c.requires.1)) c.requires.0,
      omega (arith, on_length _ _ _ _ _ _ _ _ _ _ _ e c.requires.0.going.desk, c.requires.1, c.requires.2),
    )

pub joined-requires : goal.joined-requires
joined-requires c =
    let desk = c.requires.0.going.desk in
    let one = on_few _ _ _ _ _ _ _ _ _ _ _ c.across-one.ensures desk in
    let rest = on_few _ _ _ _ _ _ _ _ _ _ _ c.straight-rest.ensures desk in
    omega (arith, one, rest, c.requires.2, c.requires.5)

pub returns : goal.returns
returns c =
    let e = c.across-one.ensures in
    let left = c.if-at-store.false in
    rw c.joined.ensures
    (on_joined _ _ _ _ _ _ _ _ _ _ _ e _ _ _ _ _ (omega (arith, c.requires.1)) (place_past _ 1 ∙ ap (λ (n : ℕ). place_at (length c.args.store.now) n 0) (omega (arith, c.requires.3, c.requires.4, left))) c.straight-rest.ensures)

-- `sweeps::add_both` meets its contract. Assumes nothing.
use mathlib.Core.Path.{ap}
use native.Mathlib.Omega.{arith}
use Rattle.sweeps.proofs.Moving.{moving_remaining}
use Rattle.sweeps.proofs.Both.{both_start, both_turn}
use Rattle.sweeps.proofs.Parts.{fewer_read}
use Rattle.sweeps.proofs.add_both.Goals as goal

pub loop-j-init : goal.loop-j-init
loop-j-init c = both_start _ _ _ _ _ _ _ _

pub add_both_still-w-requires : goal.add_both_still-w-requires
add_both_still-w-requires c =
    let p = c.requires in
    let i = c.loop-j.invariant.moving in
    let e = c.stays_to-to.ensures in
    (omega (arith, e.0), omega (arith, e.1, i.sweeping.same, p.0), fewer_read _ _ _ _ (omega (arith, e.1)) p.1, fewer_read _ _ _ _ (omega (arith, e.1)) p.2, omega (arith, e, moving_remaining _ _ _ _ _ i, p.3))

pub loop-j-preserved : goal.loop-j-preserved
loop-j-preserved c =
    let e = c.stays_to-to.ensures in
    let a = c.add_both_still-w.ensures in
    both_turn _ _ _ _ _ _ _ _ c.loop-j.invariant _ e.0 e.1 _ (ap (λ u. u.ramp) c.tick-t.ensures) e.2 _ a.0 _ a.1

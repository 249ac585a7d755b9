-- `sweeps::add_rising` meets its contract. Assumes nothing.
use native.Mathlib.Omega.{arith}
use Rattle.sweeps.proofs.Moving.{moving_start, moving_remaining}
use Rattle.sweeps.proofs.Parts.{part_turn}
use Rattle.sweeps.proofs.add_rising.Goals as goal

pub loop-j-init : goal.loop-j-init
loop-j-init c = moving_start _ _ _ _ _ (omega arith)

pub rise-next-requires : goal.rise-next-requires
rise-next-requires c = omega (arith, moving_remaining _ _ _ _ _ c.loop-j.invariant, c.loop-j-test.true, c.requires.2)

pub loop-j-preserved : goal.loop-j-preserved
loop-j-preserved c = part_turn _ _ _ _ _ c.loop-j.invariant c.loop-j-test.true _ _ c.share-x.ensures c.share-y.ensures _ c.rise-next.ensures

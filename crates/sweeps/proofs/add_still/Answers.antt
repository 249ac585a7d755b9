-- `sweeps::add_still` meets its contract. Assumes nothing.
use Rattle.sweeps.proofs.Sweeping.{sweep_start, sweep_turn}
use Rattle.sweeps.proofs.add_still.Goals as goal

pub loop-k-init : goal.loop-k-init
loop-k-init c = sweep_start _ _ _ _ c.requires.0

pub loop-k-preserved : goal.loop-k-preserved
loop-k-preserved c = rw c.share-x.ensures (sweep_turn _ _ _ _ c.loop-k.invariant c.loop-k-test.true)

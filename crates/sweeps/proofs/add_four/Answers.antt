-- `sweeps::add_four` meets its contract. Assumes nothing.
use native.Mathlib.Omega.{arith}
use Rattle.sweeps.proofs.Sweeping.{sweep_start, sweep_turn}
use Rattle.sweeps.proofs.add_four.Goals as goal

pub loop-k-init : goal.loop-k-init
loop-k-init c = sweep_start _ _ _ _ (omega arith)

pub loop-k-preserved : goal.loop-k-preserved
loop-k-preserved c =
    rw (c.add_stream-w.ensures, c.add_stream-z.ensures, c.add_stream-y.ensures, c.add_stream-x.ensures) (sweep_turn _ _ _ _ c.loop-k.invariant c.loop-k-test.true)

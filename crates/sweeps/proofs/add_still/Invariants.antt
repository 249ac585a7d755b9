-- `sweeps::add_still` meets its contract. Assumes nothing.
use Rattle.sweeps.specs.Adds.{still_adds}
use Rattle.sweeps.proofs.Sweeping.{Sweeping}
use Rattle.sweeps.proofs.add_still.Given as goal

abbrev pub invariant-loop-k : goal.invariant-loop-k
invariant-loop-k l = Sweeping (still_adds l.pool l.part l.gain) l.from l.to l.initial.out l.out l.k

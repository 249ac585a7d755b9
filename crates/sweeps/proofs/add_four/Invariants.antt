-- `sweeps::add_four` meets its contract. Assumes nothing.
use Rattle.sweeps.specs.Adds.{four_adds}
use Rattle.sweeps.proofs.Sweeping.{Sweeping}
use Rattle.sweeps.proofs.add_four.Given as goal

abbrev pub invariant-loop-k : goal.invariant-loop-k
invariant-loop-k l = Sweeping (four_adds l.pool l.a l.b l.c l.d) 0 l.to l.initial.out l.out l.k

-- `sweeps::add_rising` meets its contract. Assumes nothing.
use Rattle.sweeps.specs.Adds.{adds}
use Rattle.sweeps.proofs.Moving.{Moving}
use Rattle.sweeps.proofs.add_rising.Given as goal

abbrev pub invariant-loop-j : goal.invariant-loop-j
invariant-loop-j l = Moving (adds l.pool l.part l.initial.r) l.initial.r 0 l.frames l.initial.out l.out l.r l.j

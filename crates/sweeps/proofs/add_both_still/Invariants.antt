-- `sweeps::add_both_still` meets its contract. Assumes nothing.
use Rattle.sweeps.specs.Adds.{still_both}
use Rattle.sweeps.proofs.Moving.{Moving}
use Rattle.sweeps.proofs.add_both_still.Given as goal

abbrev pub invariant-loop-j : goal.invariant-loop-j
invariant-loop-j l = Moving (still_both l.house l.pool l.song l.tail l.from l.gain l.initial.w) l.initial.w l.from l.to l.initial.out l.out l.w l.j

-- `ring::pour` meets its contract. Assumes nothing.
use lib.ListN.{length}
use Rattle.ring.proofs.Poured.{Sounding}
use Rattle.ring.proofs.pour.Given as goal

abbrev pub invariant-loop-i : goal.invariant-loop-i
invariant-loop-i l = Sounding l.store l.head l.taken (length l.initial.out) l.out l.at l.i

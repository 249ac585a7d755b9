-- `sweeps::add_both` meets its contract. Assumes nothing.
use Prim.Native.Nat.{◌-◌}
use Rattle.sweeps.proofs.Both.{Both}
use Rattle.sweeps.proofs.add_both.Given as goal

abbrev pub invariant-loop-j : goal.invariant-loop-j
invariant-loop-j l = Both l.house l.pool l.song l.tail l.initial.g l.initial.w l.frames l.initial.out l.out l.g l.w l.j

abbrev pub decreases-loop-j : goal.decreases-loop-j
decreases-loop-j l = l.frames - l.j

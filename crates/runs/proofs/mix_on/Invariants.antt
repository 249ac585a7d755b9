-- `runs::mix_on` meets its contract. Assumes nothing.
use Prim.Native.Nat.{◌-◌}
use Rattle.bank.specs.Recording.{view_of}
use Rattle.runs.proofs.Sums.{Mixing}
use Rattle.runs.proofs.mix_on.Given as goal

abbrev pub invariant-loop-i : goal.invariant-loop-i
invariant-loop-i l = Mixing (view_of l.pool l.bank) l.initial.table l.count l.frames l.initial.out l.out l.table l.i

abbrev pub decreases-loop-i : goal.decreases-loop-i
decreases-loop-i l = l.count - l.i

-- `runs::over_frames` meets its contract. Assumes nothing.
use Prim.Native.Nat.{◌-◌}
use Rattle.runs.proofs.Onward.{Onward}
use Rattle.runs.proofs.over_frames.Given as goal

abbrev pub invariant-loop-done : goal.invariant-loop-done
invariant-loop-done l = Onward l.given.settings l.pool l.given.song l.given.clip l.initial.core l.frames l.initial.out l.out l.core l.passes l.done

abbrev pub decreases-loop-done : goal.decreases-loop-done
decreases-loop-done l = l.frames - l.done

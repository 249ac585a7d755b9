-- `rehearse` meets its contract.
use mathlib.Core.Path.{◌≡◌}
use Prim.Native.Nat.{◌-◌, ◌≤◌}
use lib.ListN.{length}
use Rattle.submission.specs.Replay.{standing, replayed}
use Rattle.dryrun.specs.Replay.{reasons_into}
use Rattle.dryrun.proofs.rehearse.Given as goal

abbrev pub invariant-loop-i : goal.invariant-loop-i
invariant-loop-i l = (l.i ≤ l.n) × (length l.queue ≡ length l.initial.queue) × (standing l.z l.queue ≡ replayed l.initial.z.session l.initial.queue l.records l.i) × (l.reasons ≡ reasons_into l.initial.reasons l.initial.z.session l.initial.queue l.records l.i)

abbrev pub decreases-loop-i : goal.decreases-loop-i
decreases-loop-i l = l.n - l.i

-- `captured_ok` meets its contract: a record stops the walk, or is one more of those passed.
use Prim.Native.Nat.{◌-◌, ◌≤◌}
use Rattle.timeline.specs.Queue.{rising_at}
use Rattle.session.proofs.Walk.{Passed}
use Rattle.session.proofs.captured_ok.Given as goal

abbrev pub invariant-loop-i : goal.invariant-loop-i
invariant-loop-i l = (l.i ≤ l.n) × Passed l.b l.rate l.last (rising_at l.store) l.store l.i

abbrev pub decreases-loop-i : goal.decreases-loop-i
decreases-loop-i l = l.n - l.i

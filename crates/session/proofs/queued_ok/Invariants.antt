-- `queued_ok` meets its contract: a record stops the walk, or is one more of those passed.
use mathlib.Core.Path.{◌≡◌}
use Prim.Native.Nat.{◌-◌, ◌≤◌}
use Rattle.timeline.specs.Queue.{ordered_at, stingers}
use Rattle.session.proofs.Walk.{Passed}
use Rattle.session.proofs.queued_ok.Given as goal

abbrev pub invariant-loop-j : goal.invariant-loop-j
invariant-loop-j l = (l.j ≤ l.n) × Passed l.b l.rate l.last (ordered_at l.store) l.store l.j × (l.stingers ≡ stingers l.store l.j)

abbrev pub decreases-loop-j : goal.decreases-loop-j
decreases-loop-j l = l.n - l.j

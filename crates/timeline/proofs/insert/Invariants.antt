-- `insert` meets its contract: what is left to do is the same at every turn.
use mathlib.Core.Path.{◌≡◌}
use Prim.Native.Nat.{◌≤◌}
use lib.ListN.{length}
use Rattle.timeline.specs.Store.{inserted}
use Rattle.timeline.proofs.insert.Given as goal

abbrev pub invariant-loop-i : goal.invariant-loop-i
invariant-loop-i l = (l.i ≤ l.n) × (length l.store ≡ length l.initial.store) × (inserted l.store l.i l.x ≡ inserted l.initial.store l.n l.x)

abbrev pub decreases-loop-i : goal.decreases-loop-i
decreases-loop-i l = l.i

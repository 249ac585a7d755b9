-- `count_kind` meets its contract: the records passed are counted.
use mathlib.Core.Path.{◌≡◌}
use Prim.Native.Nat.{◌-◌, ◌≤◌}
use lib.Dec.{eqb}
use Rattle.counts.specs.Below.{count_below}
use Rattle.timeline.specs.Store.{row_at}
use Rattle.timeline.proofs.count_kind.Given as goal

abbrev pub invariant-loop-j : goal.invariant-loop-j
invariant-loop-j l = (l.j ≤ l.n) × (l.k ≤ l.j) × (l.k ≡ count_below l.j (λ i. eqb (row_at l.store i).kind l.kind))

abbrev pub decreases-loop-j : goal.decreases-loop-j
decreases-loop-j l = l.n - l.j

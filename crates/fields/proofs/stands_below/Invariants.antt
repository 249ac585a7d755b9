-- `stands_below` meets its contract.
use mathlib.Core.Path.{◌≡◌}
use mathlib.Core.Bool.{false}
use lib.ListN.{get_or}
use lib.Dec.{eqb}
use Rattle.counts.specs.Below.{any_below}
use Prim.Native.Nat.{◌-◌, ◌≤◌}
use Rattle.fields.proofs.stands_below.Given as goal

abbrev pub invariant-loop-j : goal.invariant-loop-j
invariant-loop-j l = (l.j ≤ l.i) × (any_below l.j (λ k. eqb (get_or l.clips k 0) (get_or l.clips l.i 0)) ≡ false)

abbrev pub decreases-loop-j : goal.decreases-loop-j
decreases-loop-j l = l.i - l.j

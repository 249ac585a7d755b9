-- `drop_rows` meets its contract: the records passed are kept or dropped as the definition says.
use Rattle.std.proofs.Common.{◌≡◌, ◌≤◌, Bool, length}
use Rattle.timeline.specs.declared.Row.{Row}
use Rattle.timeline.specs.Store.{kept}
use Rattle.timeline.proofs.drop_rows.Given as goal

abbrev pub invariant-loop-j : goal.invariant-loop-j
invariant-loop-j g l =
    (l.k ≤ l.j)
    × (length l.store ≡ length l.initial.store)
    × ((p : Row → Bool) → ((x : Row) (r : Bool) → goal.F-post g l.test x r → r ≡ p x) → (l.store ≡ (kept p l.initial.store l.j).words) × (l.k ≡ (kept p l.initial.store l.j).count))

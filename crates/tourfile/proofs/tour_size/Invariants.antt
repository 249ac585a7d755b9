-- `tour_size` meets its contract.
use mathlib.Core.Path.{◌≡◌}
use Prim.Native.Nat.{◌+◌, ◌-◌, ◌*◌, ◌≤◌}
use Rattle.tourfile.specs.Writer.{rows_from}
use Rattle.tourfile.specs.Steps.{size_of}
use Rattle.tourfile.proofs.tour_size.Given as goal

abbrev pub invariant-loop-i : goal.invariant-loop-i
invariant-loop-i l = (l.size ≤ 10 + 275 * l.i) × (l.size + size_of (rows_from l.records l.i (l.n - l.i)) ≡ 10 + size_of (rows_from l.records 0 l.n))

-- `weigh_records` meets its contract.
use mathlib.Core.Path.{◌≡◌}
use Prim.Native.Nat.{◌-◌}
use Rattle.tourfile.specs.Writer.{records_weighed, rows_from, records_of}
use Rattle.tourfile.proofs.weigh_records.Given as goal

abbrev pub invariant-loop-i : goal.invariant-loop-i
invariant-loop-i l = records_weighed l.clips l.i l.before (rows_from l.records l.i (l.n - l.i)) ≡ records_weighed l.clips 0 0 (records_of l.records)

-- `fill` meets its contract.
use mathlib.Core.Path.{◌≡◌}
use Prim.Native.Nat.{◌+◌, ◌-◌, ◌*◌, ◌≤◌}
use lib.ListN.{length, drop}
use Rattle.fields.specs.Field.{fields_of}
use Rattle.tourfile.specs.Reader.{rows_in, put_rows}
use Rattle.tourfile.proofs.fill.Given as goal

abbrev pub invariant-loop-at : goal.invariant-loop-at
invariant-loop-at l = (l.at ≤ length l.file) × (length l.list ≡ length l.initial.list) × ((l.k + length (rows_in l.clips (fields_of (drop l.at l.file)))) * 5 ≤ length l.initial.list) × (put_rows l.list l.k (rows_in l.clips (fields_of (drop l.at l.file))) ≡ put_rows l.initial.list 0 (rows_in l.clips (fields_of l.file)))

abbrev pub decreases-loop-at : goal.decreases-loop-at
decreases-loop-at l = length l.file - l.at

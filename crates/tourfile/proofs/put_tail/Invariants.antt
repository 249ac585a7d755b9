-- `put_tail` meets its contract.
use mathlib.Core.Path.{◌≡◌}
use Prim.Native.Nat.{◌+◌, ◌-◌, ◌≤◌}
use lib.ListN.{length}
use lib.Seq.{sets}
use Rattle.tourfile.specs.Writer.{rows_from, records_of, tail_bytes}
use Rattle.tourfile.specs.Steps.{size_of}
use Rattle.tourfile.proofs.put_tail.Given as goal

abbrev pub invariant-loop-i : goal.invariant-loop-i
invariant-loop-i l = (length l.out ≡ length l.initial.out) × (l.at + size_of (rows_from l.records l.i (l.n - l.i)) + 5 ≤ length l.initial.out) × (sets l.out l.at (tail_bytes l.clips l.n (rows_from l.records l.i (l.n - l.i))) ≡ sets l.initial.out 5 (tail_bytes l.clips l.n (records_of l.records)))

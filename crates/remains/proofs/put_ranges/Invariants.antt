-- `put_ranges` meets its contract.
use mathlib.Core.Path.{◌≡◌}
use Prim.Native.Nat.{◌+◌, ◌-◌, ◌*◌, ◌≤◌}
use lib.ListN.{length}
use lib.Seq.{sets}
use Rattle.remains.specs.Salvage.{ranges_of, range_words}
use Rattle.remains.proofs.Runs.{Inside}
use Rattle.remains.proofs.Walk.{from}
use Rattle.remains.proofs.put_ranges.Given as goal

abbrev pub invariant-loop-p : goal.invariant-loop-p
invariant-loop-p l = Inside l.file l.p × (length l.list ≡ length l.initial.list) × (l.k + length (from l.file l.p) * 3 ≤ length l.initial.list) × (sets l.list l.k (range_words (from l.file l.p)) ≡ sets l.initial.list 0 (range_words (ranges_of l.file)))

abbrev pub decreases-loop-p : goal.decreases-loop-p
decreases-loop-p l = length l.file - l.p.at

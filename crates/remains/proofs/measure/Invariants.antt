-- `measure` meets its contract.
use mathlib.Core.Path.{◌≡◌}
use Prim.Native.Nat.{◌+◌, ◌-◌, ◌≤◌}
use lib.ListN.{length}
use Rattle.remains.specs.Salvage.{ranges_of, kept_fields, laid}
use Rattle.remains.proofs.Runs.{Inside}
use Rattle.remains.proofs.Walk.{from}
use Rattle.remains.proofs.measure.Given as goal

abbrev pub invariant-loop-p : goal.invariant-loop-p
invariant-loop-p l = Inside l.file l.p × (l.bytes ≤ l.p.at) × (l.ranges ≤ l.p.at) × (l.p.count + length (kept_fields l.file (from l.file l.p)) ≡ length (kept_fields l.file (ranges_of l.file)))
    × (l.bytes + length (laid (kept_fields l.file (from l.file l.p))) ≡ length (laid (kept_fields l.file (ranges_of l.file)))) × (l.ranges + length (from l.file l.p) ≡ length (ranges_of l.file))

abbrev pub decreases-loop-p : goal.decreases-loop-p
decreases-loop-p l = length l.file - l.p.at

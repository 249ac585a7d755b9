-- `put_kept` meets its contract.
use mathlib.Core.Path.{◌≡◌}
use Prim.Native.Nat.{◌+◌, ◌-◌}
use lib.ListN.{length}
use lib.Seq.{sets}
use Rattle.remains.specs.Salvage.{ranges_of, kept_fields, laid}
use Rattle.remains.proofs.Runs.{Inside}
use Rattle.remains.proofs.Walk.{from}
use Rattle.remains.proofs.put_kept.Given as goal

abbrev pub invariant-loop-p : goal.invariant-loop-p
invariant-loop-p l = Inside l.file l.p × (length l.out ≡ length l.initial.out) × (l.o + length (laid (kept_fields l.file (from l.file l.p))) ≡ 5 + length (laid (kept_fields l.file (ranges_of l.file))))
    × (sets l.out l.o (laid (kept_fields l.file (from l.file l.p))) ≡ sets l.initial.out 5 (laid (kept_fields l.file (ranges_of l.file))))

abbrev pub decreases-loop-p : goal.decreases-loop-p
decreases-loop-p l = length l.file - l.p.at

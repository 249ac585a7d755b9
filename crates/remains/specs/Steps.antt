-- What the steps of the code are said in, and no reader of the documents needs. Definitions only.
use Rattle.std.specs.Prelude.{ℕ, zero, suc, List, ◌&&◌, cond, length, ltb}
use Rattle.tourfile.specs.declared.Progress.{Progress}
use Rattle.tourfile.specs.Reader.{behind}
use Rattle.remains.specs.declared.Tally.{Tally}
use Rattle.remains.specs.Salvage.{drops, field_at, what, byte_on, ranges_of, kept_fields, laid}

-- where the bytes that are dropped side by side end, after k of them at most
unfoldable pub run_end : ℕ → List ℕ → Progress → ℕ
run_end zero file p = p.at
run_end (suc k) file p = cond (ltb p.at (length file) && drops (what file p)) (run_end k file (byte_on p)) p.at

-- behind the range that begins at a place
unfoldable pub next : List ℕ → Progress → Progress
next file p =
    cond (drops (what file p)) (record { at = run_end (length file) file p; count = p.count; last = p.last }) (behind p (field_at file p.at))

-- what a walk through the file counts
abbrev pub tally_of : List ℕ → Tally
tally_of file =
    record { kept = length (kept_fields file (ranges_of file)); bytes = length (laid (kept_fields file (ranges_of file))); ranges = length (ranges_of file) }

-- Writing a tour: the first record at fault, or the file. Definitions only.
use Rattle.std.specs.Prelude.{ℕ, zero, suc, ◌+◌, ◌/◌, List, [], ◌∷◌, ◌++◌, Bool, ◌&&◌, not, cond, length, leb, ltb, eqb, Ok, Err}
use Rattle.std.proofs.lemmas.List.Edits.{sets}
use Rattle.timeline.specs.declared.Row.{Row}
use Rattle.timeline.specs.Record.{readable}
use Rattle.timeline.specs.Store.{row_at}
use Rattle.fields.specs.Bytes.{two_bytes, eight_bytes}
use Rattle.fields.specs.Clips.{listed_twice, clip_byte}
use Rattle.fields.specs.Field.{first_part, second_part, carried, has_clip, part_bytes}
use Rattle.tourfile.specs.declared.Fault.{Fault}
use Rattle.tourfile.specs.Answer.{TourAnswer, Judged, error_at, refused, first, left_by}

-- a command's field up to its kind: tag and length, clock frame, number, kind
unfoldable pub head_bytes : Row → List ℕ
head_bytes x = (2 ∷ two_bytes (17 + carried x.kind)) ++ (eight_bytes x.at ++ (eight_bytes x.number ++ (x.kind ∷ [])))

-- one command: then only what that kind carries
unfoldable pub command_bytes : List ℕ → Row → List ℕ
command_bytes clips x = head_bytes x ++ (part_bytes clips (first_part x.kind) x.first ++ part_bytes clips (second_part x.kind) x.second)

-- the first field, version 1, and the last, the count
abbrev pub version_bytes : List ℕ
version_bytes = 1 ∷ 2 ∷ 0 ∷ 1 ∷ 0 ∷ []

abbrev pub last_bytes : ℕ → List ℕ
last_bytes n = 3 ∷ 2 ∷ 0 ∷ two_bytes n

-- the commands and the count behind them
unfoldable pub tail_bytes : List ℕ → ℕ → List Row → List ℕ
tail_bytes clips n [] = last_bytes n
tail_bytes clips n (x ∷ xs) = command_bytes clips x ++ tail_bytes clips n xs

-- the file: version, commands, count
unfoldable pub file_of : List ℕ → List Row → List ℕ
file_of clips xs = version_bytes ++ tail_bytes clips (length xs) xs

-- k records of a list from record i on
unfoldable pub rows_from : List ℕ → ℕ → ℕ → List Row
rows_from ws i zero = []
rows_from ws i (suc k) = row_at ws i ∷ rows_from ws (i + 1) k

-- all of them; a remainder of fewer than five words is not looked at
unfoldable pub records_of : List ℕ → List Row
records_of ws = rows_from ws 0 (length ws / 5)

-- a record holds a clip that is not listed
unfoldable pub unlisted : List ℕ → Row → Bool
unlisted clips x = has_clip x.kind && eqb (clip_byte clips x.first) 32

-- its number is not above that of the one before it; the first is free
unfoldable pub late : ℕ → ℕ → Row → Bool
late i before x = ltb 0 i && leb x.number before

-- what is wrong with record i, in the request's order
unfoldable pub record_judged_of : List ℕ → ℕ → ℕ → Row → Judged
record_judged_of clips i before x =
    first (not (readable x)) Fault.Unreadable
    (first (unlisted clips x) Fault.ClipNotListed (first (late i before x) Fault.NotRising (Ok tt)))

-- the first record at fault, or how many there are
abbrev pub or_next : Judged → ℕ → TourAnswer → TourAnswer
or_next (Err x) i later = Err (error_at x i)
or_next (Ok u) i later = later

unfoldable pub records_weighed : List ℕ → ℕ → ℕ → List Row → TourAnswer
records_weighed clips i before [] = Ok i
records_weighed clips i before (x ∷ xs) = or_next (record_judged_of clips i before x) i (records_weighed clips (i + 1) x.number xs)

-- then more than 4,096, then the output
abbrev pub written : ℕ → ℕ → TourAnswer → TourAnswer
written size room (Ok n) =
    cond (ltb 4096 n) (refused Fault.TooMany) (cond (ltb room size) (refused Fault.OutputTooShort) (Ok size))
written size room (Err e) = Err e

-- what the writer answers
unfoldable pub write_of : List ℕ → List Row → ℕ → TourAnswer
write_of clips xs room = cond (listed_twice clips) (refused Fault.ListedTwice) (written (length (file_of clips xs)) room (records_weighed clips 0 0 xs))

-- what it leaves in the output
unfoldable pub write_into : List ℕ → List Row → List ℕ → List ℕ
write_into clips xs out = left_by (write_of clips xs (length out)) (sets out 0 (file_of clips xs)) out

-- Salvage: a damaged file from left to right. Definitions only.
use Rattle.std.specs.Prelude.{ℕ, zero, suc, ◌+◌, ◌-◌, ◌/◌, List, [], ◌∷◌, ◌++◌, Bool, true, false, ◌&&◌, ◌||◌, not, cond, length, take, drop, leb, ltb, eqb, Result, Ok, Err}
use Rattle.std.proofs.lemmas.List.Edits.{sets}
use Rattle.fields.specs.Field.{is_whole, piece_size, tag_of, kind_in, clip_in, has_clip}
use Rattle.tourfile.specs.declared.Fault.{Fault}
use Rattle.tourfile.specs.declared.Progress.{Progress}
use Rattle.tourfile.specs.Answer.{fault_number}
use Rattle.tourfile.specs.Reader.{start, wrong_length, other_version, unknown_kind, not_rising, behind}
use Rattle.tourfile.specs.Writer.{version_bytes, last_bytes}
use Rattle.remains.specs.declared.Fate.{Fate}
use Rattle.remains.specs.declared.Range.{Range}
use Rattle.remains.specs.declared.Salvaged.{Salvaged}

-- what is done with a part of the file, in a word of the list of ranges
abbrev pub fate_word : Fate → ℕ
fate_word Fate.Kept = 1
fate_word Fate.Passed = 2
fate_word Fate.Dropped = 3

-- it is kept, or dropped
abbrev pub keeps : Fate → Bool
keeps Fate.Kept = true
keeps Fate.Passed = false
keeps Fate.Dropped = false

abbrev pub drops : Fate → Bool
drops Fate.Kept = false
drops Fate.Passed = false
drops Fate.Dropped = true

-- a command's clip byte is none of the 32
unfoldable pub no_clip : List ℕ → Bool
no_clip f = eqb (tag_of f) 2 && (has_clip (kind_in f) && leb 32 (clip_in f))

-- a field is valid for its tag: whole, and of a right length, version, kind and clip where the tag asks for one
unfoldable pub is_valid : List ℕ → Bool
is_valid f = is_whole f && (not (wrong_length f) && (not (other_version f) && (not (unknown_kind f) && not (no_clip f))))

-- a valid command whose number is above the last kept one's is kept; the first is free
unfoldable pub is_kept : Progress → List ℕ → Bool
is_kept p f = is_valid f && (eqb (tag_of f) 2 && not (not_rising p f))

-- a valid first or last field is passed over, and a skippable one
unfoldable pub is_passed : List ℕ → Bool
is_passed f = is_valid f && (eqb (tag_of f) 1 || eqb (tag_of f) 3 || leb 128 (tag_of f))

-- the field that begins at a place, or as much as there is of one
abbrev pub field_at : List ℕ → ℕ → List ℕ
field_at file at = take (piece_size (drop at file)) (drop at file)

-- what is done at a place; anything else is dropped
unfoldable pub what : List ℕ → Progress → Fate
what file p = cond (is_kept p (field_at file p.at)) Fate.Kept (cond (is_passed (field_at file p.at)) Fate.Passed Fate.Dropped)

-- then on: to the next byte where one was dropped, else behind the field
abbrev pub byte_on : Progress → Progress
byte_on p = record { at = p.at + 1; count = p.count; last = p.last }

unfoldable pub past : List ℕ → Progress → Progress
past file p = cond (drops (what file p)) (byte_on p) (behind p (field_at file p.at))

-- from left to right, k steps at most
unfoldable pub steps : ℕ → List ℕ → Progress → List Range
steps zero file p = []
steps (suc k) file p =
    cond (ltb p.at (length file)) (record { what = what file p; from = p.at; to = (past file p).at } ∷ steps k file (past file p)) []

-- side-by-side dropped bytes are one range
unfoldable pub before : Range → List Range → List Range
before r [] = r ∷ []
before r (q ∷ rs) =
    cond (drops r.what && drops q.what) (record { what = Fate.Dropped; from = r.from; to = q.to } ∷ rs) (r ∷ q ∷ rs)

unfoldable pub joined : List Range → List Range
joined [] = []
joined (r ∷ rs) = before r (joined rs)

unfoldable pub ranges_of : List ℕ → List Range
ranges_of file = joined (steps (length file) file start)

-- the kept fields, and fields one behind the other
unfoldable pub kept_fields : List ℕ → List Range → List (List ℕ)
kept_fields file [] = []
kept_fields file (r ∷ rs) = cond (keeps r.what) (take (r.to - r.from) (drop r.from file) ∷ kept_fields file rs) (kept_fields file rs)

unfoldable pub laid : List (List ℕ) → List ℕ
laid [] = []
laid (f ∷ fs) = f ++ laid fs

-- the file of some commands' fields, and the fresh file
unfoldable pub file_with : List (List ℕ) → List ℕ
file_with fs = version_bytes ++ (laid fs ++ last_bytes (length fs))

unfoldable pub fresh : List ℕ → List ℕ
fresh file = file_with (kept_fields file (ranges_of file))

abbrev pub SalvageAnswer : Type 0
SalvageAnswer = Result Salvaged Fault

-- what the salvage answers: more than 4,096 kept, then the output, then the list of three words a range
unfoldable pub salvage_of : List ℕ → ℕ → ℕ → SalvageAnswer
salvage_of file room list =
    let n : ℕ = length (kept_fields file (ranges_of file)) in
    cond (ltb 4096 n) (Err Fault.TooMany)
    (cond (ltb room (length (fresh file))) (Err Fault.OutputTooShort)
    (cond (ltb (list / 3) (length (ranges_of file))) (Err Fault.ListTooShort)
    (Ok (record { kept = n; bytes = length (fresh file); ranges = length (ranges_of file) }))))

-- an answer in numbers: kept commands, the fresh file's bytes and ranges, or the fault's number
pub data SaysSalvage : Type 0 where
  gives : ℕ → ℕ → ℕ → SaysSalvage
  refuses : ℕ → SaysSalvage

abbrev pub says_salvage : SalvageAnswer → SaysSalvage
says_salvage (Ok t) = gives t.kept t.bytes t.ranges
says_salvage (Err x) = refuses (fault_number x)

-- what it leaves in output and list: what it does where it is done, else what was there
abbrev pub left_by : SalvageAnswer → List ℕ → List ℕ → List ℕ
left_by (Ok t) done store = done
left_by (Err x) done store = store

unfoldable pub range_words : List Range → List ℕ
range_words [] = []
range_words (r ∷ rs) = fate_word r.what ∷ r.from ∷ r.to ∷ range_words rs

unfoldable pub salvage_out : List ℕ → List ℕ → ℕ → List ℕ
salvage_out file out list = left_by (salvage_of file (length out) list) (sets out 0 (fresh file)) out

unfoldable pub salvage_list : List ℕ → ℕ → List ℕ → List ℕ
salvage_list file room list = left_by (salvage_of file room (length list)) (sets list 0 (range_words (ranges_of file))) list

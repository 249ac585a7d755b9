-- Reading a tour: the first faulty field from the left, or the records. Definitions only.
use Rattle.std.specs.Prelude.{ℕ, ◌+◌, ◌/◌, List, [], ◌∷◌, Bool, ◌&&◌, ◌||◌, not, cond, length, leb, ltb, eqb, Ok, Err}
use Rattle.std.specs.declared.ops.ControlFlow.{ControlFlow}
use Rattle.std.specs.declared.ops.ControlFlow.TheVariants.{Continue, Break}
use Rattle.timeline.specs.declared.Row.{Row}
use Rattle.timeline.specs.Record.{row}
use Rattle.timeline.specs.Store.{put_row}
use Rattle.fields.specs.Bytes.{two}
use Rattle.fields.specs.Clips.{is_listed, listed_twice}
use Rattle.fields.specs.Field.{is_whole, fields_of, is_more, tag_of, frame_in, number_in, kind_in, clip_in, is_kind, first_part, second_part, part_size, carried, has_clip, part_in}
use Rattle.tourfile.specs.declared.Fault.{Fault}
use Rattle.tourfile.specs.declared.Progress.{Progress}
use Rattle.tourfile.specs.Answer.{TourAnswer, Judged, error_at, refused, first, left_by}

-- what a field gives: the way on, or the answer
abbrev pub Turn : Type 0
Turn = ControlFlow TourAnswer Progress

-- before the first field
abbrev pub start : Progress
start = record { at = 0; count = 0; last = 0 }

-- the first field has tag 1
unfoldable pub wrong_first : Progress → List ℕ → Bool
wrong_first p f = eqb p.at 0 && not (eqb (tag_of f) 1)

-- later ones have tag 2 or 3, or one of 128 to 255, which are skipped
unfoldable pub unknown_tag : Progress → List ℕ → Bool
unknown_tag p f = not (eqb p.at 0) && not (eqb (tag_of f) 2 || eqb (tag_of f) 3 || leb 128 (tag_of f))

-- a command has at least 17 bytes, and what its kind carries if the kind is known; first and last have two
unfoldable pub wrong_length : List ℕ → Bool
wrong_length f =
    cond (eqb (tag_of f) 2) (ltb (two f 1) 17 || (is_kind (kind_in f) && not (eqb (two f 1) (17 + carried (kind_in f)))))
    ((eqb (tag_of f) 1 || eqb (tag_of f) 3) && not (eqb (two f 1) 2))

unfoldable pub other_version : List ℕ → Bool
other_version f = eqb (tag_of f) 1 && not (eqb (two f 3) 1)

unfoldable pub unknown_kind : List ℕ → Bool
unknown_kind f = eqb (tag_of f) 2 && not (is_kind (kind_in f))

unfoldable pub not_listed : List ℕ → List ℕ → Bool
not_listed clips f = eqb (tag_of f) 2 && (has_clip (kind_in f) && not (is_listed clips (clip_in f)))

-- the first number is free
unfoldable pub not_rising : Progress → List ℕ → Bool
not_rising p f = eqb (tag_of f) 2 && (ltb 0 p.count && leb (number_in f) p.last)

unfoldable pub too_many : Progress → List ℕ → Bool
too_many p f = eqb (tag_of f) 2 && leb 4096 p.count

unfoldable pub wrong_count : Progress → List ℕ → Bool
wrong_count p f = eqb (tag_of f) 3 && not (eqb (two f 3) p.count)

unfoldable pub bytes_after : Bool → List ℕ → Bool
bytes_after more f = eqb (tag_of f) 3 && more

-- what is wrong with a field, in the request's order; more says whether anything stands behind it
unfoldable pub judged_of : List ℕ → Progress → Bool → List ℕ → Judged
judged_of clips p more f =
    first (not (is_whole f)) Fault.CutShort
    (first (wrong_first p f) Fault.WrongFirstTag
    (first (unknown_tag p f) Fault.UnknownTag
    (first (wrong_length f) Fault.WrongLength
    (first (other_version f) Fault.OtherVersion
    (first (unknown_kind f) Fault.UnknownKind
    (first (not_listed clips f) Fault.ClipNotListed
    (first (not_rising p f) Fault.NotRising
    (first (too_many p f) Fault.TooMany
    (first (wrong_count p f) Fault.WrongCount
    (first (bytes_after more f) Fault.BytesAfter (Ok tt)))))))))))

-- behind a field
unfoldable pub behind : Progress → List ℕ → Progress
behind p f =
    cond (eqb (tag_of f) 2) (record { at = p.at + length f; count = p.count + 1; last = number_in f })
    (record { at = p.at + length f; count = p.count; last = p.last })

-- a faulty field and the last one give the answer
unfoldable pub settled : Judged → Progress → List ℕ → Turn
settled (Err x) p f = Break (Err (error_at x p.at))
settled (Ok u) p f = cond (eqb (tag_of f) 3) (Break (Ok p.count)) (Continue (behind p f))

unfoldable pub turn_of : List ℕ → Progress → Bool → List ℕ → Turn
turn_of clips p more f = settled (judged_of clips p more f) p f

-- the answer, or what the later fields say
abbrev pub or_else : Turn → (Progress → TourAnswer) → TourAnswer
or_else (Break a) later = a
or_else (Continue p) later = later p

-- from left to right; where the last field should begin and nothing does, the file is cut short
unfoldable pub weighed : List ℕ → Progress → List (List ℕ) → TourAnswer
weighed clips p [] = Err (error_at Fault.CutShort p.at)
weighed clips p (f ∷ fs) = or_else (turn_of clips p (is_more fs) f) (λ q. weighed clips q fs)

-- last, the list for records: five words each
abbrev pub fitted : ℕ → TourAnswer → TourAnswer
fitted room (Ok n) = cond (leb n (room / 5)) (Ok n) (refused Fault.ListTooShort)
fitted room (Err e) = Err e

-- what the reader answers
unfoldable pub read_of : List ℕ → List ℕ → ℕ → TourAnswer
read_of clips file room = cond (listed_twice clips) (refused Fault.ListedTwice) (fitted room (weighed clips start (fields_of file)))

-- the record of a command's field
unfoldable pub row_in : List ℕ → List ℕ → Row
row_in clips f =
    let k : ℕ = kind_in f in
    row (frame_in f) (number_in f) k (part_in clips (first_part k) f 20) (part_in clips (second_part k) f (20 + part_size (first_part k)))

-- the records of a file's commands, in their order
unfoldable pub rows_in : List ℕ → List (List ℕ) → List Row
rows_in clips [] = []
rows_in clips (f ∷ fs) = cond (eqb (tag_of f) 2) (row_in clips f ∷ rows_in clips fs) (rows_in clips fs)

-- records written one behind the other from record i on; the rest of the list stays
unfoldable pub put_rows : List ℕ → ℕ → List Row → List ℕ
put_rows list i [] = list
put_rows list i (x ∷ xs) = put_rows (put_row list i x) (i + 1) xs

-- what the reader leaves in the list
unfoldable pub read_into : List ℕ → List ℕ → List ℕ → List ℕ
read_into clips file list = left_by (read_of clips file (length list)) (put_rows list 0 (rows_in clips (fields_of file))) list

-- The fields of a file: a tag, a length in two bytes, and as many bytes. Definitions only.
use Rattle.std.specs.Prelude.{ℕ, zero, suc, ◌+◌, List, [], ◌∷◌, Bool, true, false, ◌&&◌, cond, length, get_or, take, drop, leb, eqb}
use Rattle.counts.specs.Below.{within}
use Rattle.fields.specs.declared.Part.{Part}
use Rattle.fields.specs.Bytes.{two, four, eight, four_bytes, eight_bytes}
use Rattle.fields.specs.Clips.{handle_at, clip_byte}

-- the field at the front of what is left is all there
unfoldable pub is_whole : List ℕ → Bool
is_whole rest = leb 3 (length rest) && leb (3 + two rest 1) (length rest)

-- how far it goes; one that is cut short, to the end
unfoldable pub piece_size : List ℕ → ℕ
piece_size rest = cond (is_whole rest) (3 + two rest 1) (length rest)

-- a file's fields, from left to right; one that is cut short is the last
unfoldable pub split : ℕ → List ℕ → List (List ℕ)
split zero rest = []
split (suc k) rest = cond (eqb (length rest) 0) [] (take (piece_size rest) rest ∷ split k (drop (piece_size rest) rest))

unfoldable pub fields_of : List ℕ → List (List ℕ)
fields_of file = split (length file) file

-- fields stand behind
abbrev pub is_more : List (List ℕ) → Bool
is_more [] = false
is_more (f ∷ fs) = true

-- a field's tag
abbrev pub tag_of : List ℕ → ℕ
tag_of f = get_or f 0 0

-- a command's frame, number and kind, and the clip byte of one that has a clip
abbrev pub frame_in : List ℕ → ℕ
frame_in f = eight f 3

abbrev pub number_in : List ℕ → ℕ
number_in f = eight f 11

abbrev pub kind_in : List ℕ → ℕ
kind_in f = get_or f 19 0

abbrev pub clip_in : List ℕ → ℕ
clip_in f = get_or f 20 0

-- the kinds are 1 to 10
abbrev pub is_kind : ℕ → Bool
is_kind k = within 1 10 k

-- what a kind carries behind its number, in one part or two: a clip comes first, and a loop's start
unfoldable pub first_part : ℕ → Part
first_part k =
    cond (eqb k 4) Part.Frame
    (cond (eqb k 5) Part.Frame
    (cond (eqb k 6) Part.Frame
    (cond (eqb k 8) Part.Gain (cond (eqb k 9) Part.Clip (cond (eqb k 10) Part.Clip Part.Nothing)))))

unfoldable pub second_part : ℕ → Part
second_part k = cond (eqb k 6) Part.Frame (cond (eqb k 10) Part.Gain Part.Nothing)

-- a frame has eight bytes, a gain the four of its binary32 bits, a clip one
abbrev pub part_size : Part → ℕ
part_size Part.Nothing = 0
part_size Part.Frame = 8
part_size Part.Gain = 4
part_size Part.Clip = 1

-- how many bytes a kind carries
unfoldable pub carried : ℕ → ℕ
carried k = part_size (first_part k) + part_size (second_part k)

-- Swap and Stinger carry a clip
abbrev pub is_clip : Part → Bool
is_clip Part.Nothing = false
is_clip Part.Frame = false
is_clip Part.Gain = false
is_clip Part.Clip = true

unfoldable pub has_clip : ℕ → Bool
has_clip k = is_clip (first_part k)

-- the word of a part that stands at place i of a field; the list gives the handle of a clip, and nothing is 0
unfoldable pub part_in : List ℕ → Part → List ℕ → ℕ → ℕ
part_in clips Part.Nothing f i = 0
part_in clips Part.Frame f i = eight f i
part_in clips Part.Gain f i = four f i
part_in clips Part.Clip f i = handle_at clips (get_or f i 0)

-- the bytes of a part
unfoldable pub part_bytes : List ℕ → Part → ℕ → List ℕ
part_bytes clips Part.Nothing w = []
part_bytes clips Part.Frame w = eight_bytes w
part_bytes clips Part.Gain w = four_bytes w
part_bytes clips Part.Clip w = clip_byte clips w ∷ []

-- the word of a part as it comes back: nothing is 0
abbrev pub used_by : Part → ℕ → ℕ
used_by Part.Nothing w = 0
used_by Part.Frame w = w
used_by Part.Gain w = w
used_by Part.Clip w = w

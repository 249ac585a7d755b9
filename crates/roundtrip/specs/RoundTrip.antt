-- What reader and writer promise of each other, and of what they are lent. Statements only.
use Rattle.std.specs.Prelude.{ℕ, ◌*◌, ◌/◌, ◌≤◌, ◌≡◌, List, map, Bool, true, false, length, take, drop, leb, ltb}
use Rattle.laws.specs.Order.{all, any}
use Rattle.timeline.specs.declared.Row.{Row}
use Rattle.timeline.specs.Record.{row}
use Rattle.fields.specs.Field.{fields_of, tag_of, first_part, second_part, used_by}
use Rattle.tourfile.specs.Answer.{SaysTour, gives, refuses, says_tour}
use Rattle.tourfile.specs.Reader.{read_of, read_into}
use Rattle.tourfile.specs.Writer.{records_of, write_of, write_into}

-- a record with the words that its kind does not use at 0
unfoldable pub plain : Row → Row
plain x = row x.at x.number x.kind (used_by (first_part x.kind) x.first) (used_by (second_part x.kind) x.second)

-- reading what was written with the same list returns the same records
abbrev pub WrittenThenRead : Type 0
WrittenThenRead =
    (clips ws out list : List ℕ) (n : ℕ) → says_tour (write_of clips (records_of ws) (length out)) ≡ gives n → length ws / 5 ≤ length list / 5
    → (says_tour (read_of clips (take n (write_into clips (records_of ws) out)) (length list)) ≡ gives (length ws / 5))
    × (records_of (take (length ws / 5 * 5) (read_into clips (take n (write_into clips (records_of ws) out)) list)) ≡ map plain (records_of ws))

-- numbers have a width in the code: a byte
abbrev pub is_byte : ℕ → Bool
is_byte b = ltb b 256

-- a field that is skipped
abbrev pub is_skipped : List ℕ → Bool
is_skipped f = leb 128 (tag_of f)

-- writing what was read gives the same file if it had no skipped tags
abbrev pub ReadThenWritten : Type 0
ReadThenWritten =
    (clips file list out : List ℕ) (n : ℕ) → all is_byte file ≡ true → says_tour (read_of clips file (length list)) ≡ gives n → any is_skipped (fields_of file) ≡ false
    → length file ≤ length out
    → (says_tour (write_of clips (records_of (take (n * 5) (read_into clips file list))) (length out)) ≡ gives (length file))
    × (take (length file) (write_into clips (records_of (take (n * 5) (read_into clips file list))) out) ≡ file)

-- a refused call leaves its store, an accepted one what stands behind its records or its bytes
pub record Leaves (says : SaysTour) (width : ℕ) (before after : List ℕ) : Type 0 where
  pub refused : (number at : ℕ) → says ≡ refuses number at → after ≡ before
  pub accepted : (n : ℕ) → says ≡ gives n → drop (n * width) after ≡ drop (n * width) before

abbrev pub ReadLeaves : Type 0
ReadLeaves = (clips file list : List ℕ) → Leaves (says_tour (read_of clips file (length list))) 5 list (read_into clips file list)

abbrev pub WriteLeaves : Type 0
WriteLeaves = (clips ws out : List ℕ) → Leaves (says_tour (write_of clips (records_of ws) (length out))) 1 out (write_into clips (records_of ws) out)

-- a fault's place is in the file or at its end, a record's in the list
abbrev pub ReadPlaces : Type 0
ReadPlaces = (clips file : List ℕ) (room number at : ℕ) → says_tour (read_of clips file room) ≡ refuses number at → at ≤ length file

abbrev pub WritePlaces : Type 0
WritePlaces = (clips ws : List ℕ) (room number at : ℕ) → says_tour (write_of clips (records_of ws) room) ≡ refuses number at → at ≤ length ws / 5

-- What a salvage promises. Statements only.
use Rattle.std.specs.Prelude.{ℕ, ◌+◌, ◌*◌, ◌/◌, ◌<◌, ◌≤◌, ◌≡◌, List, [], ◌∷◌, map, Bool, true, false, ◌&&◌, not, cond, length, take, drop, leb, eqb}
use Rattle.laws.specs.Order.{any}
use Rattle.counts.specs.Below.{all_below}
use Rattle.fields.specs.Field.{fields_of, tag_of}
use Rattle.fields.specs.Clips.{is_listed, listed_twice}
use Rattle.tourfile.specs.Answer.{says_tour, gives as gives_tour}
use Rattle.tourfile.specs.Reader.{read_of, row_in, read_into}
use Rattle.tourfile.specs.Writer.{records_of}
use Rattle.remains.specs.declared.Range.{Range}
use Rattle.remains.specs.Salvage.{drops, ranges_of, kept_fields, fresh, salvage_of, SaysSalvage, gives, refuses, says_salvage, salvage_out, salvage_list}

-- ranges go from a to e without gap or overlap, in order, none empty
abbrev pub Covers : ℕ → List Range → ℕ → Type 0
Covers a [] e = a ≡ e
Covers a (r ∷ rs) e = (r.from ≡ a) × ((r.from < r.to) × Covers r.to rs e)

-- the ranges cover the input once, in order
abbrev pub Covered : Type 0
Covered = (file : List ℕ) → Covers 0 (ranges_of file) (length file)

-- no two dropped ones stand side by side
abbrev pub is_dropped : Range → Bool
is_dropped r = drops r.what

abbrev pub begins_dropped : List Range → Bool
begins_dropped [] = false
begins_dropped (r ∷ rs) = is_dropped r

abbrev pub apart : List Range → Bool
apart [] = true
apart (r ∷ rs) = not (is_dropped r && begins_dropped rs) && apart rs

abbrev pub Apart : Type 0
Apart = (file : List ℕ) → apart (ranges_of file) ≡ true

-- ten bytes more than the file has are enough for the fresh one, and half as many ranges as bytes, rounded up, for the list
abbrev pub Enough : Type 0
Enough = (file : List ℕ) → (length (fresh file) ≤ 10 + length file) × (length (ranges_of file) * 2 ≤ length file + 1)

-- the commands among a file's fields
abbrev pub commands_in : List (List ℕ) → List (List ℕ)
commands_in [] = []
commands_in (f ∷ fs) = cond (eqb (tag_of f) 2) (f ∷ commands_in fs) (commands_in fs)

-- an undamaged file, which is one that the reader accepts with whatever list, yields all its commands, and nothing is dropped
abbrev pub Undamaged : Type 0
Undamaged =
    (clips file : List ℕ) (room n : ℕ) → says_tour (read_of clips file room) ≡ gives_tour n
    → (kept_fields file (ranges_of file) ≡ commands_in (fields_of file)) × (length (kept_fields file (ranges_of file)) ≡ n) × (any is_dropped (ranges_of file) ≡ false)

-- and its salvage is refused for want of room alone
abbrev pub UndamagedDone : Type 0
UndamagedDone =
    (clips file : List ℕ) (room n out list : ℕ) → says_tour (read_of clips file room) ≡ gives_tour n → length (fresh file) ≤ out → length (ranges_of file) ≤ list / 3
    → says_salvage (salvage_of file out list) ≡ gives n (length (fresh file)) (length (ranges_of file))

-- the fresh file is accepted by the reader with 32 different handles listed, and gives the kept commands
abbrev pub SalvagedThenRead : Type 0
SalvagedThenRead =
    (clips file out list records : List ℕ) (k b r : ℕ) → says_salvage (salvage_of file (length out) (length list)) ≡ gives k b r
    → all_below 32 (is_listed clips) ≡ true → listed_twice clips ≡ false → k ≤ length records / 5
    → let new : List ℕ = take b (salvage_out file out (length list)) in
    (says_tour (read_of clips new (length records)) ≡ gives_tour k)
    × (records_of (take (k * 5) (read_into clips new records)) ≡ map (row_in clips) (kept_fields file (ranges_of file)))

-- salvaging a fresh file keeps everything: its first field, its commands and its last, and gives the same file
abbrev pub SalvagedAgain : Type 0
SalvagedAgain =
    (file out list out2 list2 : List ℕ) (k b r : ℕ) → says_salvage (salvage_of file (length out) (length list)) ≡ gives k b r
    → b ≤ length out2 → k + 2 ≤ length list2 / 3
    → let new : List ℕ = take b (salvage_out file out (length list)) in
    (says_salvage (salvage_of new (length out2) (length list2)) ≡ gives k b (k + 2))
    × (take b (salvage_out new out2 (length list2)) ≡ new) × (any is_dropped (ranges_of new) ≡ false)

-- a refused call leaves output and list, one that is done what stands behind its bytes and its ranges
pub record Leaves (says : SaysSalvage) (out out_after list list_after : List ℕ) : Type 0 where
  pub refused : (number : ℕ) → says ≡ refuses number → (out_after ≡ out) × (list_after ≡ list)
  pub accepted : (k b r : ℕ) → says ≡ gives k b r → (drop b out_after ≡ drop b out) × (drop (r * 3) list_after ≡ drop (r * 3) list)

abbrev pub SalvageLeaves : Type 0
SalvageLeaves =
    (file out list : List ℕ)
    → Leaves (says_salvage (salvage_of file (length out) (length list))) out (salvage_out file out (length list)) list (salvage_list file (length out) list)

-- the commands of a file that lie before a cut, whole: those among its fields, which begin at a place, that end there at the latest
abbrev pub commands_before : ℕ → ℕ → List (List ℕ) → List (List ℕ)
commands_before cut at [] = []
commands_before cut at (f ∷ fs) = cond (leb (at + length f) cut) (cond (eqb (tag_of f) 2) (f ∷ commands_before cut (at + length f) fs) (commands_before cut (at + length f) fs)) []

-- of an undamaged file that is cut anywhere, the commands that are kept begin with all that stand whole before the cut
abbrev pub CutKeeps : Type 0
CutKeeps =
    (clips file : List ℕ) (room n cut : ℕ) → says_tour (read_of clips file room) ≡ gives_tour n
    → let whole : List (List ℕ) = commands_before cut 0 (fields_of file) in
    take (length whole) (kept_fields (take cut file) (ranges_of (take cut file))) ≡ whole

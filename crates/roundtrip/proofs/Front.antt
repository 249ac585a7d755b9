-- Fields with no fault: their lengths, and that they are whole where they stand. Assumes nothing.
use mathlib.Core.Path.{◌≡◌, refl, ap}
use mathlib.Core.Logic.{⊎_elim}
use mathlib.Core.Bool.{true, false, ◌&&◌, ◌||◌, not}
use mathlib.Core.List.{List}
use Prim.Native.Nat.{ℕ, ◌+◌, ◌<◌, ◌≤◌}
use native.Mathlib.Omega.{arith}
use borrow.Author.Tests.{eqb-true, leb-true, not-false}
use lib.ListN.{length, get_or, take}
use lib.Seq.{length-take-le, get_or-take, take_all}
use lib.Dec.{leb, ltb, eqb}
use Rattle.counts.proofs.Truth.{and_r, or_none, two_ways}
use Rattle.fields.specs.Bytes.{two}
use Rattle.fields.specs.Field.{is_whole, piece_size, tag_of, kind_in, is_kind, carried}
use Rattle.tourfile.specs.Reader.{wrong_length}
use Rattle.fields.proofs.Fields.{Field}

-- the lengths that are not wrong
module _ (g : List ℕ) where
  pub command_size : tag_of g ≡ 2 → wrong_length g ≡ false → is_kind (kind_in g) ≡ true → two g 1 ≡ 17 + carried (kind_in g)
  unfolding wrong_length
  command_size t e k =
      let h : ltb (two g 1) 17 || (is_kind (kind_in g) && not (eqb (two g 1) (17 + carried (kind_in g)))) ≡ false = rw t at e in
      let r : is_kind (kind_in g) && not (eqb (two g 1) (17 + carried (kind_in g))) ≡ false = (or_none (ltb (two g 1) 17) (is_kind (kind_in g) && not (eqb (two g 1) (17 + carried (kind_in g)))) h).1 in
      let q : not (eqb (two g 1) (17 + carried (kind_in g))) ≡ false = rw k at r in
      eqb-true (two g 1) (17 + carried (kind_in g)) (not-false (eqb (two g 1) (17 + carried (kind_in g))) q)

  -- of version and count
  pub short_size : (k : ℕ) → eqb k 2 ≡ false → eqb k 1 || eqb k 3 ≡ true → tag_of g ≡ k → wrong_length g ≡ false → two g 1 ≡ 2
  unfolding wrong_length
  short_size k n s t e = let h : not (eqb (two g 1) 2) ≡ false = rw (t, n, s) at e in eqb-true (two g 1) 2 (not-false (eqb (two g 1) 2) h)

piece_is : (rest : List ℕ) → is_whole rest ≡ true → piece_size rest ≡ 3 + two rest 1
unfolding piece_size
piece_is rest w = rw w refl

-- a whole field at the front of what is left
module _ (rest f : List ℕ) (w : is_whole rest ≡ true) (e : f ≡ take (3 + two rest 1) rest) where
  size_within : 3 + two rest 1 ≤ length rest
  unfolding is_whole
  size_within = leb-true (3 + two rest 1) (length rest) (and_r (leb 3 (length rest)) (leb (3 + two rest 1) (length rest)) w)

  at_front : (i : ℕ) → i < 3 + two rest 1 → get_or f i 0 ≡ get_or rest i 0
  at_front i h = rw e (get_or-take (3 + two rest 1) rest i 0 h)

  two_front : two f 1 ≡ two rest 1
  unfolding two
  two_front = rw (at_front 1 (omega arith), at_front 2 (omega arith)) refl

  field_at : Field f
  field_at =
      let l : length f ≡ 3 + two rest 1 = rw e (length-take-le (3 + two rest 1) rest size_within) in
      let t = two_front in
      record { head = omega arith; all = omega arith }

-- a whole field is whole where it stands
pub front_field : (rest : List ℕ) → is_whole (take (piece_size rest) rest) ≡ true → Field (take (piece_size rest) rest)
unfolding piece_size
front_field rest w = ⊎_elim (λ (e : is_whole rest ≡ true). there e) (λ (e : is_whole rest ≡ false). there (cut e)) (two_ways (is_whole rest))
  where
    there : is_whole rest ≡ true → Field (take (piece_size rest) rest)
    there e = field_at rest (take (piece_size rest) rest) e (ap (λ (n : ℕ). take n rest) (piece_is rest e))

    cut : is_whole rest ≡ false → is_whole rest ≡ true
    cut e =
        let n : piece_size rest ≡ length rest = rw e refl in
        let t : take (piece_size rest) rest ≡ rest = take_all (piece_size rest) rest (omega arith) in
        rw t at w

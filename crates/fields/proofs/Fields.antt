-- A file's fields one at a time: what stands at the front, and what is left. Assumes nothing.
use mathlib.Core.Path.{◌≡◌, refl, sym, ap, ◌∙◌}
use mathlib.Core.Bool.{Bool, true, false, cond}
use mathlib.Core.List.{List, [], ◌∷◌, ◌++◌}
use Prim.Native.Nat.{ℕ, zero, suc, ◌+◌, ◌-◌, ◌<◌, ◌≤◌}
use native.Mathlib.Omega.{arith}
use borrow.Author.Tests.{leb-true, le-leb, eq-eqb, ne_eqb, lt-ltb, le-ltb, ltb-true, ltb-false}
use lib.ListN.{length, take, drop, length-drop, length-append, get_or-append}
use lib.Seq.{length-take-le, take_all, drop-drop, take-append_seam, drop-append_seam}
use lib.Dec.{leb, ltb, eqb}
use Rattle.counts.proofs.Truth.{and_true, and_r}
use Rattle.fields.specs.Bytes.{two}
use Rattle.fields.specs.Field.{is_whole, piece_size, split, fields_of, is_more}

-- a piece lies within what is left,
pub piece_within : (rest : List ℕ) → piece_size rest ≤ length rest
unfolding piece_size is_whole
piece_within rest = go (is_whole rest) refl
  where
    go : (b : Bool) → is_whole rest ≡ b → cond b (3 + two rest 1) (length rest) ≤ length rest
    go true e = leb-true (3 + two rest 1) (length rest) (and_r (leb 3 (length rest)) (leb (3 + two rest 1) (length rest)) e)
    go false e = omega arith

-- and has a byte where anything is left
pub piece_some : (rest : List ℕ) → 0 < length rest → 0 < piece_size rest
unfolding piece_size
piece_some rest h = go (is_whole rest)
  where
    go : (b : Bool) → 0 < cond b (3 + two rest 1) (length rest)
    go true = omega arith
    go false = h

pub front_length : (rest : List ℕ) → length (take (piece_size rest) rest) ≡ piece_size rest
front_length rest = length-take-le (piece_size rest) rest (piece_within rest)

-- more turns than there are bytes give no more fields
split_enough : (k j : ℕ) (rest : List ℕ) → length rest ≤ k → length rest ≤ j → split k rest ≡ split j rest
unfolding split
split_enough zero zero rest h g = refl
split_enough zero (suc j) rest h g = let e : length rest ≡ 0 = omega arith in rw (eq-eqb (length rest) 0 e) refl
split_enough (suc k) zero rest h g = let e : length rest ≡ 0 = omega arith in rw (eq-eqb (length rest) 0 e) refl
split_enough (suc k) (suc j) rest h g =
    go (eqb (length rest) 0) (λ z. let s = piece_some rest z in let w = piece_within rest in split_enough k j (drop (piece_size rest) rest) (simp length-drop (omega arith)) (simp length-drop (omega arith)))
    refl
  where
    go : (b : Bool) → (0 < length rest → split k (drop (piece_size rest) rest) ≡ split j (drop (piece_size rest) rest)) → eqb (length rest) 0 ≡ b
        → cond b [] (take (piece_size rest) rest ∷ split k (drop (piece_size rest) rest)) ≡ cond b [] (take (piece_size rest) rest ∷ split j (drop (piece_size rest) rest))
    go true f e = refl
    go false f e = ap (λ (l : List (List ℕ)). take (piece_size rest) rest ∷ l) (f (some (length rest) e))
      where
        some : (n : ℕ) → eqb n 0 ≡ false → 0 < n
        some zero e = let x : ◌≡◌ {A = ℕ} 0 1 = cc in absurd (omega arith)
        some (suc n) e = omega arith

-- nothing left has no field,
pub fields_none : (rest : List ℕ) → length rest ≡ 0 → fields_of rest ≡ []
unfolding fields_of split
fields_none rest e = rw e refl

-- and anything else has one at its front
pub fields_front : (rest : List ℕ) → 0 < length rest → fields_of rest ≡ take (piece_size rest) rest ∷ fields_of (drop (piece_size rest) rest)
unfolding fields_of split
fields_front rest h = go (length rest) refl
  where
    go : (n : ℕ) → length rest ≡ n → split n rest ≡ take (piece_size rest) rest ∷ split (length (drop (piece_size rest) rest)) (drop (piece_size rest) rest)
    go zero e = absurd (omega arith)
    go (suc n) e =
        let ne : length rest ≡ 0 → ⊥ = λ z. omega arith in
        let s = piece_some rest h in
        let w = piece_within rest in
        rw (ne_eqb (length rest) 0 ne) (ap (λ (l : List (List ℕ)). take (piece_size rest) rest ∷ l) (split_enough n (length (drop (piece_size rest) rest)) (drop (piece_size rest) rest) (simp length-drop (omega arith)) (omega arith)))

-- fields stand behind exactly where bytes do
pub is_more_law : (rest : List ℕ) → is_more (fields_of rest) ≡ ltb 0 (length rest)
is_more_law rest = go (length rest) refl
  where
    go : (n : ℕ) → length rest ≡ n → is_more (fields_of rest) ≡ ltb 0 n
    go zero e = rw (fields_none rest e) refl
    go (suc n) e = let h : 0 < length rest = omega arith in rw (fields_front rest h) (sym (lt-ltb 0 (suc n) (omega arith)))

pub more_behind : (rest : List ℕ) → is_more (fields_of (drop (piece_size rest) rest)) ≡ ltb (piece_size rest) (length rest)
more_behind rest = is_more_law (drop (piece_size rest) rest) ∙ rw length-drop (go (piece_size rest) (length rest))
  where
    go : (n m : ℕ) → ltb 0 (m - n) ≡ ltb n m
    go n m = both (ltb n m) refl
      where
        both : (b : Bool) → ltb n m ≡ b → ltb 0 (m - n) ≡ b
        both true e = let l = ltb-true n m e in lt-ltb 0 (m - n) (omega arith)
        both false e = let l = ltb-false n m e in le-ltb 0 (m - n) (omega arith)

-- the part of a slice from a place to its end is what is left there
pub part_whole : (a : ℕ) (s : List ℕ) → take (length s - a) (drop a s) ≡ drop a s
part_whole a s = take_all (length s - a) (drop a s) (simp length-drop (omega arith))

-- the piece that a loop finds at a place
module _ (file : List ℕ) (at n : ℕ) (h : at < length file) (e : n ≡ piece_size (take (length file - at) (drop at file))) where
  some_left : 0 < length (drop at file)
  some_left = simp length-drop (omega arith)

  pub is_piece : n ≡ piece_size (drop at file)
  is_piece = rw part_whole at e

  pub n_some : 0 < n
  n_some = rw is_piece (piece_some (drop at file) some_left)

  pub n_within : at + n ≤ length file
  n_within = let w : piece_size (drop at file) ≤ length file - at = rw length-drop at (piece_within (drop at file)) in let i = is_piece in omega arith

  pub n_part : take n (take (length file - at) (drop at file)) ≡ take (piece_size (drop at file)) (drop at file)
  n_part = rw (part_whole at file, is_piece) refl

  pub n_length : length (take n (take (length file - at) (drop at file))) ≡ n
  n_length = rw n_part (front_length (drop at file) ∙ sym is_piece)

  pub n_behind : drop (piece_size (drop at file)) (drop at file) ≡ drop (at + n) file
  n_behind = drop-drop (piece_size (drop at file)) at file ∙ ap (λ (m : ℕ). drop (at + m) file) (sym is_piece)

-- ---- whole fields

-- a list of bytes that is one whole field
pub record Field (f : List ℕ) : Type 0 where
  pub head : 3 ≤ length f
  pub all : 3 + two f 1 ≡ length f

two_front : (f rest : List ℕ) → 3 ≤ length f → two (f ++ rest) 1 ≡ two f 1
unfolding two
two_front f rest h = rw (get_or-append f rest 0 1 (omega arith), get_or-append f rest 0 2 (omega arith)) refl

-- stands first among the fields of a file that begins with it
pub field_front : (f rest : List ℕ) → Field f → fields_of (f ++ rest) ≡ f ∷ fields_of rest
unfolding piece_size is_whole
field_front f rest g =
    let l : length (f ++ rest) ≡ length f + length rest = length-append f rest in
    let h = g.head in
    let t = two_front f rest h in
    let a = g.all in
    let w : is_whole (f ++ rest) ≡ true = and_true (le-leb 3 (length (f ++ rest)) (omega arith)) (le-leb (3 + two (f ++ rest) 1) (length (f ++ rest)) (omega arith)) in
    let p : piece_size (f ++ rest) ≡ length f = rw w (rw t a) in
    fields_front (f ++ rest) (omega arith) ∙ rw (p, take-append_seam f rest, drop-append_seam f rest) refl

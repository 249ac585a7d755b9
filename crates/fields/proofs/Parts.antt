-- What a command carries, in bytes and back. Assumes nothing.
use mathlib.Core.Path.{◌≡◌, refl, sym, ap, ◌∙◌}
use mathlib.Core.Bool.{true, false}
use mathlib.Core.List.{List, [], ◌∷◌, ◌++◌}
use Prim.Native.Nat.{ℕ, suc, ◌+◌, ◌<◌, ◌≤◌}
use native.Mathlib.Nat.{zero-add}
use native.Mathlib.Omega.{arith}
use lib.ListN.{length, get_or, take, drop}
use lib.Seq.{drop-cons}
use lib.Dec.{eqb}
use Rattle.counts.proofs.Truth.{never, cond_both}
use Rattle.fields.specs.declared.Part.{Part}
use Rattle.fields.specs.Bytes.{two, four, eight, four_bytes, eight_bytes}
use Rattle.fields.specs.Clips.{is_listed, handle_at, listed_twice, clip_byte}
use Rattle.fields.specs.Field.{first_part, second_part, part_size, is_clip, has_clip, part_in, part_bytes, used_by}
use Rattle.fields.proofs.Numbers.{four_back, eight_back, four_part, eight_part}
use Rattle.fields.proofs.Places.{found_handle, clip_back}

pub size_small : (p : Part) → part_size p ≤ 8
size_small Part.Nothing = omega arith
size_small Part.Frame = omega arith
size_small Part.Gain = omega arith
size_small Part.Clip = omega arith

pub length_part : (clips : List ℕ) (p : Part) (w : ℕ) → length (part_bytes clips p w) ≡ part_size p
unfolding part_bytes eight_bytes four_bytes
length_part clips Part.Nothing w = refl
length_part clips Part.Frame w = refl
length_part clips Part.Gain w = refl
length_part clips Part.Clip w = refl

-- a second part is no clip, and a first part that is one is a Clip
pub second_no_clip : (k : ℕ) → is_clip (second_part k) ≡ false
unfolding second_part
second_no_clip k = cond_both (λ p. is_clip p ≡ false) (eqb k 6) _ _ refl (cond_both (λ p. is_clip p ≡ false) (eqb k 10) _ _ refl refl)

pub clip_first : (k : ℕ) → has_clip k ≡ true → first_part k ≡ Part.Clip
unfolding has_clip
clip_first k h = go (first_part k) h
  where
    go : (p : Part) → is_clip p ≡ true → p ≡ Part.Clip
    go Part.Nothing e = absurd (never (sym e))
    go Part.Frame e = absurd (never (sym e))
    go Part.Gain e = absurd (never (sym e))
    go Part.Clip e = refl

-- a part reads as it was written, a clip that is listed
pub part_back : (clips : List ℕ) (p : Part) (w : ℕ) (rest : List ℕ) → (is_clip p ≡ true → clip_byte clips w ≡ 32 → ⊥) → part_in clips p (part_bytes clips p w ++ rest) 0 ≡ used_by p w
unfolding part_in part_bytes
part_back clips Part.Nothing w rest h = refl
part_back clips Part.Frame w rest h = eight_back w rest
part_back clips Part.Gain w rest h = four_back w rest
part_back clips Part.Clip w rest h = found_handle clips w (h refl)

-- what stands behind a list of bytes reads as it does alone
pub at_behind : (h l : List ℕ) (i : ℕ) → get_or (h ++ l) (length h + i) 0 ≡ get_or l i 0
at_behind [] l i = rw (zero-add i) refl
at_behind (x ∷ h) l i = let e : suc (length h) + i ≡ suc (length h + i) = omega arith in rw e (at_behind h l i)

module _ (h l : List ℕ) where
  two_behind : (i j : ℕ) → j ≡ length h + i → two (h ++ l) j ≡ two l i
  unfolding two
  two_behind i j e =
      let k : length h + i + 1 ≡ length h + (i + 1) = omega arith in
      rw (e, k, at_behind h l i, at_behind h l (i + 1)) refl

  four_behind : (i j : ℕ) → j ≡ length h + i → four (h ++ l) j ≡ four l i
  unfolding four
  four_behind i j e = rw (two_behind i j e, two_behind (i + 2) (j + 2) (omega arith)) refl

  eight_behind : (i j : ℕ) → j ≡ length h + i → eight (h ++ l) j ≡ eight l i
  unfolding eight
  eight_behind i j e = rw (four_behind i j e, four_behind (i + 4) (j + 4) (omega arith)) refl

  pub part_behind : (clips : List ℕ) (p : Part) (j : ℕ) → j ≡ length h → part_in clips p (h ++ l) j ≡ part_in clips p l 0
  unfolding part_in
  part_behind clips Part.Nothing j e = refl
  part_behind clips Part.Frame j e = eight_behind 0 j (omega arith)
  part_behind clips Part.Gain j e = four_behind 0 j (omega arith)
  part_behind clips Part.Clip j e =
      let k : j ≡ length h + 0 = omega arith in
      ap (handle_at clips) (ap (λ (n : ℕ). get_or (h ++ l) n 0) k ∙ at_behind h l 0)

-- and the bytes of what was read are those that it was read from, a clip that is listed once
module _ (clips f : List ℕ) (small : (i : ℕ) → get_or f i 0 < 256) (u : listed_twice clips ≡ false) where
  pub part_same : (p : Part) (i : ℕ) → i + part_size p ≤ length f → (is_clip p ≡ true → is_listed clips (get_or f i 0) ≡ true) → part_bytes clips p (part_in clips p f i) ≡ take (part_size p) (drop i f)
  unfolding part_bytes part_in
  part_same Part.Nothing i h c = refl
  part_same Part.Frame i h c = eight_part f small i h
  part_same Part.Gain i h c = four_part f small i h
  part_same Part.Clip i h c =
      rw (drop-cons f i 0 (omega arith)) (ap (λ (b : ℕ). b ∷ []) (clip_back clips (get_or f i 0) u (c refl)).1)

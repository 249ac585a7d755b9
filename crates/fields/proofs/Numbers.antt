-- A number's bytes read back, and the bytes that a number was read from. Assumes nothing.
use mathlib.Core.Path.{◌≡◌, refl, sym, ap, ap₂, ◌∙◌}
use mathlib.Core.List.{List, [], ◌∷◌, ◌++◌}
use Prim.Native.Nat.{ℕ, suc, ◌+◌, ◌*◌, ◌/◌, ◌%◌, ◌<◌, ◌≤◌, ◌^◌}
use native.Mathlib.Omega.{arith}
use lib.ListN.{length, get_or, take, drop, take-append-drop}
use lib.Seq.{take-add, drop-drop, drop-cons}
use Rattle.std.specs.Int.{w16, w32, w64, to_le_bytes, from_le_bytes}
use Rattle.fields.specs.Bytes.{two, four, eight, two_bytes, four_bytes, eight_bytes}

-- the library's bytes of a number
pub two_same : (x : ℕ) → x < 2 ^ 16 → to_le_bytes w16 x ≡ two_bytes x
two_same x h = let a : x / 256 % 256 ≡ x / 256 = omega arith in rw a refl

pub four_same : (x : ℕ) → x < 2 ^ 32 → to_le_bytes w32 x ≡ four_bytes x
unfolding four_bytes
four_same x h =
    let a : x % 256 ≡ x % 65536 % 256 = omega arith in
    let b : x / 256 % 256 ≡ x % 65536 / 256 = omega arith in
    let d : x / 16777216 % 256 ≡ x / 65536 / 256 = omega arith in
    cc

pub eight_same : (x : ℕ) → x < 2 ^ 64 → to_le_bytes w64 x ≡ eight_bytes x
unfolding eight_bytes four_bytes
eight_same x h =
    let a : x % 256 ≡ x % 2 ^ 32 % 65536 % 256 = omega arith in
    let b : x / 256 % 256 ≡ x % 2 ^ 32 % 65536 / 256 = omega arith in
    let c : x / 65536 % 256 ≡ x % 2 ^ 32 / 65536 % 256 = omega arith in
    let d : x / 16777216 % 256 ≡ x % 2 ^ 32 / 65536 / 256 = omega arith in
    let e : x / 2 ^ 32 % 256 ≡ x / 2 ^ 32 % 65536 % 256 = omega arith in
    let f : x / 1099511627776 % 256 ≡ x / 2 ^ 32 % 65536 / 256 = omega arith in
    let g : x / 281474976710656 % 256 ≡ x / 2 ^ 32 / 65536 % 256 = omega arith in
    let i : x / 72057594037927936 % 256 ≡ x / 2 ^ 32 / 65536 / 256 = omega arith in
    cc

-- and the number that it makes of bytes
module _ (s bs : List ℕ) (i : ℕ) where
  one_same : (k j : ℕ) → get_or bs k 0 ≡ get_or s (i + k) 0 → i + k ≡ j → get_or bs k 0 ≡ get_or s j 0
  one_same k j h e = h ∙ ap (λ (m : ℕ). get_or s m 0) e

  pub two_read : ((k : ℕ) → k < 2 → get_or bs k 0 ≡ get_or s (i + k) 0) → from_le_bytes w16 bs ≡ two s i
  unfolding two
  two_read h =
      let a = one_same 0 i (h 0 (omega arith)) (omega arith) in
      let b = one_same 1 (i + 1) (h 1 (omega arith)) (omega arith) in
      omega arith

  pub four_read : ((k : ℕ) → k < 4 → get_or bs k 0 ≡ get_or s (i + k) 0) → from_le_bytes w32 bs ≡ four s i
  unfolding four two
  four_read h =
      let a = one_same 0 i (h 0 (omega arith)) (omega arith) in
      let b = one_same 1 (i + 1) (h 1 (omega arith)) (omega arith) in
      let c = one_same 2 (i + 2) (h 2 (omega arith)) (omega arith) in
      let d = one_same 3 (i + 2 + 1) (h 3 (omega arith)) (omega arith) in
      omega arith

  pub eight_read : ((k : ℕ) → k < 8 → get_or bs k 0 ≡ get_or s (i + k) 0) → from_le_bytes w64 bs ≡ eight s i
  unfolding eight four two
  eight_read q =
      let a = one_same 0 i (q 0 (omega arith)) (omega arith) in
      let b = one_same 1 (i + 1) (q 1 (omega arith)) (omega arith) in
      let c = one_same 2 (i + 2) (q 2 (omega arith)) (omega arith) in
      let d = one_same 3 (i + 2 + 1) (q 3 (omega arith)) (omega arith) in
      let e = one_same 4 (i + 4) (q 4 (omega arith)) (omega arith) in
      let f = one_same 5 (i + 4 + 1) (q 5 (omega arith)) (omega arith) in
      let g = one_same 6 (i + 4 + 2) (q 6 (omega arith)) (omega arith) in
      let h = one_same 7 (i + 4 + 2 + 1) (q 7 (omega arith)) (omega arith) in
      omega arith

-- a number's bytes at the front give it back
pub four_back : (x : ℕ) (rest : List ℕ) → four (four_bytes x ++ rest) 0 ≡ x
unfolding four two four_bytes
four_back x rest = omega arith

pub eight_back : (x : ℕ) (rest : List ℕ) → eight (eight_bytes x ++ rest) 0 ≡ x
unfolding eight four two eight_bytes four_bytes
eight_back x rest = omega arith

-- a number's bytes are those that it was read from
two_digits : (a b : ℕ) → a < 256 → two_bytes (a + 256 * b) ≡ a ∷ b ∷ []
two_digits a b h = let x : (a + 256 * b) % 256 ≡ a = omega arith in let y : (a + 256 * b) / 256 ≡ b = omega arith in rw (x, y) refl

four_digits : (a b : ℕ) → a < 65536 → four_bytes (a + 65536 * b) ≡ two_bytes a ++ two_bytes b
unfolding four_bytes
four_digits a b h = let x : (a + 65536 * b) % 65536 ≡ a = omega arith in let y : (a + 65536 * b) / 65536 ≡ b = omega arith in rw (x, y) refl

eight_digits : (a b : ℕ) → a < 2 ^ 32 → eight_bytes (a + 2 ^ 32 * b) ≡ four_bytes a ++ four_bytes b
unfolding eight_bytes
eight_digits a b h = let x : (a + 2 ^ 32 * b) % 2 ^ 32 ≡ a = omega arith in let y : (a + 2 ^ 32 * b) / 2 ^ 32 ≡ b = omega arith in rw (x, y) refl

module _ (f : List ℕ) (small : (i : ℕ) → get_or f i 0 < 256) where
  pub two_small : (i : ℕ) → two f i < 65536
  unfolding two
  two_small i = let a = small i in let b = small (i + 1) in omega arith

  pub four_small : (i : ℕ) → four f i < 2 ^ 32
  unfolding four
  four_small i = let a = two_small i in let b = two_small (i + 2) in omega arith

  pub two_part : (i : ℕ) → i + 2 ≤ length f → two_bytes (two f i) ≡ take 2 (drop i f)
  unfolding two
  two_part i h =
      let e : i + 1 ≡ suc i = omega arith in
      rw (drop-cons f i 0 (omega arith), drop-cons f (suc i) 0 (omega arith), e) (two_digits (get_or f i 0) (get_or f (suc i) 0) (small i))

  -- a part in two parts
  pub part : (i m k : ℕ) → take (m + k) (drop i f) ≡ take m (drop i f) ++ take k (drop (i + m) f)
  part i m k = take-add m k (drop i f) ∙ ap (λ (l : List ℕ). take m (drop i f) ++ take k l) (drop-drop m i f)

  pub four_part : (i : ℕ) → i + 4 ≤ length f → four_bytes (four f i) ≡ take 4 (drop i f)
  unfolding four
  four_part i h =
      four_digits (two f i) (two f (i + 2)) (two_small i) ∙ ap₂ (λ (x y : List ℕ). x ++ y) (two_part i (omega arith)) (two_part (i + 2) (omega arith)) ∙ sym (part i 2 2)

  pub eight_part : (i : ℕ) → i + 8 ≤ length f → eight_bytes (eight f i) ≡ take 8 (drop i f)
  unfolding eight
  eight_part i h =
      eight_digits (four f i) (four f (i + 4)) (four_small i) ∙ ap₂ (λ (x y : List ℕ). x ++ y) (four_part i (omega arith)) (four_part (i + 4) (omega arith)) ∙ sym (part i 4 4)

  -- what is left behind a number
  pub two_left : (i : ℕ) → i + 2 ≤ length f → two_bytes (two f i) ++ drop (i + 2) f ≡ drop i f
  two_left i h = ap₂ (λ (x y : List ℕ). x ++ y) (two_part i h) (sym (drop-drop 2 i f)) ∙ take-append-drop 2 (drop i f)

  pub eight_left : (i : ℕ) → i + 8 ≤ length f → eight_bytes (eight f i) ++ drop (i + 8) f ≡ drop i f
  eight_left i h = rw (eight_part i h, ← drop-drop 8 i f) (take-append-drop 8 (drop i f))

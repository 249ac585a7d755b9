-- A sweep changes its own places, each once, and no other. Assumes nothing.
use mathlib.Core.Path.{◌≡◌, refl, sym, ap, ◌∙◌}
use mathlib.Core.List.{List, [], ◌∷◌, ◌++◌, append_assoc}
use mathlib.Core.Logic.{◌⊎◌, inl, inr, ⊎_elim}
use Prim.Native.Nat.{ℕ, zero, suc, ◌+◌, ◌-◌, ◌≤◌, ◌<◌}
use native.Mathlib.Nat.{eq-or-lt_of_le, eq-zero-or-pos, add-zero}
use native.Mathlib.Omega.{arith}
use native.Mathlib.Numerals.{add-one}
use lib.ListN.{length, get_or, set, drop, replicate, length-set, length-replicate}
use lib.Seq.{drop-cons, set_at, get_or-set_same, get_or-set_other, ext_get_or}
use lib.Ieee.{Float, nan}
use Rattle.std.proofs.lemmas.List.{replicate_more}
use Rattle.ramp.specs.Number.{zero32}
use Rattle.sweeps.specs.Adds.{cleared}
use Rattle.sweeps.specs.Over.{over}

-- before a place, or not
pub lt_or_ge : (k n : ℕ) → (k < n) ⊎ (n ≤ k)
lt_or_ge k n = ⊎_elim (λ (e : n - k ≡ 0). inr (omega arith)) (λ (h : 0 < n - k). inl (omega arith)) (eq-zero-or-pos (n - k))

module _ (f : ℕ → Float → Float) (from : ℕ) where
  pub length_over : (n : ℕ) (os : List Float) → length (over f from n os) ≡ length os
  unfolding over
  length_over zero os = refl
  length_over (suc n) os = length-set (over f from n os) (from + n) _ ∙ length_over n os

  -- a place outside them is as it was
  pub over_before : (n : ℕ) (os : List Float) (k : ℕ) → k < from → get_or (over f from n os) k nan ≡ get_or os k nan
  unfolding over
  over_before zero os k h = refl
  over_before (suc n) os k h = get_or-set_other (over f from n os) (from + n) k _ nan (λ e. omega arith) ∙ over_before n os k h

  pub over_past : (n : ℕ) (os : List Float) (k : ℕ) → from + n ≤ k → get_or (over f from n os) k nan ≡ get_or os k nan
  unfolding over
  over_past zero os k h = refl
  over_past (suc n) os k h = get_or-set_other (over f from n os) (from + n) k _ nan (λ e. omega arith) ∙ over_past n os k (omega arith)

  -- each of them is what the rule makes of what stood there
  pub over_within : (n : ℕ) (os : List Float) (k : ℕ) → from ≤ k → k < from + n → from + n ≤ length os → get_or (over f from n os) k nan ≡ f k (get_or os k nan)
  unfolding over
  over_within zero os k a b l = absurd (omega arith)
  over_within (suc n) os k a b l =
      ⊎_elim
      (λ (e : k ≡ from + n). rw e (get_or-set_same (over f from n os) (from + n) _ nan (omega (arith, length_over n os))))
      (λ (h : k < from + n). get_or-set_other (over f from n os) (from + n) k _ nan (λ e. omega arith) ∙ over_within n os k a h (omega arith))
      (eq-or-lt_of_le (omega arith))

  -- one place more
  pub over_turn : (os : List Float) (k : ℕ) → from ≤ k → set (over f from (k - from) os) k (f k (get_or (over f from (k - from) os) k nan)) ≡ over f from (k + 1 - from) os
  unfolding over
  over_turn os k h =
      let e : k + 1 - from ≡ suc (k - from) = omega arith in
      let p : from + (k - from) ≡ k = omega arith in
      rw (e, p, over_past (k - from) os k (omega arith))

-- two sweeps side by side are one
pub over_split : (f : ℕ → Float → Float) (from a mid : ℕ) → mid ≡ from + a → (os : List Float) (b : ℕ) → over f mid b (over f from a os) ≡ over f from (a + b) os
unfolding over
over_split f from a mid q os zero = rw add-zero refl
over_split f from a mid q os (suc b) =
    let e : a + suc b ≡ suc (a + b) = omega arith in
    let p : mid + b ≡ from + (a + b) = omega arith in
    rw (e, p, over_split f from a mid q os b, over_past f from a os (from + (a + b)) (omega arith)) refl

-- rules that make the same of each place make the same sweep
pub over_same : (f g : ℕ → Float → Float) (from : ℕ) (os : List Float) (n : ℕ) → ((k : ℕ) → from ≤ k → k < from + n → (x : Float) → f k x ≡ g k x) → over f from n os ≡ over g from n os
unfolding over
over_same f g from os zero h = refl
over_same f g from os (suc n) h =
    rw (over_same f g from os n (λ k a b x. h k a (omega arith) x), h (from + n) (omega arith) (omega arith) (get_or os (from + n) nan)) refl

-- the places that are left, by a rule that makes the same of each of them
pub over_rest : (f g : ℕ → Float → Float) (from a n : ℕ) (os : List Float) → from ≤ a → a ≤ n → ((k : ℕ) → a ≤ k → k < n → (x : Float) → g k x ≡ f k x)
    → over g a (n - a) (over f from (a - from) os) ≡ over f from (n - from) os
over_rest f g from a n os l u h =
    let e : a - from + (n - a) ≡ n - from = omega arith in
    over_same g f a (over f from (a - from) os) (n - a) (λ k b c x. h k b (omega arith) x)
    ∙ over_split f from (a - from) a (omega arith) os (n - a)
    ∙ ap (λ k. over f from k os) e

-- a sweep that clears its places fills them with +0.0
pub over_cleared : (n : ℕ) (os : List Float) → n ≤ length os → over cleared 0 n os ≡ replicate n zero32 ++ drop n os
unfolding over
over_cleared zero os h = refl
over_cleared (suc n) os h =
    let e : 0 + n ≡ n = omega arith in
    let l : n < length os = omega arith in
    rw (e, over_cleared n os (omega arith), drop-cons os n nan l)
    (set_at (replicate n zero32) (get_or os n nan) (drop (suc n) os) zero32 n (length-replicate n zero32)
    ∙ sym (append_assoc (replicate n zero32) (zero32 ∷ []) (drop (suc n) os))
    ∙ ap (λ (l : List Float). l ++ drop (suc n) os) (replicate_more n zero32 ∙ ap (λ (k : ℕ). replicate k zero32) (add-one n)))

-- a sweep after a sweep over the same places
pub over_again : (f g : ℕ → Float → Float) (n : ℕ) (os : List Float) → n ≤ length os → over f 0 n (over g 0 n os) ≡ over (λ k x. f k (g k x)) 0 n os
over_again f g n os l =
    ext_get_or nan (over f 0 n (over g 0 n os)) (over (λ k x. f k (g k x)) 0 n os)
    (length_over f 0 n (over g 0 n os) ∙ length_over g 0 n os ∙ sym (length_over (λ k x. f k (g k x)) 0 n os))
    (λ k b.
    ⊎_elim
    (λ (i : k < n).
    over_within f 0 n (over g 0 n os) k (omega arith) (omega arith) (omega (arith, length_over g 0 n os))
    ∙ ap (f k) (over_within g 0 n os k (omega arith) (omega arith) (omega arith))
    ∙ sym (over_within (λ k x. f k (g k x)) 0 n os k (omega arith) (omega arith) (omega arith)))
    (λ (i : n ≤ k).
    over_past f 0 n (over g 0 n os) k (omega arith)
    ∙ over_past g 0 n os k (omega arith)
    ∙ sym (over_past (λ k x. f k (g k x)) 0 n os k (omega arith)))
    (lt_or_ge k n))

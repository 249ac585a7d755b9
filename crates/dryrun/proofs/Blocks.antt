-- Blocks added pair by pair, as far as clock frame 2^62. Assumes nothing.
use mathlib.Core.Path.{◌≡◌, refl, sym, ap, ◌∙◌}
use mathlib.Core.Bool.{Bool, true, false, cond}
use mathlib.Core.List.{List, [], ◌∷◌}
use Prim.Native.Nat.{ℕ, suc, ◌+◌, ◌-◌, ◌*◌, ◌/◌, ◌^◌, ◌≤◌, ◌<◌}
use native.Mathlib.Nat.{mul_comm, le-div_iff_mul-le, div-lt_iff_lt-mul}
use native.Mathlib.Omega.{arith}
use borrow.Author.Tests.{le-leb, lt-leb, leb-true, leb-false}
use lib.Dec.{leb}
use lib.ListN.{length, drop, get_or, length-drop}
use lib.Seq.{drop-cons}
use Rattle.std.specs.Prelude.{Some, None, unwrap_or}
use Rattle.dryrun.specs.Blocks.{frames_in, sum_to}

-- ---- the sum

module _ (n : ℕ) where
  pub sum_within : n ≤ 2 ^ 62 → Some n ≡ sum_to n
  unfolding sum_to
  sum_within h = rw (le-leb n (2 ^ 62) h) refl

  pub sum_past : 2 ^ 62 < n → None ≡ sum_to n
  unfolding sum_to
  sum_past h = rw (lt-leb n (2 ^ 62) h) refl

  -- a sum that is there is all the frames, and ends by 2^62
  pub sum_taken : (k : ℕ) → Some k ≡ sum_to n → (n ≤ 2 ^ 62) × (k ≡ n)
  unfolding sum_to
  sum_taken k = go (leb n (2 ^ 62)) refl
    where
      go : (b : Bool) → leb n (2 ^ 62) ≡ b → Some k ≡ cond b (Some n) None → (n ≤ 2 ^ 62) × (k ≡ n)
      go true e t = (leb-true n (2 ^ 62) e, ap (λ o. unwrap_or o 0) t)
      go false e t = let z : ◌≡◌ {A = ℕ} 0 1 = cc in absurd (omega arith)

  -- one that is not goes past it
  pub sum_refused : None ≡ sum_to n → 2 ^ 62 < n
  unfolding sum_to
  sum_refused = go (leb n (2 ^ 62)) refl
    where
      go : (b : Bool) → leb n (2 ^ 62) ≡ b → None ≡ cond b (Some n) None → 2 ^ 62 < n
      go true e t = let z : ◌≡◌ {A = ℕ} 0 1 = cc in absurd (omega arith)
      go false e t = leb-false n (2 ^ 62) e

-- ---- one pair

pub block_none : (sum times frames : ℕ) → times ≡ 0 → sum ≡ sum + times * frames
block_none sum times frames e = rw e (omega arith)

-- the quotient of what is left tells whether the product is too much
module _ (sum times frames : ℕ) (within : sum ≤ 2 ^ 62) (some : 0 < times) where
  pub block_within : frames ≤ (2 ^ 62 - sum) / times → sum + times * frames ≤ 2 ^ 62
  block_within h = let p : frames * times ≤ 2 ^ 62 - sum = (le-div_iff_mul-le some).0 h in rw (mul_comm times frames) (omega arith)

  pub block_past : (2 ^ 62 - sum) / times < frames → 2 ^ 62 < sum + times * frames
  block_past h = let p : 2 ^ 62 - sum < frames * times = (div-lt_iff_lt-mul some).0 h in rw (mul_comm times frames) (omega arith)

-- ---- the words

-- pair k, and what is behind it
frames_pair : (ws : List ℕ) (k : ℕ) → k * 2 + 1 < length ws → frames_in (drop (k * 2) ws) ≡ get_or ws (k * 2) 0 * get_or ws (k * 2 + 1) 0 + frames_in (drop ((k + 1) * 2) ws)
unfolding frames_in
frames_pair ws k h =
    let a : k * 2 + 1 ≡ suc (k * 2) = omega arith in
    let b : (k + 1) * 2 ≡ suc (suc (k * 2)) = omega arith in
    let e : drop (k * 2) ws ≡ get_or ws (k * 2) 0 ∷ (get_or ws (suc (k * 2)) 0 ∷ drop (suc (suc (k * 2))) ws) =
    drop-cons ws (k * 2) 0 (omega arith) ∙ ap (λ (l : List ℕ). get_or ws (k * 2) 0 ∷ l) (drop-cons ws (suc (k * 2)) 0 (omega arith)) in
    rw (a, b, e) refl

-- fewer than two words have no frames
few : (l : List ℕ) → length l ≤ 1 → frames_in l ≡ 0
unfolding frames_in
few [] h = refl
few (x ∷ []) h = refl
few (x ∷ (y ∷ l)) h = absurd (omega arith)

pub frames_none : (ws : List ℕ) (i : ℕ) → length ws ≤ i + 1 → frames_in (drop i ws) ≡ 0
frames_none ws i h = few (drop i ws) (simp length-drop (omega arith))

-- a pair more: past 2^62 the blocks are refused, else the sum goes on behind it
module _ (ws : List ℕ) (k sum : ℕ) (there : k * 2 + 1 < length ws) (before : sum + frames_in (drop (k * 2) ws) ≡ frames_in ws) where
  pub pair_past : None ≡ sum_to (sum + get_or ws (k * 2) 0 * get_or ws (k * 2 + 1) 0) → None ≡ sum_to (frames_in ws)
  pair_past e =
      let f = frames_pair ws k there in
      let p = sum_refused (sum + get_or ws (k * 2) 0 * get_or ws (k * 2 + 1) 0) e in
      sum_past (frames_in ws) (omega arith)

  pub pair_within : (r : ℕ) → Some r ≡ sum_to (sum + get_or ws (k * 2) 0 * get_or ws (k * 2 + 1) 0)
      → (r ≤ 2 ^ 62) × (r + frames_in (drop ((k + 1) * 2) ws) ≡ frames_in ws)
  pair_within r e =
      let f = frames_pair ws k there in
      let p = sum_taken (sum + get_or ws (k * 2) 0 * get_or ws (k * 2 + 1) 0) r e in
      (omega arith, omega arith)

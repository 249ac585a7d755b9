-- Where a handle stands in the list. Assumes nothing.
use mathlib.Core.Path.{◌≡◌, refl, sym, ap, ◌∙◌}
use mathlib.Core.Logic.{⊎_elim}
use mathlib.Core.Bool.{Bool, true, false, ◌&&◌, cond}
use mathlib.Core.List.{List}
use Prim.Native.Nat.{ℕ, zero, suc, ◌-◌, ◌<◌, ◌≤◌}
use native.Mathlib.Nat.{not-suc-le-zero}
use native.Mathlib.Omega.{arith}
use borrow.Author.Tests.{eqb-true, eqb-false, eq-eqb, ne_eqb, lt-ltb, ltb-true}
use lib.ListN.{get_or}
use lib.Dec.{ltb, eqb}
use Rattle.counts.specs.Below.{any_below}
use Rattle.counts.proofs.Below.{any_true}
use Rattle.counts.proofs.Truth.{and_true, and_l, and_r, lt_or_le, never}
use Rattle.fields.specs.Clips.{is_handle, is_listed, handle_at, twice_at, listed_twice, place_below, clip_byte}

module _ (clips : List ℕ) (w : ℕ) where
  -- one step of the search, from above
  pub place_here : (k : ℕ) → 0 < k → get_or clips (k - 1) 0 ≡ w → place_below clips w k ≡ k - 1
  unfolding place_below
  place_here zero h e = absurd (not-suc-le-zero h)
  place_here (suc k) h e = let d : suc k - 1 ≡ k = omega arith in rw (d, eq-eqb (get_or clips k 0) w (rw d at e)) refl

  pub place_on : (k : ℕ) → 0 < k → (get_or clips (k - 1) 0 ≡ w → ⊥) → place_below clips w k ≡ place_below clips w (k - 1)
  unfolding place_below
  place_on zero h e = absurd (not-suc-le-zero h)
  place_on (suc k) h e = let d : suc k - 1 ≡ k = omega arith in rw (d, ne_eqb (get_or clips k 0) w (rw d at e)) refl

place_found : (clips : List ℕ) (w k : ℕ) → k ≤ 32 → (place_below clips w k ≡ 32 → ⊥) → (place_below clips w k < k) × (get_or clips (place_below clips w k) 0 ≡ w)
unfolding place_below
place_found clips w zero h n = absurd (n refl)
place_found clips w (suc k) h n = go (eqb (get_or clips k 0) w) refl n (λ m. place_found clips w k (omega arith) m)
  where
    go : (b : Bool) → eqb (get_or clips k 0) w ≡ b → (cond b k (place_below clips w k) ≡ 32 → ⊥)
        → ((place_below clips w k ≡ 32 → ⊥) → (place_below clips w k < k) × (get_or clips (place_below clips w k) 0 ≡ w))
        → (cond b k (place_below clips w k) < suc k) × (get_or clips (cond b k (place_below clips w k)) 0 ≡ w)
    go true e m ih = (omega arith, eqb-true (get_or clips k 0) w e)
    go false e m ih = let r = ih m in let l = r.0 in (omega arith, r.1)

-- a clip byte that is not 32 stands for its handle
pub clip_found : (clips : List ℕ) (w : ℕ) → (clip_byte clips w ≡ 32 → ⊥) → (clip_byte clips w < 32) × (is_handle w ≡ true) × (get_or clips (clip_byte clips w) 0 ≡ w)
unfolding clip_byte
clip_found clips w n = go (is_handle w) n
  where
    go : (b : Bool) → (cond b (place_below clips w 32) 32 ≡ 32 → ⊥) → (cond b (place_below clips w 32) 32 < 32) × (b ≡ true) × (get_or clips (cond b (place_below clips w 32) 32) 0 ≡ w)
    go true m = let r = place_found clips w 32 (omega arith) m in (r.0, refl, r.1)
    go false m = absurd (m refl)

pub found_listed : (clips : List ℕ) (w : ℕ) → (clip_byte clips w ≡ 32 → ⊥) → is_listed clips (clip_byte clips w) ≡ true
unfolding is_listed
found_listed clips w n = let r = clip_found clips w n in and_true (lt-ltb (clip_byte clips w) 32 r.0) (ap is_handle r.2 ∙ r.1)

pub found_handle : (clips : List ℕ) (w : ℕ) → (clip_byte clips w ≡ 32 → ⊥) → handle_at clips (clip_byte clips w) ≡ w
unfolding handle_at
found_handle clips w n = let r = clip_found clips w n in rw (lt-ltb (clip_byte clips w) 32 r.0) r.2

-- where nothing is listed twice, a handle is found where it is listed
place_only : (clips : List ℕ) (b k : ℕ) → k ≤ 32 → b < k → is_handle (get_or clips b 0) ≡ true → listed_twice clips ≡ false → place_below clips (get_or clips b 0) k ≡ b
unfolding place_below listed_twice twice_at
place_only clips b zero g h i t = absurd (omega arith)
place_only clips b (suc k) g h i t = go (eqb (get_or clips k 0) (get_or clips b 0)) refl (λ l. place_only clips b k (omega arith) l i t)
  where
    twice : get_or clips k 0 ≡ get_or clips b 0 → b < k → ⊥
    twice e l =
        let y : any_below k (λ j. eqb (get_or clips j 0) (get_or clips k 0)) ≡ true = any_true (λ j. eqb (get_or clips j 0) (get_or clips k 0)) k b l (eq-eqb (get_or clips b 0) (get_or clips k 0) (sym e)) in
        let x : is_handle (get_or clips k 0) && any_below k (λ j. eqb (get_or clips j 0) (get_or clips k 0)) ≡ true = and_true (ap is_handle e ∙ i) y in
        never (sym (any_true (twice_at clips) 32 k (omega arith) x) ∙ t)

    go : (c : Bool) → eqb (get_or clips k 0) (get_or clips b 0) ≡ c → (b < k → place_below clips (get_or clips b 0) k ≡ b) → cond c k (place_below clips (get_or clips b 0) k) ≡ b
    go true e ih = ⊎_elim (λ (l : b < k). absurd (twice (eqb-true (get_or clips k 0) (get_or clips b 0) e) l)) (λ (l : k ≤ b). omega arith) (lt_or_le b k)
    go false e ih =
        let n : b ≡ k → ⊥ = λ z. eqb-false (get_or clips k 0) (get_or clips b 0) e (ap (λ (j : ℕ). get_or clips j 0) (sym z)) in
        ⊎_elim (λ (l : b < k). ih l) (λ (l : k ≤ b). absurd (n (omega arith))) (lt_or_le b k)

pub clip_back : (clips : List ℕ) (b : ℕ) → listed_twice clips ≡ false → is_listed clips b ≡ true → (b < 32) × (clip_byte clips (handle_at clips b) ≡ b)
unfolding clip_byte handle_at is_listed
clip_back clips b t i =
    let l : b < 32 = ltb-true b 32 (and_l (ltb b 32) (is_handle (get_or clips b 0)) i) in
    let h : is_handle (get_or clips b 0) ≡ true = and_r (ltb b 32) (is_handle (get_or clips b 0)) i in
    (l, rw (lt-ltb b 32 l, h) (place_only clips b 32 (omega arith) l h t))

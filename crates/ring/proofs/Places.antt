-- Places of a ring: they lie in the store, and those fewer than the store apart differ. Assumes nothing.
use mathlib.Core.Path.{◌≡◌, sym, ap, ◌∙◌}
use mathlib.Core.Bool.{Bool, true, ◌&&◌}
use Prim.Native.Nat.{ℕ, ◌+◌, ◌-◌, ◌%◌, ◌≤◌, ◌<◌}
use native.Mathlib.Nat.{mod-lt, mod-eq_of_lt, mod-eq-sub-mod, mod-add-mod, add-mod_left}
use native.Mathlib.Omega.{arith}
use mathlib.Core.Logic.{⊎_elim}
use lib.Dec.{leb, ltb}
use borrow.Author.Tests.{leb-true, ltb-true, lt-ltb, le-leb}
use Rattle.counts.proofs.Truth.{and_l, and_r, lt_or_le}
use Rattle.ring.specs.declared.SampleRing.{SampleRing}
use Rattle.ring.specs.Ring.{ring_at, ring_ok, Within, held_of, place_at}

module _ (n h : ℕ) where
  -- before the end a place is itself,
  pub place_straight : (i : ℕ) → h + i < n → place_at n h i ≡ h + i
  unfolding place_at
  place_straight i l = mod-eq_of_lt l

  -- past it, it is as far from the start
  pub place_round : (i : ℕ) → n ≤ h + i → h + i < n + n → place_at n h i ≡ h + i - n
  unfolding place_at
  place_round i g l = let s : h + i - n < n = omega arith in mod-eq-sub-mod g ∙ mod-eq_of_lt s

  -- it lies in the store
  pub place_lt : (i : ℕ) → 0 < n → place_at n h i < n
  unfolding place_at
  place_lt i p = mod-lt (h + i) p

  -- so many on, and then so many more
  pub place_on : (i j : ℕ) → place_at n (place_at n h i) j ≡ place_at n h (i + j)
  unfolding place_at
  place_on i j = mod-add-mod (h + i) n j ∙ ap (λ (x : ℕ). x % n) (omega arith)

  -- a place that was counted from another is where it is counted from the start,
  pub place_same : (k : ℕ) → place_at n (place_at n h k) 0 ≡ place_at n (h + k) 0
  unfolding place_at
  place_same k = mod-add-mod (h + k) n 0

  -- and one past the end counts from the start
  pub place_past : place_at n h 0 ≡ place_at n (n + h) 0
  unfolding place_at
  place_past =
      let z : n + h + 0 ≡ n + (h + 0) = omega arith in
      sym (ap (λ (i : ℕ). i % n) z ∙ add-mod_left n (h + 0))

  -- the place after the last is the first
  pub place_next : h + 1 ≡ n → place_at n h 1 ≡ 0
  place_next e = place_round 1 (omega arith) (omega arith) ∙ omega arith

  -- two places apart by less than the store differ
  pub place_apart : h < n → (i k : ℕ) → i < k → k < n → place_at n h i ≡ place_at n h k → ⊥
  place_apart hn i k l kn e =
      ⊎_elim
      (λ a. let x = place_straight i (omega arith) in let y = place_straight k a in omega arith)
      (λ b. let y = place_round k b (omega arith) in
      ⊎_elim (λ c. let x = place_straight i c in omega arith) (λ d. let x = place_round i d (omega arith) in omega arith) (lt_or_le (h + i) n))
      (lt_or_le (h + k) n)

module _ (n : ℕ) (r : SampleRing) where
  -- a ring that passes the test is within its store
  pub within : ring_ok n r ≡ true → Within n r
  within e =
      let a : Bool = leb 3 n in
      let b : Bool = leb n 65536 in
      let c : Bool = ltb r.head n in
      let d : Bool = ltb r.tail n in
      let abc = and_l ((a && b) && c) d e in
      let ab = and_l (a && b) c abc in
      record {
        least = leb-true 3 n (and_l a b ab);
        most = leb-true n 65536 (and_r a b ab);
        head = ltb-true r.head n (and_r (a && b) c abc);
        tail = ltb-true r.tail n (and_r ((a && b) && c) d e);
      }

  -- and one that is within it passes the test
  pub ring_ok_law : Within n r → ring_ok n r ≡ true
  ring_ok_law w = simp (le-leb 3 n w.least, le-leb n 65536 w.most, lt-ltb _ _ w.head, lt-ltb _ _ w.tail)

module _ (n : ℕ) (r : SampleRing) (w : Within n r) where
  -- fewer wait than the store has places
  pub held_lt : held_of n r < n
  unfolding held_of
  held_lt = mod-lt (r.tail + n - r.head) (omega (arith, w.least))

  -- the tail stands behind what waits
  pub tail_at : place_at n r.head (held_of n r) ≡ r.tail
  unfolding held_of
  tail_at = ⊎_elim ahead behind (lt_or_le r.tail r.head)
    where
      ahead : r.tail < r.head → place_at n r.head (held_of n r) ≡ r.tail
      ahead l =
          let s : r.tail + n - r.head < n = omega (arith, w.head) in
          let e : held_of n r ≡ r.tail + n - r.head = mod-eq_of_lt s in
          rw e (place_round n r.head (r.tail + n - r.head) (omega (arith, w.head)) (omega (arith, w.head, w.tail)) ∙ omega (arith, w.head))

      behind : r.head ≤ r.tail → place_at n r.head (held_of n r) ≡ r.tail
      behind l =
          let s : r.tail + n - r.head - n < n = omega (arith, w.tail) in
          let g : n ≤ r.tail + n - r.head = omega arith in
          let e : held_of n r ≡ r.tail + n - r.head - n = mod-eq-sub-mod g ∙ mod-eq_of_lt s in
          rw e (place_straight n r.head (r.tail + n - r.head - n) (omega (arith, w.tail)) ∙ omega arith)

-- a ring is known by its head and what waits
pub held_of_law : (n h k : ℕ) → h < n → k < n → held_of n (ring_at h (place_at n h k)) ≡ k
unfolding held_of
held_of_law n h k hn kn = ⊎_elim inside round (lt_or_le (h + k) n)
  where
    inside : h + k < n → held_of n (ring_at h (place_at n h k)) ≡ k
    inside l =
        let g : n ≤ h + k + n - h = omega arith in
        let s : h + k + n - h - n < n = omega arith in
        rw (place_straight n h k l) (mod-eq-sub-mod g ∙ mod-eq_of_lt s ∙ omega arith)

    round : n ≤ h + k → held_of n (ring_at h (place_at n h k)) ≡ k
    round g =
        let s : h + k - n + n - h < n = omega arith in
        rw (place_round n h k g (omega arith)) (mod-eq_of_lt s ∙ omega arith)

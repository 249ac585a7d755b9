-- The 32-bit number of used slots: which bits marking and unmarking a slot change, and which slot is the lowest free one. Assumes nothing.
use mathlib.Core.Path.{◌≡◌, refl, sym, ap, ◌∙◌}
use mathlib.Core.Bool.{true, false}
use mathlib.Core.Logic.{◌⊎◌, inl, inr}
use Prim.Native.Nat.{ℕ, zero, suc, ◌+◌, ◌-◌, ◌*◌, ◌/◌, ◌%◌, ◌≤◌, ◌<◌, ◌^◌}
use native.Mathlib.Omega.{arith}
use native.Mathlib.Nat.{pow-suc, pow-succ', not-suc-le-zero, div-div-eq-div-mul}
use borrow.Author.Tests.{eq-eqb, ne_eqb, eqb-false, eqb-true}
use lib.Count.{ones, ones_step, count_trailing_zeros, trailing_of_zero}
use lib.Dec.{eqb}
use Rattle.bank.specs.Slots.{used_at, free_slot}

-- the ith binary place of u
unfoldable pub bit : ℕ → ℕ → ℕ
bit u i = u / 2 ^ i % 2

bit_zero : (u : ℕ) → bit u 0 ≡ u % 2
unfolding bit
bit_zero u = omega arith

-- the i+1st place of u is the ith of its half
bit_suc : (u i : ℕ) → bit u (suc i) ≡ bit (u / 2) i
unfolding bit
bit_suc u i = rw (pow-succ' 2 i, div-div-eq-div-mul u 2 (2 ^ i))

-- a used slot's bit is 1
pub used_bit : (u i : ℕ) → used_at u i ≡ true → bit u i ≡ 1
unfolding used_at bit
used_bit u i e = eqb-true (u / 2 ^ i % 2) 1 e

-- a slot whose bit is 1 is used
pub is_used_at : (u i : ℕ) → bit u i ≡ 1 → used_at u i ≡ true
unfolding used_at bit
is_used_at u i e = eq-eqb (u / 2 ^ i % 2) 1 e

-- a free slot's bit is 0
pub unused : (u i : ℕ) → used_at u i ≡ false → bit u i ≡ 0
unfolding used_at bit
unused u i e = let n = eqb-false (u / 2 ^ i % 2) 1 e in omega arith

-- a slot whose bit is 0 is free
is_unused : (u i : ℕ) → bit u i ≡ 0 → used_at u i ≡ false
unfolding used_at bit
is_unused u i e = ne_eqb (u / 2 ^ i % 2) 1 (λ x. omega arith)

-- slots whose bits are the same are used alike
same_bit : (u v i : ℕ) → bit u i ≡ bit v i → used_at u i ≡ used_at v i
unfolding used_at bit
same_bit u v i e = ap (λ (x : ℕ). eqb x 1) e

bit_none : (i : ℕ) → bit 0 i ≡ 0
bit_none zero = bit_zero 0
bit_none (suc i) = bit_suc 0 i ∙ bit_none i

-- with nothing marked every slot is free
pub none_used : (i : ℕ) → used_at 0 i ≡ false
none_used i = is_unused 0 i (bit_none i)

module _ (k u : ℕ) (h : u < 2 ^ suc k) where
  double : 2 ^ suc k ≡ 2 ^ k * 2
  double = pow-suc 2 k

  half_below : u / 2 < 2 ^ k
  half_below = let d = double in omega arith

-- ---- marking

-- a free slot among k is marked: the number still has k bits
pub mark_fits : (k u i : ℕ) → u < 2 ^ k → i < k → bit u i ≡ 0 → u + 2 ^ i < 2 ^ k
mark_fits zero u i h l e = absurd (not-suc-le-zero l)
mark_fits (suc k) u zero h l e =
    let z : u % 2 ≡ 0 = sym (bit_zero u) ∙ e in
    let d = double k u h in
    omega arith
mark_fits (suc k) u (suc i) h l e =
    let ih = mark_fits k (u / 2) i (half_below k u h) (omega arith) (sym (bit_suc u i) ∙ e) in
    let d = double k u h in
    let p = pow-suc 2 i in
    omega arith

-- marking a free slot sets its bit
pub mark_same : (u i : ℕ) → bit u i ≡ 0 → bit (u + 2 ^ i) i ≡ 1
mark_same u zero e = let z : u % 2 ≡ 0 = sym (bit_zero u) ∙ e in bit_zero (u + 1) ∙ omega arith
mark_same u (suc i) e =
    let p = pow-suc 2 i in
    let q : (u + 2 ^ suc i) / 2 ≡ u / 2 + 2 ^ i = omega arith in
    bit_suc (u + 2 ^ suc i) i ∙ rw q (mark_same (u / 2) i (sym (bit_suc u i) ∙ e))

-- marking a free slot changes no other bit
pub mark_other : (u i j : ℕ) → (j ≡ i → ⊥) → bit u i ≡ 0 → bit (u + 2 ^ i) j ≡ bit u j
mark_other u zero zero n e = absurd (n refl)
mark_other u zero (suc j) n e =
    let z : u % 2 ≡ 0 = sym (bit_zero u) ∙ e in
    let q : (u + 1) / 2 ≡ u / 2 = omega arith in
    bit_suc (u + 1) j ∙ rw q (sym (bit_suc u j))
mark_other u (suc i) zero n e =
    let p = pow-suc 2 i in
    bit_zero (u + 2 ^ suc i) ∙ omega arith ∙ sym (bit_zero u)
mark_other u (suc i) (suc j) n e =
    let p = pow-suc 2 i in
    let q : (u + 2 ^ suc i) / 2 ≡ u / 2 + 2 ^ i = omega arith in
    bit_suc (u + 2 ^ suc i) j ∙ rw q (mark_other (u / 2) i j (λ x. n (ap suc x)) (sym (bit_suc u i) ∙ e)) ∙ sym (bit_suc u j)

module _ (u i : ℕ) (e : used_at u i ≡ false) where
  -- a marked slot is used
  pub marked_here : used_at (u + 2 ^ i) i ≡ true
  marked_here = is_used_at (u + 2 ^ i) i (mark_same u i (unused u i e))

  -- every other slot is as it was
  pub marked_there : (j : ℕ) → (j ≡ i → ⊥) → used_at (u + 2 ^ i) j ≡ used_at u j
  marked_there j n = same_bit (u + 2 ^ i) u j (mark_other u i j n (unused u i e))

  -- the number still has 32 bits
  pub marked_below : u < 2 ^ 32 → i < 32 → u + 2 ^ i < 2 ^ 32
  marked_below h l = mark_fits 32 u i h l (unused u i e)

-- ---- unmarking

-- a used slot's mark can be taken away
pub bit_le : (u i : ℕ) → bit u i ≡ 1 → 2 ^ i ≤ u
bit_le u zero e = let z : u % 2 ≡ 1 = sym (bit_zero u) ∙ e in omega arith
bit_le u (suc i) e =
    let ih = bit_le (u / 2) i (sym (bit_suc u i) ∙ e) in
    let p = pow-suc 2 i in
    omega arith

unmark_same : (u i : ℕ) → bit u i ≡ 1 → bit (u - 2 ^ i) i ≡ 0
unmark_same u zero e = let z : u % 2 ≡ 1 = sym (bit_zero u) ∙ e in bit_zero (u - 1) ∙ omega arith
unmark_same u (suc i) e =
    let h : bit (u / 2) i ≡ 1 = sym (bit_suc u i) ∙ e in
    let l = bit_le (u / 2) i h in
    let p = pow-suc 2 i in
    let q : (u - 2 ^ suc i) / 2 ≡ u / 2 - 2 ^ i = omega arith in
    bit_suc (u - 2 ^ suc i) i ∙ rw q (unmark_same (u / 2) i h)

module _ (u i : ℕ) (e : used_at u i ≡ true) where
  -- the mark taken away and put again
  again : u - 2 ^ i + 2 ^ i ≡ u
  again = let l = bit_le u i (used_bit u i e) in omega arith

  -- an unmarked slot is free
  pub unmarked_here : used_at (u - 2 ^ i) i ≡ false
  unmarked_here = is_unused (u - 2 ^ i) i (unmark_same u i (used_bit u i e))

  -- every other slot is as it was
  pub unmarked_there : (j : ℕ) → (j ≡ i → ⊥) → used_at (u - 2 ^ i) j ≡ used_at u j
  unmarked_there j n = sym (rw again at (marked_there (u - 2 ^ i) i unmarked_here j n))

-- ---- the loaded count

ones_mark : (u i : ℕ) → bit u i ≡ 0 → ones (u + 2 ^ i) ≡ ones u + 1
ones_mark u zero e =
    let z : u % 2 ≡ 0 = sym (bit_zero u) ∙ e in
    let a : (u + 1) / 2 ≡ u / 2 = omega arith in
    omega (arith, ones_step u, ones_step (u + 1), ap ones a)
ones_mark u (suc i) e =
    let ih = ones_mark (u / 2) i (sym (bit_suc u i) ∙ e) in
    let p = pow-suc 2 i in
    let q : (u + 2 ^ suc i) / 2 ≡ u / 2 + 2 ^ i = omega arith in
    omega (arith, ones_step u, ones_step (u + 2 ^ suc i), ap ones q)

-- marking a free slot makes one slot more
pub marked_count : (u i : ℕ) → used_at u i ≡ false → ones (u + 2 ^ i) ≡ ones u + 1
marked_count u i e = ones_mark u i (unused u i e)

-- unmarking a used slot makes one less
pub unmarked_count : (u i : ℕ) → used_at u i ≡ true → ones (u - 2 ^ i) + 1 ≡ ones u
unmarked_count u i e = sym (marked_count (u - 2 ^ i) i (unmarked_here u i e)) ∙ ap ones (again u i e)

-- ---- the lowest free slot

-- of k slots
unfoldable free : ℕ → ℕ → ℕ
free k u = count_trailing_zeros k (2 ^ k - 1 - u)

parity : (u : ℕ) → (u % 2 ≡ 0) ⊎ (u % 2 ≡ 1)
parity u = go (u % 2) (omega arith)
  where
    go : (r : ℕ) → r < 2 → (r ≡ 0) ⊎ (r ≡ 1)
    go zero h = inl refl
    go (suc zero) h = inr refl
    go (suc (suc r)) h = absurd (omega arith)

module _ (k u : ℕ) (h : u < 2 ^ suc k) where
  free_even : u % 2 ≡ 0 → free (suc k) u ≡ 0
  unfolding free count_trailing_zeros
  free_even e = rw (let d = double k u h in let x : (2 ^ suc k - 1 - u) % 2 ≡ 1 = omega arith in x)

  free_odd : u % 2 ≡ 1 → free (suc k) u ≡ suc (free k (u / 2))
  unfolding free count_trailing_zeros
  free_odd e =
      let d = double k u h in
      let x : (2 ^ suc k - 1 - u) % 2 ≡ 0 = omega arith in
      let y : (2 ^ suc k - 1 - u) / 2 ≡ 2 ^ k - 1 - u / 2 = omega arith in
      rw (x, y)

free_below : (k u i : ℕ) → u < 2 ^ k → i < free k u → bit u i ≡ 1
unfolding free count_trailing_zeros
free_below zero u i h l = absurd (not-suc-le-zero l)
free_below (suc k) u zero h l = go (parity u)
  where
    go : (u % 2 ≡ 0) ⊎ (u % 2 ≡ 1) → bit u 0 ≡ 1
    go (inl e) = let x = free_even k u h e in absurd (omega arith)
    go (inr e) = bit_zero u ∙ e
free_below (suc k) u (suc i) h l = bit_suc u i ∙ go (parity u) (λ q. free_below k (u / 2) i (half_below k u h) q)
  where
    go : (u % 2 ≡ 0) ⊎ (u % 2 ≡ 1) → (i < free k (u / 2) → bit (u / 2) i ≡ 1) → bit (u / 2) i ≡ 1
    go (inl e) ih = let x = free_even k u h e in absurd (omega arith)
    go (inr e) ih = ih (let x = free_odd k u h e in omega arith)

free_at : (k u : ℕ) → u < 2 ^ k → free k u < k → bit u (free k u) ≡ 0
free_at zero u h l = absurd (not-suc-le-zero l)
free_at (suc k) u h l = go (parity u) (λ q. free_at k (u / 2) (half_below k u h) q)
  where
    go : (u % 2 ≡ 0) ⊎ (u % 2 ≡ 1) → (free k (u / 2) < k → bit (u / 2) (free k (u / 2)) ≡ 0) → bit u (free (suc k) u) ≡ 0
    go (inl e) ih = rw (free_even k u h e) (bit_zero u ∙ e)
    go (inr e) ih = rw (free_odd k u h e) (bit_suc u (free k (u / 2)) ∙ ih (let x = free_odd k u h e in omega arith))

free_some : (k u : ℕ) → u < 2 ^ k → (u ≡ 2 ^ k - 1 → ⊥) → free k u < k
free_some zero u h n = absurd (n (let y : u ≡ 0 = omega arith in y))
free_some (suc k) u h n = go (parity u) (λ m. free_some k (u / 2) (half_below k u h) m)
  where
    go : (u % 2 ≡ 0) ⊎ (u % 2 ≡ 1) → ((u / 2 ≡ 2 ^ k - 1 → ⊥) → free k (u / 2) < k) → free (suc k) u < suc k
    go (inl e) ih = let x = free_even k u h e in omega arith
    go (inr e) ih =
        let x = free_odd k u h e in
        let y = ih (λ q. n (let d = double k u h in let z : u ≡ 2 ^ suc k - 1 = omega arith in z)) in
        omega arith

module _ (u : ℕ) (h : u < 2 ^ 32) where
  -- unless all are used some slot of the 32 is free
  pub free_slot_law : (u ≡ 2 ^ 32 - 1 → ⊥) → free_slot u < 32
  unfolding free_slot free
  free_slot_law n = free_some 32 u h n

  -- the slot found is free
  pub free_slot_free : free_slot u < 32 → used_at u (free_slot u) ≡ false
  unfolding free_slot free
  free_slot_free l = is_unused u (free_slot u) (free_at 32 u h l)

  -- every lower slot is used
  pub free_slot_lowest : (i : ℕ) → i < free_slot u → used_at u i ≡ true
  unfolding free_slot free
  free_slot_lowest i l = is_used_at u i (free_below 32 u i h l)

-- with all used there is none
pub free_slot_full : free_slot (2 ^ 32 - 1) ≡ 32
unfolding free_slot
free_slot_full = trailing_of_zero 32

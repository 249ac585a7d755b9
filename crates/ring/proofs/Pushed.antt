-- Samples pushed into a ring: in pieces, straight into the store, and what then waits. Assumes nothing.
use mathlib.Core.Path.{◌≡◌, refl, sym, ap, ◌∙◌}
use mathlib.Core.List.{List, [], ◌∷◌, ◌++◌, append_assoc, append-nil}
use Prim.Native.Nat.{ℕ, zero, suc, ◌+◌, ◌%◌, ◌≤◌, ◌<◌}
use native.Mathlib.Nat.{mod_self, mod-eq_of_lt}
use native.Mathlib.Numerals.{add-one}
use native.Mathlib.Omega.{arith}
use lib.ListN.{length, get_or, set, take, drop, length-set, length-append}
use lib.Seq.{sets, sets-eq, get_or-set_same, get_or-set_other}
use lib.Ieee.{Float, nan}
use Rattle.ring.specs.declared.SampleRing.{SampleRing}
use Rattle.ring.specs.Ring.{ring_at, Within, held_of, place_at, from, waiting, pushed}
use Rattle.ring.proofs.Places.{place_straight, place_lt, place_on, place_same, place_apart, tail_at, held_of_law}

-- the store keeps its length
pub pushed_length : (n : ℕ) (store : List Float) (t : ℕ) (xs : List Float) → length (pushed n store t xs) ≡ length store
unfolding pushed
pushed_length n store t [] = refl
pushed_length n store t (x ∷ xs) = pushed_length n (set store (place_at n t 0) x) (t + 1) xs ∙ length-set store (place_at n t 0) x

-- in pieces
pub pushed_append : (n : ℕ) (store : List Float) (t : ℕ) (xs ys : List Float)
    → pushed n store t (xs ++ ys) ≡ pushed n (pushed n store t xs) (t + length xs) ys
unfolding pushed
pushed_append n store t [] ys = ap (λ (k : ℕ). pushed n store k ys) (omega arith)
pushed_append n store t (x ∷ xs) ys =
    pushed_append n (set store (place_at n t 0) x) (t + 1) xs ys
    ∙ ap (λ (k : ℕ). pushed n (pushed n (set store (place_at n t 0) x) (t + 1) xs) k ys) (omega arith)

-- a place counts as it lies in the store
pub pushed_place : (n : ℕ) (store : List Float) (t k : ℕ) (xs : List Float) → place_at n t 0 ≡ place_at n k 0 → pushed n store t xs ≡ pushed n store k xs
unfolding pushed place_at
pushed_place n store t k [] e = refl
pushed_place n store t k (x ∷ xs) e =
    ap (λ (j : ℕ). pushed n (set store j x) (t + 1) xs) e
    ∙ pushed_place n (set store (place_at n k 0) x) (t + 1) (k + 1) xs (next t ∙ ap (λ (j : ℕ). place_at n j 1) e ∙ sym (next k))
  where
    next : (j : ℕ) → place_at n (j + 1) 0 ≡ place_at n (place_at n j 0) 1
    next j = ap (λ (i : ℕ). i % n) (omega arith) ∙ sym (place_on n j 0 1)

-- before the end: straight into the store
pub pushed_straight : (store : List Float) (t : ℕ) (xs : List Float) → t + length xs ≤ length store
    → pushed (length store) store t xs ≡ take t store ++ (xs ++ drop (t + length xs) store)
unfolding pushed
pushed_straight store t xs h = by (length store) xs store t refl h ∙ sets-eq xs store t h ∙ append_assoc (take t store) xs (drop (t + length xs) store)
  where
    by : (n : ℕ) (xs store : List Float) (t : ℕ) → n ≡ length store → t + length xs ≤ n → pushed n store t xs ≡ sets store t xs
    by n [] store t e h = refl
    by n (x ∷ xs) store t e h =
        let p : place_at n t 0 ≡ t = place_straight n t 0 (omega arith) ∙ omega arith in
        ap (λ (j : ℕ). pushed n (set store j x) (t + 1) xs) p
        ∙ by n xs (set store t x) (t + 1) (e ∙ sym (length-set store t x)) (omega arith)
        ∙ ap (λ (j : ℕ). sets (set store t x) j xs) (add-one t)

-- over the end: two samples from the last place on
pub pushed_across : (store : List Float) (t : ℕ) → t + 1 ≡ length store → (x y : Float) → pushed (length store) store t (x ∷ (y ∷ [])) ≡ set (set store t x) 0 y
unfolding pushed place_at
pushed_across store t e x y =
    let l : t + 0 < length store = omega arith in
    let a : (t + 0) % length store ≡ t = mod-eq_of_lt l ∙ omega arith in
    let z : t + 1 + 0 ≡ length store = omega arith in
    let b : (t + 1 + 0) % length store ≡ 0 = ap (λ (i : ℕ). i % length store) z ∙ mod_self (length store) in
    rw (a, b)

-- a store elsewhere does not change what is read
from_other : (store : List Float) (h t : ℕ) (x : Float) (k : ℕ) → ((i : ℕ) → i < k → place_at (length store) h i ≡ t → ⊥)
    → from (set store t x) h k ≡ from store h k
unfolding from
from_other store h t x zero f = refl
from_other store h t x (suc k) f =
    rw (from_other store h t x k (λ i l. f i (omega arith)), length-set store t x, get_or-set_other store t (place_at (length store) h k) x nan (f k (omega arith)))

-- one sample pushed behind what waits is read last
from_push : (store : List Float) (h k : ℕ) → h < length store → k < length store → (x : Float)
    → from (set store (place_at (length store) h k) x) h (suc k) ≡ from store h k ++ (x ∷ [])
unfolding from
from_push store h k hn kn x =
    rw (
      from_other store h (place_at (length store) h k) x k (λ i l. place_apart (length store) h hn i k l kn),
      length-set store (place_at (length store) h k) x,
      get_or-set_same store (place_at (length store) h k) x nan (place_lt (length store) h k (omega arith)),
    )

-- what is pushed behind k samples that wait is read after them, in order
pub from_pushed : (xs store : List Float) (h k : ℕ) → h < length store → k + length xs ≤ length store
    → from (pushed (length store) store (h + k) xs) h (k + length xs) ≡ from store h k ++ xs
unfolding pushed place_at
from_pushed [] store h k hn f = let e : k + 0 ≡ k = omega arith in rw e (sym (append-nil (from store h k)))
from_pushed (x ∷ xs) store h k hn f =
    let n : ℕ = length store in
    let p : ℕ = place_at n h k in
    let st : List Float = set store p x in
    let ln : length st ≡ n = length-set store p x in
    let here : place_at n (h + k) 0 ≡ p = same n in
    let step : h + k + 1 ≡ h + suc k = omega arith in
    let all : k + suc (length xs) ≡ suc k + length xs = omega arith in
    let rec : from (pushed (length st) st (h + suc k) xs) h (suc k + length xs) ≡ from st h (suc k) ++ xs =
    from_pushed xs st h (suc k) (omega arith) (omega arith) in
    rw (here, step, all) (rw ln at rec ∙ ap (λ (l : List Float). l ++ xs) (from_push store h k hn (omega arith) x) ∙ append_assoc (from store h k) (x ∷ []) xs)
  where
    same : (n : ℕ) → place_at n (h + k) 0 ≡ place_at n h k
    same n = ap (λ (i : ℕ). i % n) (omega arith)

-- taken from the front, the rest waits
pub from_on : (store : List Float) (h i k : ℕ) → from store h (i + k) ≡ from store h i ++ from store (place_at (length store) h i) k
unfolding from
from_on store h i zero = let e : i + 0 ≡ i = omega arith in rw e (sym (append-nil (from store h i)))
from_on store h i (suc k) =
    let e : i + suc k ≡ suc (i + k) = omega arith in
    rw (e, place_on (length store) h i k, from_on store h i k, append_assoc)

-- so many samples
pub from_length : (store : List Float) (h k : ℕ) → length (from store h k) ≡ k
unfolding from
from_length store h zero = refl
from_length store h (suc k) =
    let r : List Float = get_or store (place_at (length store) h k) nan ∷ [] in
    omega (arith, length-append (from store h k) r, from_length store h k)

-- ---- a ring

module _ (r : SampleRing) (store xs : List Float) where
  -- the ring with its tail past samples pushed from there on
  abbrev behind : SampleRing
  behind = ring_at r.head (place_at (length store) r.tail (length xs))

  module _ (w : Within (length store) r) where
    -- it stays within its store,
    pub behind_within : Within (length (pushed (length store) store r.tail xs)) behind
    behind_within =
        rw (pushed_length (length store) store r.tail xs)
        (record { least = w.least; most = w.most; head = w.head; tail = place_lt (length store) r.tail (length xs) (omega (arith, w.least)) })

    module _ (fits : length xs + held_of (length store) r < length store) where
      -- so many more wait,
      pub behind_held : held_of (length store) behind ≡ held_of (length store) r + length xs
      behind_held =
          let n : ℕ = length store in
          let k : ℕ = held_of n r in
          let e : place_at n r.tail (length xs) ≡ place_at n r.head (k + length xs) =
          ap (λ (j : ℕ). place_at n j (length xs)) (sym (tail_at n r w)) ∙ place_on n r.head k (length xs) in
          ap (λ (j : ℕ). held_of n (ring_at r.head j)) e ∙ held_of_law n r.head (k + length xs) w.head (omega arith)

      -- and they are heard after those that waited
      pub behind_waits : waiting behind (pushed (length store) store r.tail xs) ≡ waiting r store ++ xs
      behind_waits =
          let n : ℕ = length store in
          let k : ℕ = held_of n r in
          let st : List Float = pushed n store r.tail xs in
          let here : st ≡ pushed n store (r.head + k) xs =
          pushed_place n store r.tail (r.head + k) xs (ap (λ (j : ℕ). place_at n j 0) (sym (tail_at n r w)) ∙ place_same n r.head k) in
          let all : held_of (length st) behind ≡ k + length xs = ap (λ (j : ℕ). held_of j behind) (pushed_length n store r.tail xs) ∙ behind_held in
          ap (from st r.head) all ∙ ap (λ (y : List Float). from y r.head (k + length xs)) here ∙ from_pushed xs store r.head k w.head (omega arith)

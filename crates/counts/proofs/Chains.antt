-- Tests at every number below k, as an iterator's `all`, `any` and `count` make them. Assumes nothing.
use Rattle.std.proofs.Common.{◌≡◌, ℕ, zero, suc, ◌+◌, Bool, true, false, ◌&&◌, ◌||◌, cond, List, [], ◌∷◌, length, get_or, refl, sym, ap, ◌∙◌, arith}
use Rattle.std.proofs.lemmas.List.Sums.{sum_by-cons}
use Rattle.std.specs.List.{range_with_len, list_all, list_any, count_by}
use Rattle.counts.specs.Below.{all_below, any_below, count_below}
use Rattle.counts.proofs.Truth.{never, and_assoc}

-- ---- the first number first

module _ (f : ℕ → Bool) where
  all_front : (k : ℕ) → all_below (suc k) f ≡ f 0 && all_below k (λ i. f (suc i))
  unfolding all_below
  all_front zero = one (f 0)
    where
      one : (b : Bool) → true && b ≡ b && true
      one true = refl
      one false = refl
  all_front (suc k) = rw (all_front k) (and_assoc (f 0) (all_below k (λ i. f (suc i))) (f (suc k)))

  any_front : (k : ℕ) → any_below (suc k) f ≡ f 0 || any_below k (λ i. f (suc i))
  unfolding any_below
  any_front zero = one (f 0)
    where
      one : (b : Bool) → false || b ≡ b || false
      one true = refl
      one false = refl
  any_front (suc k) = rw (any_front k) (assoc (f 0) (any_below k (λ i. f (suc i))) (f (suc k)))
    where
      assoc : (a b c : Bool) → (a || b) || c ≡ a || (b || c)
      assoc true b c = refl
      assoc false b c = refl

  count_front : (k : ℕ) → count_below (suc k) f ≡ cond (f 0) (count_below k (λ i. f (suc i)) + 1) (count_below k (λ i. f (suc i)))
  unfolding count_below
  count_front zero = refl
  count_front (suc k) = rw (count_front k) (swap (f 0) (f (suc k)) (count_below k (λ i. f (suc i))))
    where
      swap : (a b : Bool) (n : ℕ) → cond b (cond a (n + 1) n + 1) (cond a (n + 1) n) ≡ cond a (cond b (n + 1) n + 1) (cond b (n + 1) n)
      swap true true n = refl
      swap true false n = refl
      swap false true n = refl
      swap false false n = refl

-- ---- over a list

-- the test of every place of a list is the test of every item
pub all_of_list : {X : Type 0} (p : X → Bool) (xs : List X) (d : X) → list_all p xs ≡ all_below (length xs) (λ i. p (get_or xs i d))
unfolding all_below
all_of_list p [] d = refl
all_of_list p (x ∷ xs) d = rw (all_front (λ i. p (get_or (x ∷ xs) i d)) (length xs)) (ap (λ b. p x && b) (all_of_list p xs d))

-- ---- over the numbers below k

module _ (f : ℕ → Bool) where
  moved : (g : ℕ → Bool) (a : ℕ) → ((i : ℕ) → g i ≡ f (a + i)) → (i : ℕ) → g (suc i) ≡ f (a + 1 + i)
  moved g a h i = h (suc i) ∙ ap f (let e : a + suc i ≡ a + 1 + i = omega arith in e)

  here : (g : ℕ → Bool) (a : ℕ) → ((i : ℕ) → g i ≡ f (a + i)) → f a ≡ g 0
  here g a h = ap f (let e : a ≡ a + 0 = omega arith in e) ∙ sym (h 0)

  all_from : (g : ℕ → Bool) (a k : ℕ) → ((i : ℕ) → g i ≡ f (a + i)) → list_all f (range_with_len a k) ≡ all_below k g
  unfolding all_below
  all_from g a zero h = refl
  all_from g a (suc k) h = rw (here g a h, all_from (λ i. g (suc i)) (a + 1) k (moved g a h)) (sym (all_front g k))

  any_from : (g : ℕ → Bool) (a k : ℕ) → ((i : ℕ) → g i ≡ f (a + i)) → list_any f (range_with_len a k) ≡ any_below k g
  unfolding any_below
  any_from g a zero h = refl
  any_from g a (suc k) h = rw (here g a h, any_from (λ i. g (suc i)) (a + 1) k (moved g a h)) (sym (any_front g k))

  count_from : (g : ℕ → Bool) (a k : ℕ) → ((i : ℕ) → g i ≡ f (a + i)) → count_by f (range_with_len a k) ≡ count_below k g
  unfolding count_below
  count_from g a zero h = refl
  count_from g a (suc k) h =
      sum_by-cons (λ i. cond (f i) 1 0) a (range_with_len (a + 1) k)
      ∙ one (f a) (g 0) (here g a h) (count_from (λ i. g (suc i)) (a + 1) k (moved g a h))
      ∙ sym (count_front g k)
    where
      one : (b c : Bool) {m n : ℕ} → b ≡ c → m ≡ n → cond b 1 0 + m ≡ cond c (n + 1) n
      one true true d e = omega arith
      one false false d e = omega arith
      one true false d e = absurd (never d)
      one false true d e = absurd (never (sym d))

  same : (i : ℕ) → f i ≡ f (0 + i)
  same i = ap f (let e : i ≡ 0 + i = omega arith in e)

  pub all_of_range : (k : ℕ) → list_all f (range_with_len 0 k) ≡ all_below k f
  all_of_range k = all_from f 0 k same

  pub any_of_range : (k : ℕ) → list_any f (range_with_len 0 k) ≡ any_below k f
  any_of_range k = any_from f 0 k same

  pub count_of_range : (k : ℕ) → count_by f (range_with_len 0 k) ≡ count_below k f
  count_of_range k = count_from f 0 k same

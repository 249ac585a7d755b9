-- The library's test of some element is the test at some number below k. Assumes nothing.
use mathlib.Core.Path.{◌≡◌, refl, sym, ap, ◌∙◌}
use mathlib.Core.Bool.{Bool, true, false, ◌||◌}
use mathlib.Core.List.{List}
use Prim.Native.Nat.{ℕ, zero, suc, ◌+◌, ◌≤◌}
use native.Mathlib.Numerals.{add-one}
use native.Mathlib.Nat.{add-zero}
use native.Mathlib.Omega.{arith}
use lib.ListN.{length, take, get_or}
use Rattle.std.specs.List.{list_any, range_with_len}
use Rattle.std.proofs.lemmas.List.Folds.{list_any_more}
use Rattle.counts.specs.Below.{any_below}

-- of the first elements of a list,
pub any_taken : (p : ℕ → Bool) (xs : List ℕ) (i : ℕ) → i ≤ length xs → list_any p (take i xs) ≡ any_below i (λ j. p (get_or xs j 0))
unfolding any_below
any_taken p xs zero h = refl
any_taken p xs (suc i) h = rw (← add-one i) (list_any_more p xs i 0 (omega arith)) ∙ ap (λ b. b || p (get_or xs i 0)) (any_taken p xs i (omega arith))

-- and of the first numbers
or_none_r : (a : Bool) → a || false ≡ a
or_none_r true = refl
or_none_r false = refl

or_mixed : (a b c : Bool) → (a || b) || c ≡ a || (b || c)
or_mixed true b c = refl
or_mixed false b c = refl

any_from : (f : ℕ → Bool) (n a : ℕ) → any_below (a + n) f ≡ any_below a f || list_any f (range_with_len a n)
unfolding any_below
any_from f zero a = rw (add-zero a) (sym (or_none_r (any_below a f)))
any_from f (suc n) a =
    let e : a + suc n ≡ suc a + n = omega arith in
    rw (e, add-one a) (any_from f n (suc a) ∙ or_mixed (any_below a f) (f a) (list_any f (range_with_len (suc a) n)))

pub any_range : (f : ℕ → Bool) (n : ℕ) → list_any f (range_with_len 0 n) ≡ any_below n f
unfolding any_below
any_range f n = let e : 0 + n ≡ n = omega arith in rw e at (sym (any_from f n 0))

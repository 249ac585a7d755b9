-- Adding floats: the order of two does not matter, to the bit. Assumes nothing.
use mathlib.Core.Path.{◌≡◌, refl, ap, ◌∙◌}
use mathlib.Core.Bool.{Bool, true, false, cond}
use Prim.Native.Nat.{ℕ, ◌-◌, ◌*◌}
use native.Mathlib.Nat.{add_comm, mul_comm}
use native.Mathlib.Omega.{arith}
use lib.Dec.{ltb}
use lib.Ieee.{Float, Format, nan, inf, fin, up, down, round, sum, add}
use borrow.Author.Tests.{ltb-true, ltb-false}

module _ (f : Format) where
  sum_swap : (s : Bool) (a : ℕ) (t : Bool) (b c : ℕ) → sum f s a t b c ≡ sum f t b s a c
  unfolding sum
  sum_swap true a true b c = ap (λ n. round f true n c) (add_comm a b)
  sum_swap false a false b c = ap (λ n. round f false n c) (add_comm a b)
  sum_swap true a false b c = go (ltb a b) (ltb b a) refl refl
    where
      go : (p q : Bool) → ltb a b ≡ p → ltb b a ≡ q → cond p (round f false (b - a) c) (round f q (a - b) c) ≡ cond q (round f true (a - b) c) (round f false (b - a) c)
      go true true u v = absurd (omega (arith, ltb-true a b u, ltb-true b a v))
      go true false u v = refl
      go false true u v = refl
      go false false u v = let e : a - b ≡ b - a = omega (arith, ltb-false a b u, ltb-false b a v) in ap (λ n. round f false n c) e
  sum_swap false a true b c = go (ltb a b) (ltb b a) refl refl
    where
      go : (p q : Bool) → ltb a b ≡ p → ltb b a ≡ q → cond p (round f true (b - a) c) (round f false (a - b) c) ≡ cond q (round f false (a - b) c) (round f p (b - a) c)
      go true true u v = absurd (omega (arith, ltb-true a b u, ltb-true b a v))
      go true false u v = refl
      go false true u v = refl
      go false false u v = let e : a - b ≡ b - a = omega (arith, ltb-false a b u, ltb-false b a v) in ap (λ n. round f false n c) e

  pub add_swap : (x y : Float) → add f x y ≡ add f y x
  unfolding add
  add_swap nan nan = refl
  add_swap nan (inf t) = refl
  add_swap nan (fin t n d) = refl
  add_swap (inf s) nan = refl
  add_swap (inf true) (inf true) = refl
  add_swap (inf true) (inf false) = refl
  add_swap (inf false) (inf true) = refl
  add_swap (inf false) (inf false) = refl
  add_swap (inf s) (fin t n d) = refl
  add_swap (fin s m e) nan = refl
  add_swap (fin s m e) (inf t) = refl
  add_swap (fin s m e) (fin t n d) =
      sum_swap s (m * up e * down d) t (n * up d * down e) (down e * down d) ∙ ap (λ c. sum f t (n * up d * down e) s (m * up e * down d) c) (mul_comm (down e) (down d))

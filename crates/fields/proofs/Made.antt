-- An array that is made by calls of a closure which gives the same at each call. Assumes nothing.
use mathlib.Core.Path.{◌≡◌, subst, ◌∙◌}
use mathlib.Core.List.{List}
use mathlib.Core.Logic.{⊎_elim}
use Prim.Native.Nat.{ℕ, zero, suc, ◌+◌, ◌<◌, ◌≤◌}
use native.Mathlib.Omega.{arith}
use denote.Param.Members.{Mut}
use lib.ListN.{get_or}
use Rattle.counts.proofs.Truth.{lt_or_le}
use Rattle.std.specs.Array.{IsFromFnResultFrom}
use Rattle.std.specs.Fn.{Called}

module _ {F : Type 0} (g : Mut F (ℕ × Unit {0}) ℕ) (v : ℕ → ℕ) (f : F) (same : (x y : ℕ) (q : F) → Called g f (x, tt) y q → (q ≡ f) × (y ≡ v x)) (ys : List ℕ) where
  pub made_from : (n i : ℕ) → IsFromFnResultFrom g f ys i n → (k : ℕ) → i ≤ k → k < i + n → get_or ys k 0 ≡ v k
  made_from zero i h k a b = absurd (omega arith)
  made_from (suc n) i h k a b =
      let s = same i h.1 h.0 h.3 in
      let rest : IsFromFnResultFrom g f ys (i + 1) n = subst (λ p. IsFromFnResultFrom g p ys (i + 1) n) s.0 h.4 in
      ⊎_elim (λ (l : i < k). made_from n (i + 1) rest k (omega arith) (omega arith))
      (λ (l : k ≤ i). let e : i ≡ k = omega arith in subst (λ j. get_or ys j 0 ≡ v j) e (h.2.1 0 ∙ s.1)) (lt_or_le i k)

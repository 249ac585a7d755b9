-- What a call gives, once it is weighed. Assumes nothing.
use mathlib.Core.Path.{◌≡◌, refl}
use Prim.Native.Nat.{ℕ, zero, suc}
use Rattle.host.specs.Answers.{unless}

module _ {A : Type 0} {r : A} where
  -- weighed with another number than 0, it gives what it gives for the number
  pub call_refused : (n m : ℕ) (f : ℕ → A) (x : A) → n ≡ m → (n ≡ 0 → ⊥) → r ≡ f n → r ≡ unless m f x
  unfolding unless
  call_refused zero m f x e h g = absurd (h refl)
  call_refused (suc n) m f x e h g = rw (← e) g

  -- weighed with 0, it gives what it does
  pub call_done : (n m : ℕ) (f : ℕ → A) (x : A) → n ≡ m → n ≡ 0 → r ≡ x → r ≡ unless m f x
  unfolding unless
  call_done n m f x e h g = rw (← e, h) g

-- Tests on numbers that the code makes without the product, which may pass 64 bits. Assumes nothing.
use mathlib.Core.Path.{◌≡◌, refl, sym}
use mathlib.Core.Bool.{Bool, true, false}
use Prim.Native.Nat.{ℕ, ◌*◌, ◌/◌}
use native.Mathlib.Omega.{arith}
use borrow.Author.Tests.{lt-ltb, ltb-true}
use lib.Dec.{ltb}

-- two tests agree if each holds where the other does
pub agree : (a b : Bool) → (a ≡ true → b ≡ true) → (b ≡ true → a ≡ true) → a ≡ b
agree true b f g = sym (f refl)
agree false true f g = g refl
agree false false f g = refl

-- a sample's place is inside so many frames if its frame is one of them
pub inside_frames : (k n : ℕ) → ltb (k / 2) n ≡ ltb k (n * 2)
inside_frames k n =
    agree (ltb (k / 2) n) (ltb k (n * 2))
    (λ e. let a = ltb-true (k / 2) n e in lt-ltb k (n * 2) (omega arith))
    (λ e. let a = ltb-true k (n * 2) e in lt-ltb (k / 2) n (omega arith))

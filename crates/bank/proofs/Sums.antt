-- Tests on numbers that the code makes without the sum or the product, which may pass 64 bits. Assumes nothing.
use mathlib.Core.Path.{◌≡◌, sym, ◌∙◌}
use mathlib.Core.Bool.{true, false, not, ◌&&◌}
use mathlib.Core.Logic.{◌⊎◌, inl, inr}
use Prim.Native.Nat.{ℕ, ◌+◌, ◌-◌, ◌*◌, ◌/◌, ◌%◌, ◌≤◌}
use native.Mathlib.Omega.{arith}
use borrow.Author.Tests.{le-leb, lt-leb, leb-true, leb-false, eq-eqb, ne_eqb, eqb-true, eqb-false}
use lib.Dec.{leb, eqb}
use Rattle.counts.proofs.Truth.{two_ways, and_true, and_false_l, and_false_r, not_false}

-- a summand may stand on the other side
pub leb_move : (a f r : ℕ) → f ≤ r → leb a (r - f) ≡ leb (a + f) r
leb_move a f r h = go (two_ways (leb a (r - f)))
  where
    go : (leb a (r - f) ≡ true) ⊎ (leb a (r - f) ≡ false) → leb a (r - f) ≡ leb (a + f) r
    go (inl e) = let l = leb-true a (r - f) e in e ∙ sym (le-leb (a + f) r (omega arith))
    go (inr e) = let l = leb-false a (r - f) e in e ∙ sym (lt-leb (a + f) r (omega arith))

-- a number is twice another if it is even and its half is that
pub eqb_half : (l f : ℕ) → not (eqb (l % 2) 1) && eqb (l / 2) f ≡ eqb l (f * 2)
eqb_half l f = go (two_ways (eqb l (f * 2)))
  where
    go : (eqb l (f * 2) ≡ true) ⊎ (eqb l (f * 2) ≡ false) → not (eqb (l % 2) 1) && eqb (l / 2) f ≡ eqb l (f * 2)
    go (inl e) =
        let q = eqb-true l (f * 2) e in
        and_true (not_false (ne_eqb (l % 2) 1 (λ x. let y : ⊥ = omega arith in y))) (eq-eqb (l / 2) f (omega arith)) ∙ sym e
    go (inr e) = odd (two_ways (eqb (l % 2) 1)) ∙ sym e
      where
        odd : (eqb (l % 2) 1 ≡ true) ⊎ (eqb (l % 2) 1 ≡ false) → not (eqb (l % 2) 1) && eqb (l / 2) f ≡ false
        odd (inl p) = let q : not (eqb (l % 2) 1) ≡ false = rw p in and_false_l (eqb (l / 2) f) q
        odd (inr p) =
            let n = eqb-false (l % 2) 1 p in
            let m = eqb-false l (f * 2) e in
            and_false_r (not (eqb (l % 2) 1)) (ne_eqb (l / 2) f (λ x. m (omega arith)))

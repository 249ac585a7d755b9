-- Ticks of a ramp: it moves while frames remain, and then stands still. Assumes nothing.
use mathlib.Core.Path.{◌≡◌, refl, sym, ap, ◌∙◌}
use mathlib.Core.Bool.{Bool, true, false, cond}
use mathlib.Core.Logic.{⊎_elim}
use Prim.Native.Nat.{ℕ, zero, suc, ◌+◌, ◌-◌, ◌≤◌, ◌<◌}
use native.Mathlib.Nat.{add-zero}
use native.Mathlib.Numerals.{add-one}
use native.Mathlib.Omega.{arith}
use lib.Dec.{ltb, eqb}
use lib.Ieee.{Float, binary32, add}
use Rattle.ramp.specs.declared.Ramp.{Ramp}
use Rattle.ramp.specs.declared.Ticked.{Ticked}
use Rattle.ramp.specs.Ramp.{moved_to, tick_of}
use Rattle.ramp.proofs.Kept.{tick_remaining}
use Rattle.sweeps.specs.Adds.{ticks_of, gain_at}
use Rattle.sweeps.proofs.Over.{lt_or_ge}

-- a ramp of which nothing remains stands still
pub tick_rest : (r : Ramp) → r.remaining ≡ 0 → tick_of r ≡ record { ramp = r; value = r.value }
tick_rest r e = rw e refl

pub ticks_rest : (n : ℕ) (r : Ramp) → r.remaining ≡ 0 → ticks_of n r ≡ r
unfolding ticks_of
ticks_rest zero r e = refl
ticks_rest (suc n) r e = ap (λ u. (tick_of u).ramp) (ticks_rest n r e) ∙ ap (λ t. t.ramp) (tick_rest r e)

-- the value that a frame has is the ramp's after it
pub tick_value : (r : Ramp) → (tick_of r).value ≡ (tick_of r).ramp.value
tick_value r = go (ltb 0 r.remaining) (eqb (r.remaining - 1) 0) (add binary32 r.value r.step)
  where
    go : (a b : Bool) (v : Float)
        → let t : Ticked = cond a (cond b (moved_to r r.target) (moved_to r v)) (record { ramp = r; value = r.value }) in t.value ≡ t.ramp.value
    go true true v = refl
    go true false v = refl
    go false b v = refl

-- one tick more
pub ticks_on : (n : ℕ) (r : Ramp) → (tick_of (ticks_of n r)).ramp ≡ ticks_of (n + 1) r
unfolding ticks_of
ticks_on n r = rw add-one refl

gain_on : (n : ℕ) (r : Ramp) → gain_at r n ≡ (ticks_of (n + 1) r).value
gain_on n r = tick_value (ticks_of n r) ∙ ap (λ u. u.value) (ticks_on n r)

-- so many ticks, and then so many
pub ticks_add : (a b : ℕ) (r : Ramp) → ticks_of (a + b) r ≡ ticks_of b (ticks_of a r)
unfolding ticks_of
ticks_add a zero r = rw add-zero refl
ticks_add a (suc b) r = let e : a + suc b ≡ suc (a + b) = omega arith in rw e (ap (λ u. (tick_of u).ramp) (ticks_add a b r))

pub gain_add : (a b : ℕ) (r : Ramp) → gain_at (ticks_of a r) b ≡ gain_at r (a + b)
gain_add a b r = ap (λ u. (tick_of u).value) (sym (ticks_add a b r))

pub ticks_remaining : (n : ℕ) (r : Ramp) → (ticks_of n r).remaining ≡ r.remaining - n
unfolding ticks_of
ticks_remaining zero r = omega arith
ticks_remaining (suc n) r = omega (arith, tick_remaining (ticks_of n r), ticks_remaining n r)

-- once it has landed, it stays
pub ticks_landed : (m n : ℕ) (r : Ramp) → r.remaining ≤ m → m ≤ n → ticks_of n r ≡ ticks_of m r
ticks_landed m n r h l =
    let e : m + (n - m) ≡ n = omega arith in
    let z : (ticks_of m r).remaining ≡ 0 = omega (arith, ticks_remaining m r) in
    rw (← e) (ticks_add m (n - m) r ∙ ticks_rest (n - m) (ticks_of m r) z)

-- and so does its value
pub gain_landed : (m n : ℕ) (r : Ramp) → r.remaining ≤ m → m ≤ n → gain_at r n ≡ (ticks_of m r).value
gain_landed m n r h l = gain_on n r ∙ ap (λ u. u.value) (ticks_landed m (n + 1) r h (omega arith))

-- from frame j up to frame m its value stays: that is one frame, or it has landed in it
module _ (r : Ramp) (j m : ℕ) (h : j + 1 < m → r.remaining ≤ j + 1) where
  pub ticks_held : (k : ℕ) → j < k → k ≤ m → ticks_of k r ≡ ticks_of (j + 1) r
  ticks_held k a b =
      ⊎_elim
      (λ (i : j + 1 < k). ticks_landed (j + 1) k r (h (omega arith)) (omega arith))
      (λ (i : k ≤ j + 1). let e : k ≡ j + 1 = omega arith in rw e refl)
      (lt_or_ge (j + 1) k)

  pub gain_held : (k : ℕ) → j ≤ k → k < m → gain_at r k ≡ (ticks_of (j + 1) r).value
  gain_held k a b = gain_on k r ∙ ap (λ u. u.value) (ticks_held (k + 1) (omega arith) (omega arith))

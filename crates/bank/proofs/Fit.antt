-- Where a clip fits in the pool: the first fit is the lowest of all starts where it meets no loaded clip. Assumes nothing.
use mathlib.Core.Path.{◌≡◌, refl, sym, ap}
use mathlib.Core.Bool.{Bool, true, false, not, cond}
use mathlib.Core.Logic.{◌⊎◌, inl, inr}
use Prim.Native.Nat.{ℕ, zero, suc, ◌+◌, ◌≤◌, ◌<◌, min}
use native.Mathlib.Omega.{arith}
use native.Mathlib.Nat.{not-suc-le-zero, eq-or-lt_of_le, le_of_suc-le-suc}
use borrow.Author.Tests.{leb-true, ne_eqb}
use lib.Dec.{leb, eqb}
use Rattle.counts.specs.Below.{all_below}
use Rattle.counts.proofs.Truth.{two_ways, lt_or_le, never, and_l, and_r}
use Rattle.counts.proofs.Below.{all_at}
use Rattle.bank.specs.declared.Bank.{Bank}
use Rattle.bank.specs.Slots.{used_at, clip_in}
use Rattle.std.specs.Prelude.{Some, None}
use Rattle.std.specs.Option.{is_some}
use Rattle.bank.specs.Room.{apart, clear_at, fits, nowhere, start_at, lowest, first_fit}

-- ---- the lowest number that passes a test

module _ (p : ℕ → Bool) where
  abbrev Passes : ℕ → ℕ → Type 0
  Passes k x = (x ≡ nowhere) ⊎ (x < k) × (p x ≡ true)

  lowest_passes : (k : ℕ) → Passes k (lowest k p)
  unfolding lowest
  lowest_passes zero = inl refl
  lowest_passes (suc k) = both (lowest k p) (cond (p k) k nowhere) (more (lowest_passes k)) (last (two_ways (p k))) (lt_or_le (lowest k p) (cond (p k) k nowhere))
    where
      more : {x : ℕ} → Passes k x → Passes (suc k) x
      more (inl e) = inl e
      more (inr (l, e)) = inr (omega arith, e)

      last : (p k ≡ true) ⊎ (p k ≡ false) → Passes (suc k) (cond (p k) k nowhere)
      last (inl e) = rw e (inr (omega arith, e))
      last (inr e) = rw e (inl refl)

      both : (x y : ℕ) → Passes (suc k) x → Passes (suc k) y → (x < y) ⊎ (y ≤ x) → Passes (suc k) (min x y)
      both x y g h (inl l) = rw (let m : min x y ≡ x = omega arith in m) g
      both x y g h (inr l) = rw (let m : min x y ≡ y = omega arith in m) h

  lowest_least : (k t : ℕ) → t < k → p t ≡ true → lowest k p ≤ t
  unfolding lowest
  lowest_least zero t l e = absurd (not-suc-le-zero l)
  lowest_least (suc k) t l e = go (eq-or-lt_of_le (le_of_suc-le-suc l)) (λ q. lowest_least k t q e)
    where
      go : (t ≡ k) ⊎ (t < k) → (t < k → lowest k p ≤ t) → lowest (suc k) p ≤ t
      go (inl q) h = let x : cond (p k) k nowhere ≡ k = rw (sym (ap p q)) (rw e) in omega arith
      go (inr q) h = let x = h q in omega arith

-- ---- fits

module _ (b : Bank) (room n : ℕ) where
  -- where a clip fits it lies in the pool
  pub fit_lies : (s : ℕ) → fits b room n s ≡ true → s + n ≤ room
  unfolding fits
  fit_lies s e = leb-true (s + n) room (and_l (leb (s + n) room) (all_below 32 (clear_at b s n)) e)

  -- where a clip fits it meets no loaded clip
  pub fit_apart : (s i : ℕ) → fits b room n s ≡ true → i < 32 → used_at b.used i ≡ true → apart (clip_in b i) s n ≡ true
  unfolding fits
  fit_apart s i e l u = rw u at (all_at (clear_at b s n) 32 i (and_r (leb (s + n) room) (all_below 32 (clear_at b s n)) e) l)

  -- the first fit is no start at all, or a start where the clip fits
  pub first_fits : (first_fit b room n ≡ nowhere) ⊎ (fits b room n (first_fit b room n) ≡ true)
  unfolding first_fit
  first_fits = go (lowest_passes (fits b room n) room)
    where
      go : {x : ℕ} → Passes (fits b room n) room x → (x ≡ nowhere) ⊎ (fits b room n x ≡ true)
      go (inl e) = inl e
      go (inr (l, e)) = inr e

  -- the clip fits at no lower start
  pub first_lowest : 1 ≤ n → (t : ℕ) → t < first_fit b room n → fits b room n t ≡ false
  unfolding first_fit
  first_lowest h t l = go (two_ways (fits b room n t))
    where
      go : (fits b room n t ≡ true) ⊎ (fits b room n t ≡ false) → fits b room n t ≡ false
      go (inl e) = let d = fit_lies t e in let m = lowest_least (fits b room n) room t (omega arith) e in absurd (omega arith)
      go (inr e) = e

  -- if the first fit is no start at all, the clip fits at none
  pub nowhere_fits : 1 ≤ n → room ≤ nowhere → first_fit b room n ≡ nowhere → (t : ℕ) → fits b room n t ≡ false
  nowhere_fits h r e t = go (two_ways (fits b room n t))
    where
      go : (fits b room n t ≡ true) ⊎ (fits b room n t ≡ false) → fits b room n t ≡ false
      go (inl f) = let d = fit_lies t f in first_lowest h t (omega arith)
      go (inr f) = f

-- ---- a start, or none

-- a number below nowhere is a start
pub start_some : (s : ℕ) → s < nowhere → start_at s ≡ Some s
start_some s l = rw (ne_eqb s nowhere (omega arith)) refl

-- and no other
pub start_is : (s x : ℕ) → s < nowhere → start_at s ≡ Some x → x ≡ s
start_is s x l e = let f = start_some s l in cc

-- there is no start where the number is nowhere
pub start_none : (s : ℕ) (t : Bool) → is_some (start_at s) ≡ not t → eqb s nowhere ≡ t
start_none s t = go (eqb s nowhere) t
  where
    go : (b t : Bool) → is_some (cond b None (Some s)) ≡ not t → b ≡ t
    go true true e = refl
    go false false e = refl
    go true false e = absurd (never (sym e))
    go false true e = absurd (never e)

-- The first fit needs only a few starts tried: the lowest of the pool's front and the ends of loaded clips is the lowest of all starts.
-- Assumes nothing.
use mathlib.Core.Path.{◌≡◌, refl, sym, ap, ◌∙◌}
use mathlib.Core.Bool.{Bool, true, false, ◌&&◌, ◌||◌, cond}
use mathlib.Core.Logic.{◌⊎◌, inl, inr}
use Prim.Native.Nat.{ℕ, zero, suc, ◌+◌, ◌≤◌, ◌<◌, min}
use native.Mathlib.Omega.{arith}
use native.Mathlib.Nat.{not-suc-le-zero, eq-or-lt_of_le, le_of_suc-le-suc}
use borrow.Author.Tests.{le-leb, lt-leb, leb-true, leb-false, eqb-true, eqb-false, ne_eqb}
use lib.Dec.{leb, eqb}
use Rattle.counts.specs.Below.{all_below}
use Rattle.counts.proofs.Truth.{two_ways, lt_or_le, never, and_true, and_r, and_false_l, or_cases}
use Rattle.counts.proofs.Below.{all_search}
use Rattle.bank.specs.declared.Clip.{Clip}
use Rattle.bank.specs.declared.Bank.{Bank}
use Rattle.bank.specs.Slots.{used_at, clip_in}
use Rattle.std.specs.Prelude.{Option, Some, None}
use Rattle.std.specs.Bool.{then_some}
use Rattle.bank.specs.Room.{apart, end_in, clear_at, fits, nowhere, start_at, lower_of, first_fit}
use Rattle.bank.proofs.Fit.{fit_lies, fit_apart, first_fits, first_lowest, nowhere_fits}

neither : (a b : Bool) → a || b ≡ false → (a ≡ false) × (b ≡ false)
neither true b e = absurd (never e)
neither false b e = (refl, e)

-- a clip that is met at s and not at s + 1 ends at s + 1
ends_here : (c : Clip) (s n : ℕ) → apart c s n ≡ false → apart c (suc s) n ≡ true → c.start + c.frames ≡ suc s
unfolding apart
ends_here c s n e f = go (or_cases (leb (c.start + c.frames) (suc s)) (leb (suc s + n) c.start) f)
  where
    met : (leb (c.start + c.frames) s ≡ false) × (leb (s + n) c.start ≡ false)
    met = neither (leb (c.start + c.frames) s) (leb (s + n) c.start) e

    go : (leb (c.start + c.frames) (suc s) ≡ true) ⊎ (leb (suc s + n) c.start ≡ true) → c.start + c.frames ≡ suc s
    go (inl p) =
        let l = leb-true (c.start + c.frames) (suc s) p in
        let m = leb-false (c.start + c.frames) s met.0 in
        omega arith
    go (inr p) =
        let l = leb-true (suc s + n) c.start p in
        let m = leb-false (s + n) c.start met.1 in
        absurd (let y : ⊥ = omega arith in y)

-- ---- starts

none_lower : (o : Option ℕ) → lower_of None o ≡ o
none_lower (Some x) = refl
none_lower None = refl

lower_none : (o : Option ℕ) → lower_of o None ≡ o
lower_none (Some x) = refl
lower_none None = refl

-- the lower of two starts is the lower number, where nowhere is above every start
lower_start : (x y : ℕ) → x ≤ nowhere → y ≤ nowhere → lower_of (start_at x) (start_at y) ≡ start_at (min x y)
lower_start x y h k = go (two_ways (eqb x nowhere)) (two_ways (eqb y nowhere))
  where
    go : (eqb x nowhere ≡ true) ⊎ (eqb x nowhere ≡ false) → (eqb y nowhere ≡ true) ⊎ (eqb y nowhere ≡ false) → lower_of (start_at x) (start_at y) ≡ start_at (min x y)
    go (inl e) q =
        let d = eqb-true x nowhere e in
        let m : min x y ≡ y = omega arith in
        rw (m, e) (none_lower (start_at y))
    go (inr e) (inl f) =
        let d = eqb-true y nowhere f in
        let m : min x y ≡ x = omega arith in
        rw (m, f) (lower_none (start_at x))
    go (inr e) (inr f) =
        let d = eqb-false x nowhere e in
        let g = eqb-false y nowhere f in
        rw (e, f, ne_eqb (min x y) nowhere (omega arith)) refl

module _ (b : Bank) (room n : ℕ) where
  -- past the pool's end nothing fits
  pub unfit_past : (s : ℕ) → leb s room ≡ false → fits b room n s ≡ false
  unfolding fits
  unfit_past s e = let l = leb-false s room e in and_false_l (all_below 32 (clear_at b s n)) (lt-leb (s + n) room (omega arith))

  -- no fit, though the clip would lie in the pool: some loaded clip is in the way
  unfit : (s : ℕ) → fits b room n s ≡ false → s + n ≤ room → (i : ℕ) × (i < 32) × (clear_at b s n i ≡ false)
  unfolding fits
  unfit s e h = all_search (clear_at b s n) 32 (rw (le-leb (s + n) room h) at e)

  -- the first start that fits is 0 or a loaded clip's end
  at_an_end : (s : ℕ) → fits b room n s ≡ false → fits b room n (suc s) ≡ true → (i : ℕ) × (i < 32) × (used_at b.used i ≡ true) × (end_in b i ≡ suc s)
  at_an_end s e f =
      let w = unfit s e (let h = fit_lies b room n (suc s) f in omega arith) in
      go w.0 w.1 w.2 (two_ways (used_at b.used w.0))
    where
      go : (i : ℕ) → i < 32 → clear_at b s n i ≡ false → (used_at b.used i ≡ true) ⊎ (used_at b.used i ≡ false)
          → (i : ℕ) × (i < 32) × (used_at b.used i ≡ true) × (end_in b i ≡ suc s)
      go i l p (inl u) = (i, l, u, ends_here (clip_in b i) s n (rw u at p) (fit_apart b room n (suc s) i f l u))
      go i l p (inr u) = absurd (never (rw u at p))

  -- the end of the clip in slot i, if that is used and the clip fits there
  abbrev pub candidate : ℕ → ℕ
  candidate i = cond (used_at b.used i && fits b room n (end_in b i)) (end_in b i) nowhere

  -- the lowest of 0 and the first k slots' ends at which the clip fits
  unfoldable pub best_of : ℕ → ℕ
  best_of zero = cond (fits b room n 0) 0 nowhere
  best_of (suc k) = min (best_of k) (candidate k)

  -- where it fits at 0, that is the lowest
  best_front : (k : ℕ) → fits b room n 0 ≡ true → best_of k ≡ 0
  unfolding best_of
  best_front zero e = rw e
  best_front (suc k) e = let h = best_front k e in omega arith

  -- no end of a loaded clip where it fits is lower
  best_end : (k i : ℕ) → i < k → used_at b.used i ≡ true → fits b room n (end_in b i) ≡ true → best_of k ≤ end_in b i
  unfolding best_of
  best_end zero i l u e = absurd (not-suc-le-zero l)
  best_end (suc k) i l u e = go (eq-or-lt_of_le (le_of_suc-le-suc l)) (λ q. best_end k i q u e)
    where
      here : candidate i ≡ end_in b i
      here = rw (and_true u e)

      go : (i ≡ k) ⊎ (i < k) → (i < k → best_of k ≤ end_in b i) → best_of (suc k) ≤ end_in b i
      go (inl p) h = let x : candidate k ≡ end_in b i = ap candidate (sym p) ∙ here in omega arith
      go (inr q) h = let x = h q in omega arith

  -- no start at all where it fits is lower
  best_least : (t : ℕ) → fits b room n t ≡ true → best_of 32 ≤ t
  best_least zero e = let h = best_front 32 e in omega arith
  best_least (suc t) e = go (two_ways (fits b room n t)) (λ f. best_least t f)
    where
      go : (fits b room n t ≡ true) ⊎ (fits b room n t ≡ false) → (fits b room n t ≡ true → best_of 32 ≤ t) → best_of 32 ≤ suc t
      go (inl f) h = let x = h f in omega arith
      go (inr f) h =
          let w = at_an_end t f e in
          let x = best_end 32 w.0 w.1 w.2 (rw w.3 e) in
          omega (arith, w.3)

  -- nowhere, or a start where the clip fits
  abbrev Serves : ℕ → Type 0
  Serves x = (x ≡ nowhere) ⊎ (fits b room n x ≡ true)

  serves_or : (t : Bool) (x : ℕ) → (t ≡ true → fits b room n x ≡ true) → Serves (cond t x nowhere)
  serves_or true x h = inr (h refl)
  serves_or false x h = inl refl

  best_serves : (k : ℕ) → Serves (best_of k)
  unfolding best_of
  best_serves zero = serves_or (fits b room n 0) 0 (λ e. e)
  best_serves (suc k) =
      of_lower (best_serves k)
      (serves_or (used_at b.used k && fits b room n (end_in b k)) (end_in b k) (and_r (used_at b.used k) (fits b room n (end_in b k))))
      (lt_or_le (best_of k) (candidate k))
    where
      of_lower : {x y : ℕ} → Serves x → Serves y → (x < y) ⊎ (y ≤ x) → Serves (min x y)
      of_lower {x} {y} p q (inl l) = rw (let m : min x y ≡ x = omega arith in m) p
      of_lower {x} {y} p q (inr l) = rw (let m : min x y ≡ y = omega arith in m) q

  -- the lowest of 0 and the loaded clips' ends is the first fit, the lowest of all starts
  pub first_fit_by_ends : 1 ≤ n → room ≤ nowhere → best_of 32 ≡ first_fit b room n
  first_fit_by_ends some h = go (best_serves 32) (first_fits b room n)
    where
      same : fits b room n (best_of 32) ≡ true → fits b room n (first_fit b room n) ≡ true → (best_of 32 < first_fit b room n) ⊎ (first_fit b room n ≤ best_of 32) → best_of 32 ≡ first_fit b room n
      same e f (inl l) = absurd (never (sym e ∙ first_lowest b room n some (best_of 32) l))
      same e f (inr l) = let m = best_least (first_fit b room n) f in omega arith

      go : Serves (best_of 32) → Serves (first_fit b room n) → best_of 32 ≡ first_fit b room n
      go (inl e) (inl f) = e ∙ sym f
      go (inl e) (inr f) =
          let l = fit_lies b room n (first_fit b room n) f in
          let m = best_least (first_fit b room n) f in
          absurd (let y : ⊥ = omega arith in y)
      go (inr e) (inl f) = absurd (never (sym e ∙ nowhere_fits b room n some h f (best_of 32)))
      go (inr e) (inr f) = same e f (lt_or_le (best_of 32) (first_fit b room n))

  -- ---- as the code finds it

  module _ (some : 1 ≤ n) (h : room ≤ nowhere) where
    -- where a clip fits is a start
    start_where : (t : Bool) (s : ℕ) → (t ≡ true → fits b room n s ≡ true) → then_some t s ≡ start_at (cond t s nowhere)
    start_where true s f = let l = fit_lies b room n s (f refl) in rw (ne_eqb s nowhere (omega arith)) refl
    start_where false s f = refl

    at_most : {x : ℕ} → Serves x → x ≤ nowhere
    at_most (inl e) = omega arith
    at_most {x} (inr e) = let l = fit_lies b room n x e in omega arith

    -- at first the pool's front,
    pub start_front : then_some (fits b room n 0) 0 ≡ start_at (best_of 0)
    unfolding best_of
    start_front = start_where (fits b room n 0) 0 (λ e. e)

    -- then the lower of what was found and the next slot's end
    pub start_lower : (k : ℕ) → lower_of (start_at (best_of k)) (then_some (used_at b.used k && fits b room n (end_in b k)) (end_in b k)) ≡ start_at (best_of (suc k))
    unfolding best_of
    start_lower k =
        let t = used_at b.used k && fits b room n (end_in b k) in
        let f = and_r (used_at b.used k) (fits b room n (end_in b k)) in
        rw (start_where t (end_in b k) f) (lower_start (best_of k) (candidate k) (at_most (best_serves k)) (at_most (serves_or t (end_in b k) f)))

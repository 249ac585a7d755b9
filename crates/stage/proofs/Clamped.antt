-- A clamped gain lies in 0..2, whatever float it was. Assumes nothing.
use mathlib.Core.Path.{◌≡◌, refl, sym}
use mathlib.Core.Bool.{Bool, true, false, ◌&&◌, ◌||◌, cond}
use mathlib.Core.Logic.{⊎_elim}
use Prim.Native.Nat.{ℕ, ◌≤◌, ◌*◌}
use native.Mathlib.Nat.{eq-or-lt_of_le}
use lib.Dec.{ltb, eqb}
use lib.IntN.{pos}
use lib.Ieee.{Float, nan, inf, fin, up, down, lt, le, eq}
use borrow.Author.Tests.{lt-ltb, ltb-false, eq-eqb}
use Rattle.counts.proofs.Truth.{never, and_true, or_l, or_r}
use Rattle.ramp.specs.Number.{zero32, two32, between}
use Rattle.stage.specs.Sound.{clamp_of}

at_most : (a b : ℕ) → a ≤ b → ltb a b || (eqb a b && true) ≡ true
at_most a b h = ⊎_elim (λ e. or_r (ltb a b) (and_true (eq-eqb a b e) refl)) (λ l. or_l (eqb a b && true) (lt-ltb a b l)) (eq-or-lt_of_le h)

-- what is above 0 and not above 2 is at most 2
not_above : (g : Float) → lt zero32 g ≡ true → lt two32 g ≡ false → le g two32 ≡ true
unfolding lt eq le
not_above nan p q = absurd (never (sym p))
not_above (inf true) p q = absurd (never (sym p))
not_above (inf false) p q = absurd (never q)
not_above (fin true m e) p q = absurd (never (sym p))
not_above (fin false m e) p q = at_most (m * up e * down (pos 1)) (1 * up (pos 1) * down e) (ltb-false (1 * up (pos 1) * down e) (m * up e * down (pos 1)) q)

-- a clamped gain lies in 0..2, a NaN's too
pub clamp_between : (g : Float) → between zero32 two32 (clamp_of g) ≡ true
unfolding lt eq le
clamp_between g = go (lt two32 g) (lt zero32 g) refl refl
  where
    go : (a b : Bool) → lt two32 g ≡ a → lt zero32 g ≡ b → between zero32 two32 (cond a two32 (cond b g zero32)) ≡ true
    go true b p q = refl
    go false true p q = and_true (or_l (eq zero32 g) q) (not_above g q p)
    go false false p q = refl

-- A part over a run: where its ramp rises and where its value stays are one sweep. Assumes nothing.
use mathlib.Core.Path.{◌≡◌, sym, ap, ◌∙◌}
use mathlib.Core.List.{List}
use Prim.Native.Nat.{ℕ, ◌+◌, ◌-◌, ◌*◌, ◌/◌, ◌≤◌, ◌<◌}
use native.Mathlib.Numerals.{unary_clauses}
use native.Mathlib.Omega.{arith}
use lib.ListN.{get_or, set}
use lib.Ieee.{Float, nan, binary32, add, mul}
use Rattle.ramp.specs.declared.Ramp.{Ramp}
use Rattle.ramp.specs.Ramp.{tick_of}
use Rattle.std.specs.Prelude.{Option, Some, None}
use Rattle.sweeps.specs.Over.{over}
use Rattle.sweeps.specs.Adds.{share_of, ticks_of, gain_at, still_adds, adds, Reads}
use Rattle.sweeps.proofs.Over.{over_rest}
use Rattle.sweeps.proofs.Moving.{Moving, moving_gain, moving_turn, frame_left, frame_right}
use Rattle.sweeps.proofs.Ticks.{ticks_on, ticks_held, gain_held}

-- of a part that has so many samples, fewer can be read
pub fewer_read : (n : ℕ) (p : Option ℕ) (m k : ℕ) → k ≤ m → Reads n p m → Reads n p k
fewer_read n None m k l h = tt
fewer_read n (Some at) m k l h = omega arith

module _ (pool : List Float) (p : Option ℕ) (r₀ : Ramp) (n : ℕ) (os : List Float) where
  pub part_turn : {o : List Float} {r : Ramp} {j : ℕ} → Moving (adds pool p r₀) r₀ 0 n os o r j → j < n
      → (x y : Float) → x ≡ share_of pool p (j * 2) → y ≡ share_of pool p (j * 2 + 1) → (r' : Ramp) → r' ≡ (tick_of r).ramp
      → let o' : List Float = set o (j * 2) (add binary32 (get_or o (j * 2) nan) (mul binary32 x r'.value)) in
      Moving (adds pool p r₀) r₀ 0 n os (set o' (j * 2 + 1) (add binary32 (get_or o' (j * 2 + 1) nan) (mul binary32 y r'.value))) r' (j + 1)
  part_turn {o} {r} {j} m h x y ex ey r' e =
      let z : j - 0 ≡ j = omega arith in
      let v : r'.value ≡ gain_at r₀ j = moving_gain (adds pool p r₀) r₀ 0 n os m r' e ∙ ap (gain_at r₀) z in
      rw (frame_left j, frame_right j, ← v, ← ex, ← ey) at (moving_turn (adds pool p r₀) r₀ 0 n os m h r' e)

  -- m frames of n, and then a tick after which the value stays
  module _ (m : ℕ) (l : m < n) (h : r₀.remaining ≤ m + 1) (r : Ramp) (e : r ≡ (tick_of (ticks_of m r₀)).ramp) where
    landed : r ≡ ticks_of (m + 1) r₀
    landed = e ∙ ticks_on m r₀

    pub part_ramp : r ≡ ticks_of n r₀
    part_ramp = landed ∙ sym (ticks_held r₀ m n (λ i. h) n l (omega arith))

    pub part_done : over (still_adds pool p r.value) (m * 2) (n * 2 - m * 2) (over (adds pool p r₀) 0 (m * 2) os) ≡ over (adds pool p r₀) 0 (n * 2) os
    part_done =
        simp unary_clauses at
        (over_rest (adds pool p r₀) (still_adds pool p r.value) 0 (m * 2) (n * 2) os (omega arith) (omega arith)
        (λ k a b x. ap (λ g. add binary32 x (mul binary32 (share_of pool p k) g)) (ap (λ u. u.value) landed ∙ sym (gain_held r₀ m n (λ i. h) (k / 2) (omega arith) (omega arith)))))

-- A sweep by a ramp: frame by frame, the ramp ticking. Assumes nothing.
use mathlib.Core.Path.{◌≡◌, refl, sym, ap, ◌∙◌}
use mathlib.Core.List.{List}
use Prim.Native.Nat.{ℕ, suc, ◌+◌, ◌-◌, ◌*◌, ◌/◌, ◌≤◌, ◌<◌}
use native.Mathlib.Omega.{arith}
use lib.ListN.{get_or, set}
use lib.Ieee.{Float, nan}
use Rattle.ramp.specs.declared.Ramp.{Ramp}
use Rattle.ramp.specs.Ramp.{tick_of}
use Rattle.sweeps.specs.Over.{over}
use Rattle.sweeps.specs.Adds.{ticks_of, gain_at}
use Rattle.sweeps.proofs.Sweeping.{Sweeping, sweep_start, sweep_frame, sweep_end}
use Rattle.sweeps.proofs.Ticks.{tick_value, ticks_remaining}

-- a place's frame
pub frame_left : (j : ℕ) → j * 2 / 2 ≡ j
frame_left j = omega arith

pub frame_right : (j : ℕ) → (j * 2 + 1) / 2 ≡ j
frame_right j = omega arith

module _ (f : ℕ → Float → Float) (r₀ : Ramp) (from to : ℕ) (os : List Float) where
  -- the frames from `from` up to j are passed, and the ramp has ticked in each
  pub record Moving (o : List Float) (r : Ramp) (j : ℕ) : Type 0 where
    pub ticked : r ≡ ticks_of (j - from) r₀
    pub sweeping : Sweeping f (from * 2) (to * 2) os o (j * 2)

  pub moving_start : from ≤ to → Moving os r₀ from
  unfolding ticks_of
  moving_start h =
      let e : from - from ≡ 0 = omega arith in record { ticked = rw e refl; sweeping = sweep_start f (from * 2) (to * 2) os (omega arith) }

  module _ {o : List Float} {r : Ramp} {j : ℕ} (m : Moving o r j) where
    pub moving_remaining : r.remaining ≡ r₀.remaining - (j - from)
    moving_remaining = ap (λ u. u.remaining) m.ticked ∙ ticks_remaining (j - from) r₀

    -- the value after its tick is the next frame's
    pub moving_gain : (r' : Ramp) → r' ≡ (tick_of r).ramp → r'.value ≡ gain_at r₀ (j - from)
    moving_gain r' e = ap (λ u. u.value) e ∙ sym (tick_value r) ∙ ap (λ u. (tick_of u).value) m.ticked

    pub moving_turn : j < to → (r' : Ramp) → r' ≡ (tick_of r).ramp
        → let o' : List Float = set o (j * 2) (f (j * 2) (get_or o (j * 2) nan)) in
        Moving (set o' (j * 2 + 1) (f (j * 2 + 1) (get_or o' (j * 2 + 1) nan))) r' (j + 1)
    unfolding ticks_of
    moving_turn h r' e =
        let n : j + 1 - from ≡ suc (j - from) = omega (arith, m.sweeping.low) in
        record { ticked = rw n (e ∙ ap (λ u. (tick_of u).ramp) m.ticked); sweeping = sweep_frame f (from * 2) (to * 2) os o j m.sweeping (omega arith) }

    pub moving_end : to ≤ j → (r ≡ ticks_of (to - from) r₀) × (o ≡ over f (from * 2) (to * 2 - from * 2) os)
    moving_end h =
        let e : j ≡ to = omega (arith, m.sweeping.high) in (rw (← e) m.ticked, sweep_end f (from * 2) (to * 2) os m.sweeping (omega arith))

-- Song and tail over a run: stretches in which the master's value stays, the weight ticking in each frame. Assumes nothing.
use mathlib.Core.Path.{◌≡◌, refl, sym, ap, ◌∙◌}
use mathlib.Core.Bool.{Bool}
use mathlib.Core.List.{List}
use Prim.Native.Nat.{ℕ, ◌+◌, ◌-◌, ◌*◌, ◌/◌, ◌≤◌, ◌<◌}
use native.Mathlib.Numerals.{unary_clauses}
use native.Mathlib.Omega.{arith}
use lib.ListN.{length, get_or, set}
use lib.Ieee.{Float, nan, binary32, add, mul}
use Rattle.ramp.specs.declared.Ramp.{Ramp}
use Rattle.ramp.specs.Ramp.{tick_of}
use Rattle.std.specs.Prelude.{Option}
use Rattle.sweeps.specs.Over.{over}
use Rattle.sweeps.specs.Adds.{share_of, ticks_of, gain_at, under_of, both_by, both_adds, still_both}
use Rattle.sweeps.proofs.Over.{length_over, over_rest}
use Rattle.sweeps.proofs.Moving.{Moving, moving_start, moving_gain, moving_turn, moving_end, frame_left, frame_right}
use Rattle.sweeps.proofs.Ticks.{ticks_on, ticks_add, gain_add, ticks_remaining, ticks_held, gain_held}

module _ (house : Bool) (pool : List Float) (s t : Option ℕ) where
  -- a frame of a stretch
  pub still_turn : (from to : ℕ) (a : Float) (w₀ : Ramp) (os : List Float) {o : List Float} {w : Ramp} {j : ℕ} → Moving (still_both house pool s t from a w₀) w₀ from to os o w j → j < to
      → (x y z v : Float) → x ≡ share_of pool s (j * 2) → y ≡ under_of house a (share_of pool t (j * 2)) → z ≡ share_of pool s (j * 2 + 1) → v ≡ under_of house a (share_of pool t (j * 2 + 1))
      → (w' : Ramp) → w' ≡ (tick_of w).ramp
      → let o' : List Float = set o (j * 2) (add binary32 (add binary32 (mul binary32 x a) (mul binary32 y w'.value)) (get_or o (j * 2) nan)) in
      Moving (still_both house pool s t from a w₀) w₀ from to os (set o' (j * 2 + 1) (add binary32 (add binary32 (mul binary32 z a) (mul binary32 v w'.value)) (get_or o' (j * 2 + 1) nan))) w' (j + 1)
  still_turn from to a w₀ os {o} {w} {j} m h x y z v ex ey ez ev w' e =
      let f : ℕ → Float → Float = still_both house pool s t from a w₀ in
      rw (ex, ey, ez, ev) (rw (frame_left j, frame_right j, ← moving_gain f w₀ from to os m w' e) at (moving_turn f w₀ from to os m h w' e))

  module _ (g₀ w₀ : Ramp) (n : ℕ) (os : List Float) where
    -- j of n frames are passed, and both ramps have ticked in each
    pub record Both (o : List Float) (g w : Ramp) (j : ℕ) : Type 0 where
      pub master : g ≡ ticks_of j g₀
      pub moving : Moving (both_adds house pool s t g₀ w₀) w₀ 0 n os o w j

    pub both_start : Both os g₀ w₀ 0
    unfolding ticks_of
    both_start = record { master = refl; moving = moving_start (both_adds house pool s t g₀ w₀) w₀ 0 n os (omega arith) }

    module _ {o : List Float} {g w : Ramp} {j : ℕ} (b : Both o g w j) where
      -- a stretch up to frame m
      module _ (m : ℕ) (l : j < m) (u : m ≤ n) (g' : Ramp) (eg : g' ≡ (tick_of g).ramp) (h : j + 1 < m → g'.remaining ≡ 0) where
        ticked : g' ≡ ticks_of (j + 1) g₀
        ticked = eg ∙ ap (λ v. (tick_of v).ramp) b.master ∙ ticks_on j g₀

        landed : j + 1 < m → g₀.remaining ≤ j + 1
        landed i = omega (arith, h i, ap (λ v. v.remaining) ticked, ticks_remaining (j + 1) g₀)

        same : (k : ℕ) → j * 2 ≤ k → k < m * 2 → (x : Float) → still_both house pool s t j g'.value w k x ≡ both_adds house pool s t g₀ w₀ k x
        same k c d x =
            let e : j - 0 + (k / 2 - j) ≡ k / 2 = omega arith in
            ap (λ a. both_by house pool s t a (gain_at w (k / 2 - j)) k x) (ap (λ v. v.value) ticked ∙ sym (gain_held g₀ j m landed (k / 2) (omega arith) (omega arith)))
            ∙ ap (λ a. both_by house pool s t (gain_at g₀ (k / 2)) a k x) (ap (λ v. gain_at v (k / 2 - j)) b.moving.ticked ∙ gain_add (j - 0) (k / 2 - j) w₀ ∙ ap (gain_at w₀) e)

        pub both_turn : (w' : Ramp) → w' ≡ ticks_of (m - j) w → (o' : List Float) → o' ≡ over (still_both house pool s t j g'.value w) (j * 2) (m * 2 - j * 2) o → Both o' g' w' m
        both_turn w' ew o' eo =
            let f : ℕ → Float → Float = both_adds house pool s t g₀ w₀ in
            let i : ℕ → Float → Float = still_both house pool s t j g'.value w in
            let e : j - 0 + (m - j) ≡ m - 0 = omega arith in
            let r : o' ≡ over f (0 * 2) (m * 2 - 0 * 2) os =
            eo ∙ ap (over i (j * 2) (m * 2 - j * 2)) b.moving.sweeping.so ∙ over_rest f i (0 * 2) (j * 2) (m * 2) os (omega arith) (omega arith) same in
            record {
              master = ticked ∙ sym (ticks_held g₀ j m landed m l (omega arith));
              moving = record {
                ticked = ew ∙ ap (ticks_of (m - j)) b.moving.ticked ∙ sym (ticks_add (j - 0) (m - j) w₀) ∙ ap (λ k. ticks_of k w₀) e;
                sweeping = record { low = omega arith; high = omega arith; same = ap length r ∙ length_over f (0 * 2) (m * 2 - 0 * 2) os; so = r };
              };
            }

      pub both_end : n ≤ j → (g ≡ ticks_of n g₀) × (w ≡ ticks_of n w₀) × (o ≡ over (both_adds house pool s t g₀ w₀) 0 (n * 2) os)
      both_end h =
          let e : j ≡ n = omega (arith, b.moving.sweeping.high) in
          let m : (w ≡ ticks_of n w₀) × (o ≡ over (both_adds house pool s t g₀ w₀) 0 (n * 2) os) = simp unary_clauses at (moving_end (both_adds house pool s t g₀ w₀) w₀ 0 n os b.moving h) in
          (rw (← e) b.master, m.0, m.1)

-- The loop of a sweep: what it keeps, what a turn does with that, and what it ends with. Assumes nothing.
use mathlib.Core.Path.{◌≡◌, refl, ap, ◌∙◌}
use mathlib.Core.List.{List}
use Prim.Native.Nat.{ℕ, ◌+◌, ◌-◌, ◌*◌, ◌≤◌, ◌<◌}
use native.Mathlib.Omega.{arith}
use lib.ListN.{length, get_or, set}
use lib.Ieee.{Float, nan}
use Rattle.sweeps.specs.Over.{over}
use Rattle.sweeps.proofs.Over.{length_over, over_turn}

module _ (f : ℕ → Float → Float) (from to : ℕ) (os : List Float) where
  -- the places from `from` up to k are passed
  pub record Sweeping (o : List Float) (k : ℕ) : Type 0 where
    pub low : from ≤ k
    pub high : k ≤ to
    pub same : length o ≡ length os
    pub so : o ≡ over f from (k - from) os

  pub sweep_start : from ≤ to → Sweeping os from
  unfolding over
  sweep_start h = let e : from - from ≡ 0 = omega arith in record { low = omega arith; high = h; same = refl; so = rw e refl }

  module _ {o : List Float} {k : ℕ} (p : Sweeping o k) where
    pub sweep_turn : k < to → Sweeping (set o k (f k (get_or o k nan))) (k + 1)
    sweep_turn h =
        let e : set o k (f k (get_or o k nan)) ≡ over f from (k + 1 - from) os =
        rw p.so (over_turn f from os k p.low) in
        record { low = omega (arith, p.low); high = omega arith; same = ap length e ∙ length_over f from (k + 1 - from) os; so = e }

    pub sweep_end : to ≤ k → o ≡ over f from (to - from) os
    sweep_end h = let e : k ≡ to = omega (arith, p.high) in rw (← e) p.so

-- a turn over a whole frame, its left place and then its right one
pub sweep_frame : (f : ℕ → Float → Float) (from to : ℕ) (os o : List Float) (j : ℕ) → Sweeping f from to os o (j * 2) → j * 2 + 1 < to
    → let o' : List Float = set o (j * 2) (f (j * 2) (get_or o (j * 2) nan)) in
    Sweeping f from to os (set o' (j * 2 + 1) (f (j * 2 + 1) (get_or o' (j * 2 + 1) nan))) ((j + 1) * 2)
sweep_frame f from to os o j p h =
    let e : (j + 1) * 2 ≡ j * 2 + 1 + 1 = omega arith in
    rw e (sweep_turn f from to os (sweep_turn f from to os p (omega arith)) h)

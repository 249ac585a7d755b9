-- The settings are those of the opening, their mode is known, and in house mode no tail is louder than the master lets it be. Assumes nothing.
use mathlib.Core.Path.{◌≡◌, ap}
use mathlib.Core.Bool.{false}
use mathlib.Core.List.{List}
use Prim.Native.Nat.{ℕ, ◌-◌, ◌≤◌}
use native.Mathlib.Omega.{arith}
use lib.Dec.{lit<}
use lib.Ieee.{Float, binary32, mul, lt}
use lib.Ieee.Fits.{mul-fits}
use Rattle.ramp.specs.Tail.{tail_start, ticks}
use Rattle.ramp.proofs.Left.{weighs}
use Rattle.session.proofs.Parts.{parts}
use Rattle.session.proofs.Ranged.{ranged}
use Rattle.session.specs.declared.Answered.{Answered}
use Rattle.clips.proofs.Opened.{open_done_law}
use Rattle.promises.specs.Modes.{magnitude, Modes}
use Rattle.promises.proofs.Kept.{open_fine, reached_good, settings_stay}
use Rattle.promises.proofs.Magnitude.{no_louder}
use Rattle.counts.specs.declared.Handle.{Handle}

-- a side × a weight
weighed : (side g : Float) (k : ℕ) → k ≤ 1024 → lt (magnitude (mul binary32 side g)) (magnitude (mul binary32 (mul binary32 side g) (ticks k tail_start).value)) ≡ false
weighed side g k l =
    no_louder (mul binary32 side g) (ticks k tail_start).value (1024 - k) 1024 (mul-fits binary32 side g) (weighs k l).value (lit< tt) (omega arith)

pub modes_hold : Modes
modes_hold =
    record {
      chosen = λ o e. ap (λ (z : Answered Handle × List Float). z.0.session.settings) (open_done_law o.settings o.queue o.capture o.pool o.samples o.rate o.extent (open_fine o e));
      kept = settings_stay;
      known = λ x r. (ranged x.session.settings (parts _ _ _ (reached_good x r).formed).settings).mode;
      under = λ x house g tail k l. rw house (weighed tail.left g k l, weighed tail.right g k l);
    }

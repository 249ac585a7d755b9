-- `voices_hold` meets its contract: no voice passed holds the clip.
use mathlib.Core.Path.{◌≡◌}
use mathlib.Core.Bool.{false}
use Prim.Native.Nat.{ℕ, ◌-◌, ◌≤◌, ◌<◌}
use Rattle.counts.specs.Handles.{same_handle}
use Rattle.oneshot.specs.Mix.{voice_at}
use Rattle.clips.proofs.voices_hold.Given as goal

abbrev pub invariant-loop-i : goal.invariant-loop-i
invariant-loop-i l = (l.i ≤ l.voices.count) × ((k : ℕ) → k < l.i → same_handle l.h (voice_at l.voices k).handle ≡ false)

abbrev pub decreases-loop-i : goal.decreases-loop-i
decreases-loop-i l = l.voices.count - l.i

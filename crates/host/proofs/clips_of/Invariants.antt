-- `clips_of` meets its contract: every place passed holds its clip, and every slot passed a song or a stinger.
use mathlib.Core.Path.{◌≡◌}
use mathlib.Core.Bool.{true}
use mathlib.Core.List.{map}
use Prim.Native.Nat.{ℕ, ◌-◌, ◌≤◌, ◌<◌}
use lib.ListN.{length, take}
use Rattle.host.specs.Kept.{clip_of}
use Rattle.host.proofs.Parts.{kind_at}
use Rattle.host.proofs.clips_of.Given as goal

abbrev pub invariant-loop-i : goal.invariant-loop-i
invariant-loop-i l =
    (l.i ≤ 32) × (length l.clips ≡ 32) × (take l.i l.clips ≡ take l.i (map clip_of l.h.clips)) × ((k : ℕ) → k < l.i → kind_at l.h k ≡ true)

abbrev pub decreases-loop-i : goal.decreases-loop-i
decreases-loop-i l = 32 - l.i

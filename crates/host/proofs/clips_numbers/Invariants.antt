-- `clips_numbers` meets its contract: every place passed holds its clip.
use mathlib.Core.Path.{◌≡◌}
use mathlib.Core.List.{map}
use Prim.Native.Nat.{◌-◌, ◌≤◌}
use lib.ListN.{length, take}
use Rattle.host.specs.Kept.{clip_numbers}
use Rattle.host.proofs.clips_numbers.Given as goal

abbrev pub invariant-loop-i : goal.invariant-loop-i
invariant-loop-i l = (l.i ≤ 32) × (length l.clips ≡ 32) × (take l.i l.clips ≡ take l.i (map clip_numbers l.b.clips))

abbrev pub decreases-loop-i : goal.decreases-loop-i
decreases-loop-i l = 32 - l.i

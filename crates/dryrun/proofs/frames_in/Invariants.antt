-- `frames_in` meets its contract.
use mathlib.Core.Path.{◌≡◌}
use Prim.Native.Nat.{◌+◌, ◌-◌, ◌*◌, ◌/◌, ◌^◌, ◌≤◌}
use lib.ListN.{drop, length}
use Rattle.dryrun.specs.Blocks.{frames_in}
use Rattle.dryrun.proofs.frames_in.Given as goal

abbrev pub invariant-loop-k : goal.invariant-loop-k
invariant-loop-k l = (l.k ≤ length l.blocks / 2) × (l.sum ≤ 2 ^ 62) × (l.sum + frames_in (drop (l.k * 2) l.blocks) ≡ frames_in l.blocks)

abbrev pub decreases-loop-k : goal.decreases-loop-k
decreases-loop-k l = length l.blocks / 2 - l.k

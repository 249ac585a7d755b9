-- `read_lines` meets its contract.
use Prim.Native.Nat.{◌-◌, ◌≤◌}
use Rattle.std.specs.Prelude.{Some}
use Rattle.cliplist.specs.Words.{Lined}
use Rattle.cliplist.proofs.read_lines.Given as goal

abbrev pub invariant-loop-i : goal.invariant-loop-i
invariant-loop-i l = (l.i ≤ l.lines) × Lined l.words l.i (Some l.x)

abbrev pub decreases-loop-i : goal.decreases-loop-i
decreases-loop-i l = l.lines - l.i

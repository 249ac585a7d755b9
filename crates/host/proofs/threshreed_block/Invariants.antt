-- `threshreed_block` meets its contract: its slots converted, then called over its parts.
use Prim.Native.Nat.{◌-◌}
use Rattle.host.proofs.Parts.{Converting}
use Rattle.host.proofs.threshreed_block.Given as goal

abbrev pub invariant-loop-i : goal.invariant-loop-i
invariant-loop-i l = Converting l.h l.bank l.clips l.i

abbrev pub decreases-loop-i : goal.decreases-loop-i
decreases-loop-i l = 32 - l.i

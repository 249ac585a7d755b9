-- `dry_block` meets its contract.
use Prim.Native.Nat.{◌+◌, ◌-◌}
use Rattle.leaps.proofs.Running.{Running}
use Rattle.leaps.proofs.dry_block.Given as goal

abbrev pub invariant-block : goal.invariant-block
invariant-block l = Running l.bank l.queue l.initial.run l.frames l.initial.sheet l.sheet l.run l.done

abbrev pub decreases-block : goal.decreases-block
decreases-block l = (l.frames - l.done) + l.run.queued

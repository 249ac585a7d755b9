-- `block::fill` meets its contract. Assumes nothing.
use Prim.Native.Nat.{◌+◌, ◌-◌}
use Rattle.block.proofs.Filling.{Filling}
use Rattle.block.proofs.fill.Given as goal

abbrev pub invariant-block : goal.invariant-block
invariant-block l = Filling l.settings l.bank l.initial.stage l.initial.queued l.queue l.pool l.frames l.out l.stage l.queued l.passes l.done

abbrev pub decreases-block : goal.decreases-block
decreases-block l = (l.frames - l.done) + l.queued

-- `bank::free_slot` meets its contract. Assumes nothing.
use mathlib.Core.Path.{refl}
use Rattle.bank.specs.Slots.{free_slot}
use Rattle.bank.proofs.free_slot.Goals as goal

pub returns : goal.returns
unfolding free_slot
returns c = refl

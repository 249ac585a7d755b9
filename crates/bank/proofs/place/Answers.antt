-- `bank::place` meets its contract. Assumes nothing.
use Rattle.bank.specs.Slots.{loaded_in}
use Rattle.bank.proofs.place.Goals as goal

pub returns : goal.returns
unfolding loaded_in
returns c = simp c.mark-used.ensures

-- `bank::Bank::empty` meets its contract. Assumes nothing.
use mathlib.Core.Path.{refl}
use Rattle.bank.specs.Slots.{empty_bank}
use Rattle.bank.proofs.Bank.empty.Goals as goal

pub returns : goal.returns
unfolding empty_bank
returns c = refl

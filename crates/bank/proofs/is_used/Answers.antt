-- `bank::is_used` meets its contract. Assumes nothing.
use mathlib.Core.Path.{refl}
use Rattle.bank.specs.Slots.{used_at}
use Rattle.bank.proofs.is_used.Goals as goal

pub returns : goal.returns
unfolding used_at
returns c = refl

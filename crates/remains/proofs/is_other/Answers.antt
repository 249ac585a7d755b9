-- `is_other` meets its contract.
use mathlib.Core.Path.{refl}
use Rattle.remains.proofs.is_other.Goals as goal

pub returns : goal.returns
returns c = rw (← c.byte-tag.ensures) refl

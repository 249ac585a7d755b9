-- `rises` meets its contract.
use mathlib.Core.Path.{refl}
use Rattle.remains.proofs.rises.Goals as goal

pub returns : goal.returns
returns c = rw (← c.byte-tag.ensures, ← c.not_rising-low.ensures) refl

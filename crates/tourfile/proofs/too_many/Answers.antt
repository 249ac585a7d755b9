-- `too_many` meets its contract.
use mathlib.Core.Path.{refl}
use Rattle.tourfile.specs.Reader.{too_many}
use Rattle.tourfile.proofs.too_many.Goals as goal

pub returns : goal.returns
unfolding too_many
returns c = rw (← c.byte-tag.ensures) refl

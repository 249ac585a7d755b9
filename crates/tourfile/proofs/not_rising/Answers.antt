-- `not_rising` meets its contract.
use mathlib.Core.Path.{refl}
use Rattle.tourfile.specs.Reader.{not_rising}
use Rattle.tourfile.proofs.not_rising.Goals as goal

pub returns : goal.returns
unfolding not_rising
returns c = rw (← c.byte-tag.ensures, ← c.eight-number.ensures) refl

-- `wrong_first` meets its contract.
use mathlib.Core.Path.{refl}
use Rattle.tourfile.specs.Reader.{wrong_first}
use Rattle.tourfile.proofs.wrong_first.Goals as goal

pub returns : goal.returns
unfolding wrong_first
returns c = rw (← c.byte-tag.ensures) refl

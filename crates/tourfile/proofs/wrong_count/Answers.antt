-- `wrong_count` meets its contract.
use mathlib.Core.Path.{refl}
use Rattle.tourfile.specs.Reader.{wrong_count}
use Rattle.tourfile.proofs.wrong_count.Goals as goal

pub returns : goal.returns
unfolding wrong_count
returns c = rw (← c.byte-tag.ensures, ← c.two-told.ensures) refl

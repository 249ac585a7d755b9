-- `not_listed` meets its contract.
use mathlib.Core.Path.{refl}
use Rattle.tourfile.specs.Reader.{not_listed}
use Rattle.tourfile.proofs.not_listed.Goals as goal

pub returns : goal.returns
unfolding not_listed
returns c = rw (← c.byte-tag.ensures, ← c.byte-kind.ensures, ← c.has_clip-has.ensures, ← c.byte.ensures, ← c.is_listed-listed.ensures) refl

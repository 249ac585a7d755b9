-- `unknown_tag` meets its contract.
use mathlib.Core.Path.{refl}
use Rattle.tourfile.specs.Reader.{unknown_tag}
use Rattle.tourfile.proofs.unknown_tag.Goals as goal

pub returns : goal.returns
unfolding unknown_tag
returns c = rw (← c.byte-tag.ensures) refl

-- `bytes_after` meets its contract.
use mathlib.Core.Path.{refl}
use Rattle.tourfile.specs.Reader.{bytes_after}
use Rattle.tourfile.proofs.bytes_after.Goals as goal

pub returns : goal.returns
unfolding bytes_after
returns c = rw (← c.byte-tag.ensures) refl

-- `other_version` meets its contract.
use mathlib.Core.Path.{refl}
use Rattle.tourfile.specs.Reader.{other_version}
use Rattle.tourfile.proofs.other_version.Goals as goal

pub returns : goal.returns
unfolding other_version
returns c = rw (← c.byte-tag.ensures, ← c.two-version.ensures) refl

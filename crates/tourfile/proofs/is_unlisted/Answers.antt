-- `is_unlisted` meets its contract.
use mathlib.Core.Path.{refl}
use Rattle.tourfile.specs.Writer.{unlisted}
use Rattle.tourfile.proofs.is_unlisted.Goals as goal

pub returns : goal.returns
unfolding unlisted
returns c = rw (← c.has_clip-has.ensures, ← c.clip_byte-b.ensures) refl

-- `no_clip` meets its contract.
use mathlib.Core.Path.{refl}
use Rattle.remains.specs.Salvage.{no_clip}
use Rattle.remains.proofs.no_clip.Goals as goal

pub returns : goal.returns
unfolding no_clip
returns c =
    rw (← c.byte-tag.ensures, ← c.byte.ensures, ← c.has_clip-has.ensures, ← c.byte-clip.ensures) refl

-- `has_clip` meets its contract.
use Rattle.fields.specs.Field.{has_clip}
use Rattle.fields.proofs.has_clip.Goals as goal

pub returns : goal.returns
unfolding has_clip
returns c = rw (← c.first_part.ensures) c.is_clip.ensures

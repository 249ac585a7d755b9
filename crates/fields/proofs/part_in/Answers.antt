-- `part_in` meets its contract, one answer for each part.
use mathlib.Core.Path.{refl}
use Rattle.fields.specs.Field.{part_in}
use Rattle.fields.proofs.part_in.Goals as goal

pub returns-in-Nothing : goal.returns-in-Nothing
unfolding part_in
returns-in-Nothing c = rw c.in-Nothing.is refl

pub returns-in-Frame : goal.returns-in-Frame
unfolding part_in
returns-in-Frame c = rw c.in-Frame.is c.eight.ensures

pub returns-in-Gain : goal.returns-in-Gain
unfolding part_in
returns-in-Gain c = rw c.in-Gain.is c.four.ensures

pub returns-in-Clip : goal.returns-in-Clip
unfolding part_in
returns-in-Clip c = rw (c.in-Clip.is, ← c.byte.ensures) c.handle_at.ensures

-- `put_part` meets its contract, one answer for each part.
use mathlib.Core.Path.{refl}
use native.Mathlib.Omega.{arith}
use Rattle.fields.specs.Field.{part_bytes}
use Rattle.fields.proofs.put_part.Goals as goal

pub put_eight-requires : goal.put_eight-requires
put_eight-requires c = let q = rw c.in-Frame.is at c.requires.0 in omega arith

pub put_four-requires : goal.put_four-requires
put_four-requires c =
    let q = rw c.in-Gain.is at c.requires.0 in omega arith

pub put_byte-requires : goal.put_byte-requires
put_byte-requires c = let q = rw c.in-Clip.is at c.requires.0 in omega arith

pub returns-in-Nothing : goal.returns-in-Nothing
unfolding part_bytes
returns-in-Nothing c = rw c.in-Nothing.is refl

pub returns-in-Frame : goal.returns-in-Frame
unfolding part_bytes
returns-in-Frame c = rw c.in-Frame.is c.put_eight.ensures

pub returns-in-Gain : goal.returns-in-Gain
unfolding part_bytes
returns-in-Gain c = rw c.in-Gain.is c.put_four.ensures

pub returns-in-Clip : goal.returns-in-Clip
unfolding part_bytes
returns-in-Clip c = rw (c.in-Clip.is, ← c.clip_byte.ensures) c.put_byte.ensures

-- `clip_byte` meets its contract.
use mathlib.Core.Path.{refl, sym, ◌∙◌}
use Rattle.fields.specs.Clips.{clip_byte}
use Rattle.fields.proofs.clip_byte.Goals as goal

pub returns-then-is_handle : goal.returns-then-is_handle
unfolding clip_byte
returns-then-is_handle c = rw (sym c.is_handle.ensures ∙ c.if-is_handle.true) c.place_of.ensures

pub returns : goal.returns
unfolding clip_byte
returns c = rw (sym c.is_handle.ensures ∙ c.if-is_handle.false) refl

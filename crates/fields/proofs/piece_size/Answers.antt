-- `piece_size` meets its contract.
use mathlib.Core.Path.{refl, sym, ◌∙◌}
use Rattle.fields.specs.Field.{piece_size}
use Rattle.fields.proofs.piece_size.Goals as goal

pub returns-then-is_whole : goal.returns-then-is_whole
unfolding piece_size
returns-then-is_whole c = rw (sym c.is_whole.ensures ∙ c.if-is_whole.true) (cc)

pub returns : goal.returns
unfolding piece_size
returns c = rw (sym c.is_whole.ensures ∙ c.if-is_whole.false) refl

-- `holds_row` meets its contract: the handle is compared as one word.
use mathlib.Core.Path.{refl}
use Rattle.timeline.specs.Record.{holds_row}
use Rattle.timeline.proofs.holds_row.Goals as goal

pub returns : goal.returns
unfolding holds_row
returns c = rw c.handle_word-word.ensures refl

-- `first_at` meets its contract: the frame is a row's first word.
use mathlib.Core.Path.{refl}
use Rattle.timeline.specs.Store.{row_at}
use Rattle.timeline.proofs.first_at.Goals as goal

pub returns : goal.returns
unfolding row_at
returns c = refl

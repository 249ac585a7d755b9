-- `row_at` meets its contract: five words, each inside the store.
use mathlib.Core.Path.{refl}
use Rattle.timeline.specs.Store.{row_at}
use Rattle.timeline.proofs.row_at.Goals as goal

pub returns : goal.returns
unfolding row_at
returns c = refl

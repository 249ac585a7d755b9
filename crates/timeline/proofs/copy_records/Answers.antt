-- `copy_records` meets its contract: what is copied stands in front of what was there.
use Rattle.std.proofs.Common.{refl}
use Rattle.timeline.specs.Store.{copied}
use Rattle.timeline.proofs.copy_records.Goals as goal

pub returns : goal.returns
unfolding copied
returns c = rw c.copy.ensures refl

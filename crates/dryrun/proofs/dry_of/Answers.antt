-- `dry_of` meets its contract.
use mathlib.Core.Path.{refl}
use Rattle.dryrun.proofs.dry_of.Goals as goal

pub returns : goal.returns
returns c = rw c.blind.ensures refl

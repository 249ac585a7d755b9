-- `put_version` meets its contract.
use mathlib.Core.Path.{refl}
use Rattle.tourfile.specs.Writer.{version_bytes}
use Rattle.fields.proofs.Writes.{part_sets}
use Rattle.tourfile.proofs.put_version.Goals as goal

pub returns : goal.returns
returns c = rw c.copy_from_slice.ensures.after (part_sets c.args.out.now version_bytes 0 5 refl c.requires)

-- `is_late` meets its contract.
use mathlib.Core.Path.{refl}
use Rattle.tourfile.specs.Writer.{late}
use Rattle.tourfile.proofs.is_late.Goals as goal

pub returns : goal.returns
unfolding late
returns c = refl

-- `is_handle` meets its contract.
use mathlib.Core.Path.{refl}
use Rattle.fields.specs.Clips.{is_handle}
use Rattle.fields.proofs.is_handle.Goals as goal

pub returns : goal.returns
unfolding is_handle
returns c = refl

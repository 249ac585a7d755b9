-- `is_listed` meets its contract.
use Rattle.std.proofs.Common.{arith}
use Rattle.std.proofs.lemmas.Grind.{common_steps}
use Rattle.fields.specs.Clips.{is_listed, handle_at, is_handle}
use Rattle.fields.proofs.is_listed.Goals as goal

pub returns : goal.returns
unfolding is_listed handle_at is_handle
returns c = grind (arith, common_steps)

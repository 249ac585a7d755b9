-- `handle_at` meets its contract.
use Rattle.std.proofs.Common.{arith}
use Rattle.std.proofs.lemmas.Grind.{common_steps}
use Rattle.fields.specs.Clips.{handle_at}
use Rattle.fields.proofs.handle_at.Goals as goal

pub returns : goal.returns
unfolding handle_at
returns c = grind (arith, common_steps)

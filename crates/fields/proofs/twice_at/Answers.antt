-- `twice_at` meets its contract.
use Rattle.fields.specs.Clips.{twice_at}
use Rattle.fields.proofs.twice_at.Goals as goal

pub returns : goal.returns
unfolding twice_at
returns c = cc

-- `is_whole` meets its contract.
use Rattle.fields.specs.Field.{is_whole}
use Rattle.fields.proofs.is_whole.Goals as goal

pub returns : goal.returns
unfolding is_whole
returns c = cc

-- `pump::across` meets its contract. Assumes nothing.
use Rattle.pump.proofs.Into.{into_across}
use Rattle.pump.proofs.across.Goals as goal

pub returns : goal.returns
returns c = into_across _ _ _ _ _ _ _ _ c.requires.1 _ _ _ c.fill-made.ensures

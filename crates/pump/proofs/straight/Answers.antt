-- `pump::straight` meets its contract. Assumes nothing.
use Rattle.pump.proofs.Into.{into_straight}
use Rattle.pump.proofs.straight.Goals as goal

pub returns : goal.returns
returns c = into_straight _ _ _ _ _ _ _ _ _ c.requires.1 _ _ c.fill.ensures

-- `stage::clamp` meets its contract: each way picks its case by the test that led there. Assumes nothing.
use lib.Ieee.{of_bits}
use Rattle.stage.proofs.clamp.Goals as goal

pub returns-then-gain : goal.returns-then-gain
unfolding of_bits
returns-then-gain c = rw c.if-gain.true

pub returns : goal.returns
unfolding of_bits
returns c = rw c.if-gain.false c.not_below.ensures

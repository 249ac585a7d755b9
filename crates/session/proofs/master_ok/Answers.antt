-- `master_ok` meets its contract.
use lib.Ieee.{of_bits}
use borrow.Author.Rules.{rules}
use Rattle.session.proofs.master_ok.Goals as goal

pub returns-then-master-le-GAIN_RAMP_FRAMES : goal.returns-then-master-le-GAIN_RAMP_FRAMES
unfolding of_bits
returns-then-master-le-GAIN_RAMP_FRAMES c = search rules

-- `bank::sample_ok` meets its contract. Assumes nothing.
use lib.Ieee.{of_bits, neg}
use Rattle.bank.specs.Sample.{sample_ok}
use Rattle.bank.proofs.sample_ok.Goals as goal

pub returns : goal.returns
unfolding sample_ok of_bits neg
returns c = c.is_between.ensures

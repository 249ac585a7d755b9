-- `bank::pair_ok` meets its contract. Assumes nothing.
use Rattle.bank.specs.WellFormed.{pair_ok}
use Rattle.bank.proofs.pair_ok.Goals as goal

pub returns : goal.returns
unfolding pair_ok
returns c = simp c.apart-clear.ensures

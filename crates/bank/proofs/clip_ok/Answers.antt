-- `bank::clip_ok` meets its contract. Assumes nothing.
use Rattle.bank.specs.WellFormed.{clip_ok}
use Rattle.bank.proofs.clip_ok.Goals as goal

pub returns : goal.returns
unfolding clip_ok
returns c = simp (c.ends_by-inside.ensures, c.extent_ok-extent.ensures, c.rate_ok-rate.ensures)

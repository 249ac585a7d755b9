-- `sweeps::share` meets its contract. Assumes nothing.
use Rattle.sweeps.specs.Adds.{share_of}
use lib.Ieee.{of_bits}
use Rattle.sweeps.proofs.share.Goals as goal

pub returns-in-Some : goal.returns-in-Some
unfolding share_of
returns-in-Some c = rw c.in-Some.is c.heard.ensures

pub returns-in-None : goal.returns-in-None
unfolding share_of of_bits
returns-in-None c = rw c.in-None.is

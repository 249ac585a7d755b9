-- `oneshot::Voice::fired` meets its contract. Assumes nothing.
use lib.Ieee.{of_bits}
use Rattle.oneshot.specs.Voice.{fired_of}
use Rattle.oneshot.proofs.Voice.fired.Goals as goal

pub returns : goal.returns
unfolding of_bits fired_of
returns c = rw (c.set-declicked.ensures, c.declick.ensures, c.not_below.ensures, c.new.ensures)

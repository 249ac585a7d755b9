-- `bank::apart` meets its contract. Assumes nothing.
use Rattle.bank.specs.Room.{apart}
use Rattle.bank.proofs.apart.Goals as goal

pub returns : goal.returns
unfolding apart
returns c = simp (c.ends_by-ended.ensures, c.ends_by-later.ensures)

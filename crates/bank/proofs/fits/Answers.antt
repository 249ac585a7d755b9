-- `bank::fits` meets its contract. Assumes nothing.
use Rattle.bank.specs.Room.{fits}
use Rattle.bank.proofs.fits.Goals as goal

pub returns : goal.returns
unfolding fits
returns c = simp (c.ends_by-inside.ensures, c.all_clear-clear.ensures)

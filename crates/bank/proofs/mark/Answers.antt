-- `bank::mark` meets its contract. Assumes nothing.
use native.Mathlib.Omega.{arith}
use Rattle.bank.proofs.Slots.{mark_fits, unused}
use Rattle.bank.proofs.mark.Goals as goal

pub overflow_add-result : goal.overflow_add-result
overflow_add-result c = omega (arith, mark_fits 32 _ _ c.ranges.used.fits c.requires.0 (unused _ _ c.requires.1))

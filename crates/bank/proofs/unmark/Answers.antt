-- `bank::unmark` meets its contract. Assumes nothing.
use native.Mathlib.Omega.{arith}
use Rattle.bank.proofs.Slots.{bit_le, used_bit}
use Rattle.bank.proofs.unmark.Goals as goal

pub overflow_sub-result : goal.overflow_sub-result
overflow_sub-result c = omega (arith, bit_le c.args.used c.args.slot (used_bit c.args.used c.args.slot c.requires.1))

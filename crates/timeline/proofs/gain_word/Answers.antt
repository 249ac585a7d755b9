-- `gain_word` meets its contract: a finite float is no NaN.
use lib.Ieee.{binary32}
use lib.Ieee.Bits.{to_bits-lt}
use Rattle.timeline.proofs.Gains.{finite_no_nan}
use borrow.Author.Rules.{rules}
use native.Mathlib.Omega.{arith}
use Rattle.timeline.proofs.gain_word.Goals as goal

pub float_to_bits-result : goal.float_to_bits-result
float_to_bits-result c = finite_no_nan c.args.g c.requires

pub overflow_cast-result : goal.overflow_cast-result
overflow_cast-result c = record { fits = omega (arith, to_bits-lt binary32 c.args.g (search rules)) }

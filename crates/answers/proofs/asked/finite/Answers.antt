-- Bits below those of an infinity are no NaN's.
use Rattle.std.proofs.Common.{◌%◌, arith, le-ltb}
use lib.Ieee.{binary32}
use lib.Ieee.Bits.{nan_bits_above}
use Rattle.answers.proofs.asked.finite.Goals as goal

pub float_from_bits-result : goal.float_from_bits-result
float_from_bits-result c =
    let w = c.args.bits in
    rw (nan_bits_above binary32 w, le-ltb 2139095040 (w % 2147483648) (omega (arith, c.if-bits-lt2139095040.true))) tt

-- `gain_of` meets its contract: a finite float's word is no NaN's.
use Rattle.timeline.proofs.Gains.{finite_no_nan_word}
use Rattle.timeline.proofs.gain_of.Goals as goal

pub float_from_bits-result : goal.float_from_bits-result
float_from_bits-result c = finite_no_nan_word c.args.w c.requires.1

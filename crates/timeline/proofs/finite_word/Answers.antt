-- `finite_word` meets its contract: the law of the exponent.
use Rattle.timeline.proofs.Gains.{finite_word}
use Rattle.timeline.proofs.finite_word.Goals as goal

pub returns : goal.returns
returns c = finite_word c.args.w

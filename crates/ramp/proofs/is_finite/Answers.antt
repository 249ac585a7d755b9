-- `ramp::is_finite` meets its contract, by the law of `proofs/Finite.antt`. Assumes nothing.
use Rattle.std.proofs.Common.{◌∙◌}
use Rattle.ramp.proofs.Finite.{finite_is}
use Rattle.ramp.proofs.is_finite.Goals as goal

pub returns : goal.returns
returns c = c.is_finite.ensures.value ∙ finite_is _

-- `stinger_gain_ok` meets its contract: 16.0 is the constant.
use mathlib.Core.Path.{refl}
use lib.Ieee.{of_bits}
use Rattle.timeline.proofs.stinger_gain_ok.Goals as goal

pub returns : goal.returns
unfolding of_bits
returns c = rw c.is_finite.ensures refl

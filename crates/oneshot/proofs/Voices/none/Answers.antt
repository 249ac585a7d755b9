-- `oneshot::Voices::none` meets its contract. Assumes nothing.
use lib.Ieee.{of_bits}
use Rattle.oneshot.specs.Mix.{no_voices}
use Rattle.oneshot.proofs.Voices.none.Goals as goal

pub returns : goal.returns
unfolding of_bits no_voices
returns c = rw c.new.ensures

-- `runs::still_by` meets its contract. Assumes nothing.
use mathlib.Core.Path.{refl}
use Rattle.sweeps.proofs.Ticks.{ticks_rest}
use Rattle.runs.proofs.still_by.Goals as goal

pub returns : goal.returns
returns c = rw (ticks_rest c.args.frames c.args.v.gain c.requires.0) refl

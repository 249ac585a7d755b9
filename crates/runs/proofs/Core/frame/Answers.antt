-- `Core::frame` meets its contract: the playhead's step, the song's pair, the master's tick, the tail's step, added in order. Assumes nothing.
use Rattle.runs.specs.Core.{core_on, core_gives}
use Rattle.runs.proofs.Core.frame.Goals as goal

pub returns : goal.returns
unfolding core_on core_gives
returns c =
    rw (c.plus.ensures, c.step_of-faded.ensures, c.times.ensures, c.tick-ticked.ensures, c.played-pair.ensures, c.step-moved.ensures, c.extent_of-extent.ensures)

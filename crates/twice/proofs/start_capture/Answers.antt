-- `start_capture` twice: what both contracts say makes answers and sessions equal.
use Rattle.control.specs.Capture.{start_capture_of}
use Rattle.twice.proofs.Same.{same₂}
use Rattle.twice.proofs.start_capture.Goals as goal

pub returns : goal.returns
returns c =
    same₂ (start_capture_of c.args.s) c.start_capture-one.ensures c.start_capture-other.ensures c.requires

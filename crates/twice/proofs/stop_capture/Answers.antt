-- `stop_capture` twice: what both contracts say makes answers, sessions and lists equal.
use Rattle.control.specs.Capture.{stop_capture_of}
use Rattle.twice.proofs.Same.{and_store, same₃}
use Rattle.twice.proofs.stop_capture.Goals as goal

pub returns : goal.returns
returns c =
    and_store (same₃ (stop_capture_of c.args.s) c.stop_capture-one.ensures c.stop_capture-other.ensures c.requires)

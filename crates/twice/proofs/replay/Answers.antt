-- `replay` twice: what both contracts say makes answers, sessions and queues equal.
use Rattle.submission.specs.Replay.{replay_of}
use Rattle.twice.proofs.Same.{and_store, same₃}
use Rattle.twice.proofs.replay.Goals as goal

pub returns : goal.returns
returns c =
    and_store (same₃ (replay_of c.args.s) c.replay-one.ensures c.replay-other.ensures c.requires)

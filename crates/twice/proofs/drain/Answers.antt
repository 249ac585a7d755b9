-- `drain` twice: what both contracts say makes answers, rings and blocks equal.
use Rattle.ring.specs.Drain.{drain_of}
use Rattle.twice.proofs.Same.{and_store, same₂}
use Rattle.twice.proofs.drain.Goals as goal

pub returns : goal.returns
returns c =
    and_store (same₂ (drain_of c.args.r) c.drain-one.ensures c.drain-other.ensures c.requires)

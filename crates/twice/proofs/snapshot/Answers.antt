-- `snapshot` twice: what both contracts say makes answers and sessions equal.
use Rattle.control.specs.Snapshot.{snapshot_of}
use Rattle.twice.proofs.Same.{same₂}
use Rattle.twice.proofs.snapshot.Goals as goal

pub returns : goal.returns
returns c =
    same₂ (snapshot_of c.args.s) c.snapshot-one.ensures c.snapshot-other.ensures c.requires

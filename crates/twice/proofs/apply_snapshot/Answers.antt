-- `apply_snapshot` twice: what both contracts say makes answers and sessions equal.
use Rattle.control.specs.Snapshot.{apply_of}
use Rattle.twice.proofs.Same.{same₂}
use Rattle.twice.proofs.apply_snapshot.Goals as goal

pub returns : goal.returns
returns c =
    same₂ (λ q l. apply_of c.args.s q l c.args.x) c.apply_snapshot-one.ensures c.apply_snapshot-other.ensures c.requires

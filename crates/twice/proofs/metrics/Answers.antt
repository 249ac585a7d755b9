-- `metrics` twice: what both contracts say makes answers and sessions equal.
use Rattle.control.specs.Metrics.{metrics_of}
use Rattle.twice.proofs.Same.{same₂}
use Rattle.twice.proofs.metrics.Goals as goal

pub returns : goal.returns
returns c =
    same₂ (metrics_of c.args.s) c.metrics-one.ensures c.metrics-other.ensures c.requires

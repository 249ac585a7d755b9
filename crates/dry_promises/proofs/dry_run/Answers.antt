-- `dry_run` twice: what both contracts say makes answers and stores equal.
use Rattle.dryrun.specs.Call.{dry_run_of}
use Rattle.twice.proofs.Same.{same₄, and_store}
use Rattle.dry_promises.proofs.dry_run.Goals as goal

pub returns : goal.returns
returns c =
    and_store (same₄ (dry_run_of c.args.mode) c.dry_run-one.ensures c.dry_run-other.ensures c.requires)

-- `threshreed_dry_run` meets its contract: called as it stands.
use mathlib.Core.Path.{ap}
use Rattle.std.specs.Prelude.{Result}
use Rattle.dryrun.specs.declared.DryDone.{DryDone}
use Rattle.dryrun.specs.declared.DryError.{DryError}
use Rattle.dryrun.specs.Call.{Lent}
use Rattle.host_dry.specs.Answers.{dry_run_by}
use Rattle.host_dry.specs.Calls.{dry_run_host}
use Rattle.host_dry.proofs.threshreed_dry_run.Goals as goal

pub returns : goal.returns
unfolding dry_run_host
returns c = rw c.dry_run_answered.ensures (ap (λ (z : Result DryDone DryError × Lent). (dry_run_by z.0, z.1)) c.dry_run-a.ensures)

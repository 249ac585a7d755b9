-- The dry run as a host calls it. Definitions only.
use Rattle.std.specs.Prelude.{Result, ℕ, List}
use Rattle.dryrun.specs.declared.DryDone.{DryDone}
use Rattle.dryrun.specs.declared.DryError.{DryError}
use Rattle.dryrun.specs.Call.{Lent, dry_run_of}
use Rattle.host_dry.specs.declared.HostDryRun.{HostDryRun}
use Rattle.host_dry.specs.Answers.{dry_run_by}

-- answer; records, reasons, queue and sheet
unfoldable pub dry_run_host : ℕ → List ℕ → List ℕ → List ℕ → Lent → HostDryRun × Lent
dry_run_host mode clips file blocks x =
    let z : Result DryDone DryError × Lent = dry_run_of mode clips file blocks x in
    (dry_run_by z.0, z.1)

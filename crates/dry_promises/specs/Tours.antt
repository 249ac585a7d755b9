-- The dry run for a host of the exported function. Definitions only.
use Rattle.std.specs.Prelude.{◌≡◌, List, ℕ}
use Rattle.dryrun.specs.Call.{Lent, says_dry, dry_run_of}
use Rattle.host_dry.specs.Answers.{says_dry_by}
use Rattle.host_dry.specs.Calls.{dry_run_host}

-- it says and leaves what its call does
pub record HostDryRuns : Type 0 where
  pub dry_runs : (mode : ℕ) (clips file blocks : List ℕ) (x : Lent)
      → (says_dry_by (dry_run_host mode clips file blocks x).0 ≡ says_dry (dry_run_of mode clips file blocks x).0) × ((dry_run_host mode clips file blocks x).1 ≡ (dry_run_of mode clips file blocks x).1)

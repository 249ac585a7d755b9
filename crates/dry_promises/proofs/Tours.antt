-- The exported dry run says and leaves what the call does.
use mathlib.Core.Path.{◌≡◌, refl}
use mathlib.Core.Bool.{false}
use lib.Dec.{eqb}
use Rattle.tourfile.specs.declared.Fault.{Fault}
use Rattle.tourfile.specs.Answer.{fault_number}
use Rattle.host.proofs.Round.{state_back, loop_back}
use Rattle.dryrun.specs.declared.DryRefusal.{DryRefusal}
use Rattle.std.specs.Prelude.{Result, Ok, Err}
use Rattle.dryrun.specs.declared.DryDone.{DryDone}
use Rattle.dryrun.specs.declared.DryError.{DryError}
use Rattle.dryrun.specs.Call.{dry_number, says_dry, dry_run_of}
use Rattle.host_dry.specs.Answers.{dry_run_by, says_dry_by}
use Rattle.host_dry.specs.Calls.{dry_run_host}
use Rattle.dry_promises.specs.Tours.{HostDryRuns}

-- no fault's number is 0
number_some : (x : Fault) → eqb (fault_number x) 0 ≡ false
number_some Fault.ListedTwice = refl
number_some Fault.CutShort = refl
number_some Fault.WrongFirstTag = refl
number_some Fault.UnknownTag = refl
number_some Fault.WrongLength = refl
number_some Fault.OtherVersion = refl
number_some Fault.UnknownKind = refl
number_some Fault.ClipNotListed = refl
number_some Fault.NotRising = refl
number_some Fault.TooMany = refl
number_some Fault.WrongCount = refl
number_some Fault.BytesAfter = refl
number_some Fault.ListTooShort = refl
number_some Fault.Unreadable = refl
number_some Fault.OutputTooShort = refl

-- nor is a refusal's
refusal_some : (x : DryRefusal) → eqb (dry_number x) 0 ≡ false
refusal_some DryRefusal.Clips = refl
refusal_some (DryRefusal.Tour x) = number_some x
refusal_some DryRefusal.Commands = refl
refusal_some DryRefusal.Clock = refl

dry_says : (a : Result DryDone DryError) → says_dry_by (dry_run_by a) ≡ says_dry a
dry_says (Ok d) = rw (state_back d.run.dry.playhead.transport.state, loop_back d.run.dry.playhead.transport.looped) refl
dry_says (Err e) = rw (refusal_some e.refusal) refl

pub host_dry_runs : HostDryRuns
unfolding dry_run_host
host_dry_runs = record { dry_runs = λ mode clips file blocks x. (dry_says (dry_run_of mode clips file blocks x).0, refl) }

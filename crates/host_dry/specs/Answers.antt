-- What a dry run gives a host. Definitions only.
use Rattle.std.specs.Prelude.{Result, Ok, Err, ℕ, cond, eqb, None}
use Rattle.dryrun.specs.declared.DryDone.{DryDone}
use Rattle.dryrun.specs.declared.DryError.{DryError}
use Rattle.dryrun.specs.Call.{dry_number, SaysDry, came, refuses as refuses_dry}
use Rattle.host.specs.Kept.{state_of, state_number, loop_of, loop_numbers, no_handle}
use Rattle.host_dry.specs.declared.HostDryRun.{HostDryRun}

abbrev pub dry_run_refused : ℕ → ℕ → HostDryRun
dry_run_refused n at =
    record {
      refusal = n;
      place = at;
      commands = 0;
      taken = 0;
      executed = 0;
      queued = 0;
      clock = record { 0 = 0 };
      song = no_handle;
      state = 0;
      position = record { 0 = 0 };
      looped = loop_numbers None;
      laps = 0;
    }

abbrev pub dry_run_done : DryDone → HostDryRun
dry_run_done d =
    record {
      refusal = 0;
      place = 0;
      commands = d.commands;
      taken = d.report.taken;
      executed = d.run.rows;
      queued = d.run.queued;
      clock = d.run.dry.clock;
      song = d.run.dry.playhead.song;
      state = state_number d.run.dry.playhead.transport.state;
      position = d.run.dry.playhead.transport.position;
      looped = loop_numbers d.run.dry.playhead.transport.looped;
      laps = d.run.dry.playhead.transport.laps;
    }

abbrev pub dry_run_by : Result DryDone DryError → HostDryRun
dry_run_by (Ok d) = dry_run_done d
dry_run_by (Err e) = dry_run_refused (dry_number e.refusal) e.place

-- what it says: a number of 0 is done
abbrev pub says_dry_by : HostDryRun → SaysDry
says_dry_by r =
    cond (eqb r.refusal 0)
    (came r.commands r.taken r.executed r.queued r.clock r.song (state_of r.state) r.position (loop_of r.looped) r.laps)
    (refuses_dry r.refusal r.place)

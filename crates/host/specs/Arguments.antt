-- What the numbers of an argument name. Definitions only.
use Rattle.std.specs.Prelude.{Bool, not, ◌&&◌, cond, eqb}
use Rattle.counts.specs.Below.{within}
use Rattle.timeline.specs.declared.Submission.{Submission}
use Rattle.transport.specs.declared.At.{At}
use Rattle.control.specs.declared.PerformanceSnapshot.{PerformanceSnapshot}
use Rattle.host.specs.declared.HostCommand.{HostCommand}
use Rattle.host.specs.declared.HostAt.{HostAt}
use Rattle.host.specs.declared.HostSnapshot.{HostSnapshot}
use Rattle.host.specs.Kept.{is_state, state_of, state_number, is_flag, loop_of, loop_numbers}

-- the kinds are numbered as in a record; 5, a transition, has its own call
abbrev pub is_submission : HostCommand → Bool
is_submission x = within 1 10 x.kind && not (eqb x.kind 5)

abbrev pub submission_of : HostCommand → Submission
submission_of x =
    cond (eqb x.kind 2) Submission.Pause
    (cond (eqb x.kind 3) Submission.Stop
    (cond (eqb x.kind 4) (Submission.Seek x.frame)
    (cond (eqb x.kind 6) (Submission.Loop x.frame x.end)
    (cond (eqb x.kind 7) Submission.ClearLoop
    (cond (eqb x.kind 8) (Submission.Gain x.gain)
    (cond (eqb x.kind 9) (Submission.Swap x.clip)
    (cond (eqb x.kind 10) (Submission.Stinger x.clip x.gain)
    Submission.Play)))))))

-- 1 immediate, 2 a clock frame, 3 a song frame
abbrev pub is_at : HostAt → Bool
is_at x = within 1 3 x.kind

abbrev pub at_of : HostAt → At
at_of x =
    cond (eqb x.kind 2) (At.Frame (record { 0 = x.frame }))
    (cond (eqb x.kind 3) (At.Song (record { 0 = x.frame }))
    At.Immediate)

-- state and loop as in a session
abbrev pub is_snapshot : HostSnapshot → Bool
is_snapshot x = is_state x.state && is_flag x.looped.set

abbrev pub snapshot_of : HostSnapshot → PerformanceSnapshot
snapshot_of x = record { position = x.position; state = state_of x.state; gain = x.gain; looped = loop_of x.looped }

abbrev pub snapshot_numbers : PerformanceSnapshot → HostSnapshot
snapshot_numbers x = record { position = x.position; state = state_number x.state; gain = x.gain; looped = loop_numbers x.looped }

-- Each call under the conversion: answer, session and every lent store. Definitions only.
use Rattle.std.specs.Prelude.{ℕ, true, ◌&&◌, List, length, Float}
use Rattle.counts.specs.declared.SongFrame.{SongFrame}
use Rattle.counts.specs.declared.Handle.{Handle}
use Rattle.stage.specs.declared.Settings.{Settings}
use Rattle.session.specs.declared.Answered.{Answered}
use Rattle.clips.specs.Open.{open_of}
use Rattle.clips.specs.Load.{load_of}
use Rattle.clips.specs.Retire.{retire_of}
use Rattle.submission.specs.Submit.{submit_of}
use Rattle.submission.specs.Transition.{transition_of}
use Rattle.submission.specs.Replay.{replay_of}
use Rattle.block.specs.Block.{block_of}
use Rattle.ring.specs.declared.SampleRing.{SampleRing}
use Rattle.ring.specs.declared.Drained.{Drained}
use Rattle.ring.specs.Drain.{drain_of}
use Rattle.tourfile.specs.Reader.{read_of, read_into}
use Rattle.tourfile.specs.Writer.{records_of, write_of, write_into}
use Rattle.remains.specs.Salvage.{salvage_of, salvage_out, salvage_list}
use Rattle.pump.specs.declared.Pumped.{Pumped}
use Rattle.pump.specs.Pump.{pump_of}
use Rattle.control.specs.Capture.{start_capture_of, stop_capture_of}
use Rattle.control.specs.Snapshot as control
use Rattle.control.specs.Metrics.{metrics_of}
use Rattle.host.specs.declared.HostSession.{HostSession}
use Rattle.host.specs.declared.HostCommand.{HostCommand}
use Rattle.host.specs.declared.HostAt.{HostAt}
use Rattle.host.specs.declared.HostSnapshot.{HostSnapshot}
use Rattle.host.specs.declared.HostAnswered.{HostAnswered}
use Rattle.host.specs.declared.HostLoaded.{HostLoaded}
use Rattle.host.specs.declared.HostSubmitted.{HostSubmitted}
use Rattle.host.specs.declared.HostBlocked.{HostBlocked}
use Rattle.host.specs.declared.HostPumped.{HostPumped}
use Rattle.host.specs.declared.HostDrained.{HostDrained}
use Rattle.host.specs.declared.HostTour.{HostTour}
use Rattle.host.specs.declared.HostSalvage.{HostSalvage}
use Rattle.host.specs.declared.HostReplayed.{HostReplayed}
use Rattle.host.specs.declared.HostStopped.{HostStopped}
use Rattle.host.specs.declared.HostSnapped.{HostSnapped}
use Rattle.host.specs.declared.HostMetrics.{HostMetrics}
use Rattle.host.specs.Kept.{is_kind, kind_of, session_of}
use Rattle.host.specs.Arguments.{is_submission, submission_of, is_at, at_of, is_snapshot, snapshot_of}
use Rattle.host.specs.Answers.{weigh_host, unless, refused, answered_by, load_refused, loaded_by, opened_by, submit_refused, submitted_by, block_refused, blocked_by, pump_refused, pumped_by, drained_by, toured_by, salvaged_by, replay_refused, replayed_by, stop_refused, stopped_by, snapshot_refused, snapped_by, metrics_refused, metered_by}
use Rattle.submission.specs.declared.Report.{Report}

-- answer and session; pool
unfoldable pub open_host : Settings → List ℕ → List ℕ → List Float → List Float → ℕ → SongFrame → HostLoaded × List Float
open_host x q c pool samples rate extent =
    let z : Answered Handle × List Float = open_of x q c pool samples rate extent in
    (opened_by z.0, z.1)

-- answer and session; pool
unfoldable pub load_host : HostSession → List ℕ → List ℕ → List Float → List Float → ℕ → SongFrame → ℕ → HostLoaded × List Float
load_host h q c pool samples kind extent rate =
    let z : Answered Handle × List Float = load_of (session_of h) q c pool samples (kind_of kind extent) rate in
    unless (weigh_host h q c (is_kind kind)) (λ n. (load_refused h n, pool)) (loaded_by h z.0, z.1)

unfoldable pub retire_host : HostSession → List ℕ → List ℕ → Handle → HostAnswered
retire_host h q c x = unless (weigh_host h q c true) (refused h) (answered_by h (retire_of (session_of h) q c x))

-- answer and session; queue; capture
unfoldable pub submit_host : HostSession → List ℕ → List ℕ → HostCommand → HostAt → HostSubmitted × List ℕ × List ℕ
submit_host h q c x at =
    let z : Answered ℕ × List ℕ × List ℕ = submit_of (session_of h) q c (submission_of x) (at_of at) in
    unless (weigh_host h q c (is_submission x && is_at at)) (λ n. (submit_refused h n, q, c)) (submitted_by h z.0, z.1, z.2)

-- answer and session; queue; capture
unfoldable pub transition_host : HostSession → List ℕ → List ℕ → SongFrame → HostAt → HostSubmitted × List ℕ × List ℕ
transition_host h q c f at =
    let z : Answered ℕ × List ℕ × List ℕ = transition_of (session_of h) q c f (at_of at) in
    unless (weigh_host h q c (is_at at)) (λ n. (submit_refused h n, q, c)) (submitted_by h z.0, z.1, z.2)

-- answer and session; queue
unfoldable pub replay_host : HostSession → List ℕ → List ℕ → List ℕ → HostReplayed × List ℕ
replay_host h q c list =
    let z : Answered Report × List ℕ = replay_of (session_of h) q c list in
    unless (weigh_host h q c true) (λ n. (replay_refused h n, q)) (replayed_by h z.0, z.1)

-- answer and session; output
unfoldable pub block_host : HostSession → List ℕ → List ℕ → List Float → List Float → HostBlocked × List Float
block_host h q c pool out =
    let z : Answered ℕ × List Float = block_of (session_of h) q c pool out in
    unless (weigh_host h q c true) (λ n. (block_refused h n, out)) (blocked_by h z.0, z.1)

-- answer, session and ring; store
unfoldable pub pump_host : HostSession → List ℕ → List ℕ → List Float → SampleRing → List Float → ℕ → HostPumped × List Float
pump_host h q c pool r store frames =
    let z : Pumped × List Float = pump_of (session_of h) q c pool r store frames in
    unless (weigh_host h q c true) (λ n. (pump_refused h r n, store)) (pumped_by h z.0, z.1)

-- answer and ring; block
unfoldable pub drain_host : SampleRing → List Float → List Float → HostDrained × List Float
drain_host r store out =
    let z : Drained × List Float = drain_of r store out in
    (drained_by z.0, z.1)

-- answer; list
unfoldable pub read_tour_host : List ℕ → List ℕ → List ℕ → HostTour × List ℕ
read_tour_host clips file list = (toured_by (read_of clips file (length list)), read_into clips file list)

-- answer; output
unfoldable pub write_tour_host : List ℕ → List ℕ → List ℕ → HostTour × List ℕ
write_tour_host clips records out = (toured_by (write_of clips (records_of records) (length out)), write_into clips (records_of records) out)

-- answer; output and list
unfoldable pub salvage_host : List ℕ → List ℕ → List ℕ → HostSalvage × List ℕ × List ℕ
salvage_host file out list = (salvaged_by (salvage_of file (length out) (length list)), salvage_out file out (length list), salvage_list file (length out) list)

unfoldable pub start_capture_host : HostSession → List ℕ → List ℕ → HostAnswered
start_capture_host h q c = unless (weigh_host h q c true) (refused h) (answered_by h (start_capture_of (session_of h) q c))

-- answer and session; list
unfoldable pub stop_capture_host : HostSession → List ℕ → List ℕ → List ℕ → HostStopped × List ℕ
stop_capture_host h q c list =
    let z : Answered ℕ × List ℕ = stop_capture_of (session_of h) q c list in
    unless (weigh_host h q c true) (λ n. (stop_refused h n, list)) (stopped_by h z.0, z.1)

unfoldable pub snapshot_host : HostSession → List ℕ → List ℕ → HostSnapped
snapshot_host h q c = unless (weigh_host h q c true) (snapshot_refused h) (snapped_by h (control.snapshot_of (session_of h) q c))

unfoldable pub apply_host : HostSession → List ℕ → List ℕ → HostSnapshot → HostAnswered
apply_host h q c x =
    unless (weigh_host h q c (is_snapshot x)) (refused h) (answered_by h (control.apply_of (session_of h) q c (snapshot_of x)))

unfoldable pub metrics_host : HostSession → List ℕ → List ℕ → HostMetrics
metrics_host h q c = unless (weigh_host h q c true) (metrics_refused h) (metered_by h (metrics_of (session_of h) q c))

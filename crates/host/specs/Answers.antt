-- Answers as a host reads them: 0 or the refusal's number, what the call gives, and the session. Definitions only.
use Rattle.std.specs.Prelude.{ℕ, zero, suc, ◌+◌, ◌-◌, ◌^◌, min, Bool, true, false, cond, List, eqb, Result, Ok, Err, None}
use Rattle.counts.specs.declared.Handle.{Handle}
use Rattle.ramp.specs.Number.{zero32}
use Rattle.session.specs.declared.Answered.{Answered}
use Rattle.session.specs.Refusal.{number_of}
use Rattle.session.specs.Answer.{Says}
use Rattle.session.specs.Answer as rules
use Rattle.session.specs.WellFormed.{well_formed}
use Rattle.ring.specs.declared.SampleRing.{SampleRing}
use Rattle.ring.specs.declared.Drained.{Drained}
use Rattle.tourfile.specs.Answer.{TourAnswer}
use Rattle.tourfile.specs.Answer.{fault_number, SaysTour, gives, refuses}
use Rattle.remains.specs.Salvage.{SalvageAnswer}
use Rattle.remains.specs.Salvage.{SaysSalvage, gives as gives_salvage, refuses as refuses_salvage}
use Rattle.pump.specs.declared.Pumped.{Pumped}
use Rattle.submission.specs.declared.Report.{Report}
use Rattle.submission.specs.Replay.{report_of}
use Rattle.control.specs.declared.PerformanceMetrics.{PerformanceMetrics}
use Rattle.session.specs.declared.Session.{Session}
use Rattle.host.specs.declared.NoSuchCase.{NoSuchCase}
use Rattle.host.specs.declared.HostSession.{HostSession}
use Rattle.host.specs.declared.HostSnapshot.{HostSnapshot}
use Rattle.host.specs.declared.HostAnswered.{HostAnswered}
use Rattle.host.specs.declared.HostLoaded.{HostLoaded}
use Rattle.host.specs.declared.HostSubmitted.{HostSubmitted}
use Rattle.host.specs.declared.HostBlocked.{HostBlocked}
use Rattle.host.specs.declared.HostPumped.{HostPumped}
use Rattle.host.specs.declared.HostDrained.{HostDrained}
use Rattle.host.specs.declared.HostTour.{HostTour}
use Rattle.host.specs.declared.HostSalvage.{HostSalvage}
use Rattle.host.specs.declared.HostReplayed.{HostReplayed}
use Rattle.host.specs.declared.HostStopped.{HostStopped}
use Rattle.host.specs.declared.HostSnapped.{HostSnapped}
use Rattle.host.specs.declared.HostMetrics.{HostMetrics}
use Rattle.host.specs.Kept.{loop_numbers, no_handle, is_session, session_of, host_of}
use Rattle.host.specs.Arguments.{snapshot_numbers}
use Rattle.control.specs.declared.PerformanceSnapshot.{PerformanceSnapshot}
use Rattle.pump.specs.declared.Pushed.{Pushed}
use Rattle.session.specs.declared.Refusal.{Refusal}

-- what a host reads of an answer, in the rules' terms: 0 is its value, any other number its refusal
abbrev pub says_by : {A : Type 0} → ℕ → A → Says A
says_by n v = cond (eqb n 0) (rules.gives v) (rules.refused n)

-- the same with another dropped count
abbrev pub with_dropped : HostSession → ℕ → HostSession
with_dropped h n =
    record {
      settings = h.settings;
      used = h.used;
      last = h.last;
      clips = h.clips;
      clock = h.clock;
      state = h.state;
      position = h.position;
      cursor = h.cursor;
      looped = h.looped;
      laps = h.laps;
      song = h.song;
      master = h.master;
      tail = h.tail;
      voices = h.voices;
      counters = h.counters;
      queued = h.queued;
      number = h.number;
      deepest = h.deepest;
      dropped = n;
      capturing = h.capturing;
      captured = h.captured;
    }

-- a refused call hands back the very session that came; 15 alone counts, and stops at 2^64 - 1
unfoldable pub turned : ℕ → HostSession → HostSession
turned n h = cond (eqb n 15) (with_dropped h (min (h.dropped + 1) (2 ^ 64 - 1))) h

-- 1 if no session matches; of an argument that names no case 1 if the session is not well formed, else the host's own 255; else 0
unfoldable pub weigh_host : HostSession → List ℕ → List ℕ → Bool → ℕ
weigh_host h q c named = cond (is_session h) (cond named 0 (cond (well_formed (session_of h) q c) 255 1)) 1

-- what a call gives: something for its number, or for 0 what it does
unfoldable pub unless {ℓ} : {A : Type ℓ} → ℕ → (ℕ → A) → A → A
unless zero refused done = done
unless (suc n) refused done = refused (suc n)

-- what a call is given: the session with its argument, or the number that it is weighed with
unfoldable pub admit_host : {A : Type 0} → HostSession → List ℕ → List ℕ → Result A NoSuchCase → Result (Session × A) ℕ
admit_host h q c (Ok x) = unless (weigh_host h q c true) Err (Ok (session_of h, x))
admit_host h q c (Err e) = Err (weigh_host h q c false)

-- ---- no value: retire, start capture, apply snapshot

abbrev pub answered : ℕ → HostSession → HostAnswered
answered n h = record { refusal = n; session = h }

abbrev pub refused : HostSession → ℕ → HostAnswered
refused h n = answered n (turned n h)

abbrev pub answered_with : HostSession → Result (Unit {0}) Refusal → HostSession → HostAnswered
answered_with h (Ok tt) t = answered 0 t
answered_with h (Err k) t = refused h (number_of k)

abbrev pub answered_by : HostSession → Answered (Unit {0}) → HostAnswered
answered_by h r = answered_with h r.answer (host_of r.session)

-- ---- a handle: open, load

abbrev pub loaded : ℕ → Handle → HostSession → HostLoaded
loaded n x h = record { refusal = n; handle = x; session = h }

abbrev pub load_refused : HostSession → ℕ → HostLoaded
load_refused h n = loaded n no_handle (turned n h)

abbrev pub loaded_with : HostSession → Result Handle Refusal → HostSession → HostLoaded
loaded_with h (Ok x) t = loaded 0 x t
loaded_with h (Err k) t = load_refused h (number_of k)

abbrev pub loaded_by : HostSession → Answered Handle → HostLoaded
loaded_by h r = loaded_with h r.answer (host_of r.session)

-- a refused opening has no session to hand back but the one that every call refuses
abbrev pub opened_by : Answered Handle → HostLoaded
opened_by r = loaded_by (host_of r.session) r

-- ---- a submission number: submit, transition

abbrev pub submitted : ℕ → ℕ → HostSession → HostSubmitted
submitted n x h = record { refusal = n; number = x; session = h }

abbrev pub submit_refused : HostSession → ℕ → HostSubmitted
submit_refused h n = submitted n 0 (turned n h)

abbrev pub submitted_with : HostSession → Result ℕ Refusal → HostSession → HostSubmitted
submitted_with h (Ok x) t = submitted 0 x t
submitted_with h (Err k) t = submit_refused h (number_of k)

abbrev pub submitted_by : HostSession → Answered ℕ → HostSubmitted
submitted_by h r = submitted_with h r.answer (host_of r.session)

-- ---- the passes made: block

abbrev pub blocked : ℕ → ℕ → HostSession → HostBlocked
blocked n x h = record { refusal = n; passes = x; session = h }

abbrev pub block_refused : HostSession → ℕ → HostBlocked
block_refused h n = blocked n 0 (turned n h)

abbrev pub blocked_with : HostSession → Result ℕ Refusal → HostSession → HostBlocked
blocked_with h (Ok x) t = blocked 0 x t
blocked_with h (Err k) t = block_refused h (number_of k)

abbrev pub blocked_by : HostSession → Answered ℕ → HostBlocked
blocked_by h r = blocked_with h r.answer (host_of r.session)

-- ---- the frames made with their passes: pump

abbrev pub pumped : ℕ → ℕ → ℕ → SampleRing → HostSession → HostPumped
pumped n x p r h = record { refusal = n; frames = x; passes = p; ring = r; session = h }

abbrev pub pump_refused : HostSession → SampleRing → ℕ → HostPumped
pump_refused h r n = pumped n 0 0 r (turned n h)

abbrev pub pumped_with : HostSession → Result Pushed Refusal → SampleRing → HostSession → HostPumped
pumped_with h (Ok x) r t = pumped 0 x.frames x.passes r t
pumped_with h (Err k) r t = pump_refused h r (number_of k)

abbrev pub pumped_by : HostSession → Pumped → HostPumped
pumped_by h x = pumped_with h x.answer x.ring (host_of x.session)

-- ---- the frames taken: drain, which is lent no session

abbrev pub drained : ℕ → ℕ → SampleRing → HostDrained
drained n x r = record { refusal = n; frames = x; ring = r }

abbrev pub drained_with : Result ℕ Refusal → SampleRing → HostDrained
drained_with (Ok x) r = drained 0 x r
drained_with (Err k) r = drained (number_of k) 0 r

abbrev pub drained_by : Drained → HostDrained
drained_by x = drained_with x.answer x.ring

-- ---- how many records or bytes, or a fault with its place: a tour's file, which is lent no session

abbrev pub toured : ℕ → ℕ → ℕ → HostTour
toured n x at = record { refusal = n; count = x; place = at }

abbrev pub toured_by : TourAnswer → HostTour
toured_by (Ok n) = toured 0 n 0
toured_by (Err e) = toured (fault_number e.fault) 0 e.place

-- what it says: a number of 0 is how many
abbrev pub says_tour_by : HostTour → SaysTour
says_tour_by r = cond (eqb r.refusal 0) (gives r.count) (refuses r.refusal r.place)

-- ---- kept commands, bytes and ranges, or a fault: a salvage

abbrev pub salvaged : ℕ → ℕ → ℕ → ℕ → HostSalvage
salvaged n k b r = record { refusal = n; kept = k; bytes = b; ranges = r }

abbrev pub salvaged_by : SalvageAnswer → HostSalvage
salvaged_by (Ok t) = salvaged 0 t.kept t.bytes t.ranges
salvaged_by (Err x) = salvaged (fault_number x) 0 0 0

-- what it says: a number of 0 is done
abbrev pub says_salvage_by : HostSalvage → SaysSalvage
says_salvage_by r = cond (eqb r.refusal 0) (gives_salvage r.kept r.bytes r.ranges) (refuses_salvage r.refusal)

-- ---- a report: replay

abbrev pub replayed : ℕ → Report → HostSession → HostReplayed
replayed n x h = record { refusal = n; report = x; session = h }

abbrev pub replay_refused : HostSession → ℕ → HostReplayed
replay_refused h n = replayed n (report_of 0 0 0) (turned n h)

abbrev pub replayed_with : HostSession → Result Report Refusal → HostSession → HostReplayed
replayed_with h (Ok x) t = replayed 0 x t
replayed_with h (Err k) t = replay_refused h (number_of k)

abbrev pub replayed_by : HostSession → Answered Report → HostReplayed
replayed_by h r = replayed_with h r.answer (host_of r.session)

-- ---- how many records: stop capture

abbrev pub stopped : ℕ → ℕ → HostSession → HostStopped
stopped n x h = record { refusal = n; copied = x; session = h }

abbrev pub stop_refused : HostSession → ℕ → HostStopped
stop_refused h n = stopped n 0 (turned n h)

abbrev pub stopped_with : HostSession → Result ℕ Refusal → HostSession → HostStopped
stopped_with h (Ok x) t = stopped 0 x t
stopped_with h (Err k) t = stop_refused h (number_of k)

abbrev pub stopped_by : HostSession → Answered ℕ → HostStopped
stopped_by h r = stopped_with h r.answer (host_of r.session)

-- ---- a snapshot

abbrev pub snapped : ℕ → HostSnapshot → HostSession → HostSnapped
snapped n x h = record { refusal = n; snapshot = x; session = h }

-- position 0, stopped, gain 0, no loop
abbrev pub no_snapshot : HostSnapshot
no_snapshot = record { position = record { 0 = 0 }; state = 0; gain = zero32; looped = loop_numbers None }

abbrev pub snapshot_refused : HostSession → ℕ → HostSnapped
snapshot_refused h n = snapped n no_snapshot (turned n h)

abbrev pub snapped_with : HostSession → Result PerformanceSnapshot Refusal → HostSession → HostSnapped
snapped_with h (Ok x) t = snapped 0 (snapshot_numbers x) t
snapped_with h (Err k) t = snapshot_refused h (number_of k)

abbrev pub snapped_by : HostSession → Answered PerformanceSnapshot → HostSnapped
snapped_by h r = snapped_with h r.answer (host_of r.session)

-- ---- metrics

abbrev pub metered : ℕ → PerformanceMetrics → HostSession → HostMetrics
metered n x h = record { refusal = n; metrics = x; session = h }

abbrev pub no_metrics : PerformanceMetrics
no_metrics = record { rendered = 0; executed = 0; dropped = 0; deepest = 0; swaps = 0; fired = 0 }

abbrev pub metrics_refused : HostSession → ℕ → HostMetrics
metrics_refused h n = metered n no_metrics (turned n h)

abbrev pub metered_with : HostSession → Result PerformanceMetrics Refusal → HostSession → HostMetrics
metered_with h (Ok x) t = metered 0 x t
metered_with h (Err k) t = metrics_refused h (number_of k)

abbrev pub metered_by : HostSession → Answered PerformanceMetrics → HostMetrics
metered_by h r = metered_with h r.answer (host_of r.session)

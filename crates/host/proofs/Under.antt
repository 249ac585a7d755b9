-- Each call under the conversion: what a host reads is what the call says, and the session and stores that it leaves. Assumes nothing.
use mathlib.Core.Path.{◌≡◌, refl, sym, ap, ◌∙◌}
use mathlib.Core.Bool.{Bool, true, false, ◌&&◌}
use mathlib.Core.List.{List}
use Prim.Native.Nat.{ℕ, ◌≤◌}
use native.Mathlib.Omega.{arith}
use lib.Dec.{eqb}
use lib.ListN.{length}
use borrow.Author.Tests.{eqb-false, ne_eqb}
use lib.Ieee.{Float}
use Rattle.counts.specs.declared.SongFrame.{SongFrame}
use Rattle.counts.specs.declared.Handle.{Handle}
use Rattle.bank.specs.declared.Kind.{Kind}
use Rattle.stage.specs.declared.Settings.{Settings}
use Rattle.session.specs.declared.Session.{Session}
use Rattle.session.specs.declared.Refusal.{Refusal}
use Rattle.session.specs.declared.Answered.{Answered}
use Rattle.session.specs.Refusal.{number_of, unless}
use Rattle.session.specs.WellFormed.{weigh_only}
use Rattle.session.specs.Answer.{Says, refused, says, answered}
use Rattle.session.proofs.Refuse.{number_some, numbered, other, refused_or_done}
use Rattle.block.specs.Block.{weigh_block, block_of}
use Rattle.ring.specs.declared.SampleRing.{SampleRing}
use Rattle.pump.specs.declared.Pumped.{Pumped}
use Rattle.pump.specs.Pump.{says_pump, weigh_pump, pump_of}
use Rattle.clips.specs.Open.{no_session, weigh_open, open_done, open_of}
use Rattle.clips.specs.Load.{weigh_load, load_of}
use Rattle.clips.specs.Retire.{weigh_retire, retire_of}
use Rattle.submission.specs.declared.Report.{Report}
use Rattle.submission.specs.Submit.{taken, submit_of}
use Rattle.submission.specs.Transition.{transition_of}
use Rattle.submission.specs.Replay.{replay_of}
use Rattle.control.specs.declared.PerformanceSnapshot.{PerformanceSnapshot}
use Rattle.control.specs.declared.PerformanceMetrics.{PerformanceMetrics}
use Rattle.control.specs.Capture.{weigh_stop, start_capture_of, stop_capture_of}
use Rattle.control.specs.Snapshot as control
use Rattle.control.specs.Metrics.{metrics_of}
use Rattle.host.specs.declared.HostSession.{HostSession}
use Rattle.host.specs.declared.HostCommand.{HostCommand}
use Rattle.host.specs.declared.HostAt.{HostAt}
use Rattle.host.specs.declared.HostSnapshot.{HostSnapshot}
use Rattle.host.specs.declared.HostAnswered.{HostAnswered}
use Rattle.host.specs.declared.HostLoaded.{HostLoaded}
use Rattle.host.specs.declared.HostSubmitted.{HostSubmitted}
use Rattle.host.specs.declared.HostBlocked.{HostBlocked}
use Rattle.host.specs.declared.HostPumped.{HostPumped}
use Rattle.host.specs.declared.HostReplayed.{HostReplayed}
use Rattle.host.specs.declared.HostStopped.{HostStopped}
use Rattle.host.specs.declared.HostSnapped.{HostSnapped}
use Rattle.host.specs.declared.HostMetrics.{HostMetrics}
use Rattle.host.specs.Kept.{is_kind, kind_of, session_of, host_of}
use Rattle.host.specs.Arguments.{is_submission, submission_of, is_at, at_of, is_snapshot, snapshot_of}
use Rattle.host.specs.Answers.{says_by, turned, weigh_host, unless as unless_host, answered_by, loaded_by, opened_by, submitted_by, blocked_by, pumped_by, replayed_by, stopped_by, snapped_by, metered_by}
use Rattle.host.specs.Calls.{open_host, load_host, retire_host, submit_host, transition_host, replay_host, block_host, pump_host, start_capture_host, stop_capture_host, snapshot_host, apply_host, metrics_host}
use Rattle.host.proofs.Round.{there_and_back, snapshot_back}
use Rattle.host.proofs.Refusals.{with_store, with_stores, turned_matches, turned_same}
use Rattle.std.specs.Prelude.{Result, Err}

-- ---- what a host reads, in the rules' terms

-- a call that gives no value: retire, start capture, apply snapshot,
abbrev pub read_answered : HostAnswered → Says (Unit {0}) × Session
read_answered r = (says_by r.refusal tt, session_of r.session)

abbrev pub told_answered : Answered (Unit {0}) → Says (Unit {0}) × Session
told_answered r = (says r.answer, r.session)

-- a handle: open and load,
abbrev pub read_loaded : HostLoaded → Says Handle × Session
read_loaded r = (says_by r.refusal r.handle, session_of r.session)

abbrev pub told_loaded : Answered Handle → Says Handle × Session
told_loaded r = (says r.answer, r.session)

-- a submission number: submit and transition,
abbrev pub read_submitted : HostSubmitted → Says ℕ × Session
read_submitted r = (says_by r.refusal r.number, session_of r.session)

abbrev pub told_submitted : Answered ℕ → Says ℕ × Session
told_submitted r = (says r.answer, r.session)

-- the passes made: block,
abbrev pub read_blocked : HostBlocked → Says ℕ × Session
read_blocked r = (says_by r.refusal r.passes, session_of r.session)

abbrev pub told_blocked : Answered ℕ → Says ℕ × Session
told_blocked r = (says r.answer, r.session)

-- the frames made with their passes, and the ring: pump,
abbrev pub read_pumped : HostPumped → Says (ℕ × ℕ) × Session × SampleRing
read_pumped x = (says_by x.refusal (x.frames, x.passes), session_of x.session, x.ring)

abbrev pub told_pumped : Pumped → Says (ℕ × ℕ) × Session × SampleRing
told_pumped x = (says_pump x.answer, x.session, x.ring)

-- a report: replay,
abbrev pub read_replayed : HostReplayed → Says Report × Session
read_replayed r = (says_by r.refusal r.report, session_of r.session)

abbrev pub told_replayed : Answered Report → Says Report × Session
told_replayed r = (says r.answer, r.session)

-- how many records: stop capture,
abbrev pub read_stopped : HostStopped → Says ℕ × Session
read_stopped r = (says_by r.refusal r.copied, session_of r.session)

abbrev pub told_stopped : Answered ℕ → Says ℕ × Session
told_stopped r = (says r.answer, r.session)

-- a snapshot,
abbrev pub read_snapped : HostSnapped → Says PerformanceSnapshot × Session
read_snapped r = (says_by r.refusal (snapshot_of r.snapshot), session_of r.session)

abbrev pub told_snapped : Answered PerformanceSnapshot → Says PerformanceSnapshot × Session
told_snapped r = (says r.answer, r.session)

-- and metrics
abbrev pub read_metrics : HostMetrics → Says PerformanceMetrics × Session
read_metrics r = (says_by r.refusal r.metrics, session_of r.session)

abbrev pub told_metrics : Answered PerformanceMetrics → Says PerformanceMetrics × Session
told_metrics r = (says r.answer, r.session)

-- ---- what is refused

-- a refusal's number is read as that refusal: none is 0
pub number_says : {A : Type 0} (k : Refusal) (v : A) → says_by (number_of k) v ≡ refused (number_of k)
number_says k v = let some : 1 ≤ number_of k = number_some k in rw (ne_eqb (number_of k) 0 (λ (e : number_of k ≡ 0). omega arith))

-- 15 alone counts
abbrev counted : ℕ → Bool
counted n = eqb n 15

-- it is the queue that is full
abbrev pub full : Result (Unit {0}) Refusal → Bool
full = numbered counted

-- what is refused otherwise leaves the session
leaves : (h : HostSession) (w : Result (Unit {0}) Refusal) (k : Refusal) → full w ≡ false → w ≡ Err k → session_of (turned (number_of k) h) ≡ session_of h
leaves h w k e r = ap session_of (turned_same (number_of k) h (eqb-false (number_of k) 15 (ap full (sym r) ∙ e)))

-- 7, 1, 2, 3, 5, 6, 13, 10: opening never gives 15,
open_other : (x : Settings) (q c : List ℕ) (pool samples : List Float) (rate : ℕ) (extent : SongFrame) → full (weigh_open x q c pool samples rate extent) ≡ false
unfolding weigh_open
open_other x q c pool samples rate extent = other counted _ _ _ refl (other counted _ _ _ refl (other counted _ _ _ refl (other counted _ _ _ refl (other counted _ _ _ refl (other counted _ _ _ refl (other counted _ _ _ refl (other counted _ _ _ refl refl)))))))

-- nor does any call but submit and transition
module _ (s : Session) (q c : List ℕ) where
  pub only_other : full (weigh_only s q c) ≡ false
  unfolding weigh_only
  only_other = other counted _ _ _ refl refl

  pub load_other : (pool samples : List Float) (kind : Kind) (rate : ℕ) → full (weigh_load s q c pool samples kind rate) ≡ false
  unfolding weigh_load
  load_other pool samples kind rate = other counted _ _ _ refl (other counted _ _ _ refl (other counted _ _ _ refl (other counted _ _ _ refl (other counted _ _ _ refl (other counted _ _ _ refl (other counted _ _ _ refl (other counted _ _ _ refl (other counted _ _ _ refl refl))))))))

  pub retire_other : (x : Handle) → full (weigh_retire s q c x) ≡ false
  unfolding weigh_retire
  retire_other x = other counted _ _ _ refl (other counted _ _ _ refl (other counted _ _ _ refl refl))

  pub block_other : (pool out : List Float) → full (weigh_block s q c pool out) ≡ false
  unfolding weigh_block
  block_other pool out = other counted _ _ _ refl (other counted _ _ _ refl (other counted _ _ _ refl (other counted _ _ _ refl refl)))

  pub pump_other : (pool : List Float) (r : SampleRing) (n frames : ℕ) → full (weigh_pump s q c pool r n frames) ≡ false
  unfolding weigh_pump
  pump_other pool r n frames = other counted _ _ _ refl (other counted _ _ _ refl (other counted _ _ _ refl (other counted _ _ _ refl refl)))

  pub stop_other : (list : List ℕ) → full (weigh_stop s q c list) ≡ false
  unfolding weigh_stop
  stop_other list = other counted _ _ _ refl (other counted _ _ _ refl refl)

  pub apply_other : (x : PerformanceSnapshot) → full (control.weigh_apply s q c x) ≡ false
  unfolding control.weigh_apply
  apply_other x = other counted _ _ _ refl (other counted _ _ _ refl refl)

-- ---- one law for every call: where a refusal reads as it is told, and so does what is done, the call does

pub under : {A B T : Type 0} (host : A → B) (read : B → T) (told : A → T) (n : ℕ) (refuses : ℕ → B) (w : Result (Unit {0}) Refusal) (refusal : Refusal → A) (done : A)
    → n ≡ 0 → ((k : Refusal) → w ≡ Err k → read (host (refusal k)) ≡ told (refusal k)) → read (host done) ≡ told done
    → read (unless_host n refuses (host (unless w refusal done))) ≡ told (unless w refusal done)
unfolding unless_host
under host read told n refuses w refusal done e f g = rw e (refused_or_done w refusal done (λ z. read (host z) ≡ told z) f (λ fine. g))

-- ---- and so each call, once its numbers are weighed: what a host reads, and the stores, are what the call says and leaves

-- opening has no session to weigh,
pub open_under : (x : Settings) (q c : List ℕ) (pool samples : List Float) (rate : ℕ) (extent : SongFrame)
    → with_store read_loaded (open_host x q c pool samples rate extent) ≡ with_store told_loaded (open_of x q c pool samples rate extent)
unfolding open_host open_of
open_under x q c pool samples rate extent =
    refused_or_done (weigh_open x q c pool samples rate extent) (λ k. (answered (Err k) no_session, pool)) (open_done x pool samples rate extent)
    (λ z. with_store read_loaded (opened_by z.0, z.1) ≡ with_store told_loaded z)
    (λ k w. rw (number_says, leaves (host_of no_session) _ k (open_other x q c pool samples rate extent) w, there_and_back))
    (λ fine. rw there_and_back)

module _ (h : HostSession) (q c : List ℕ) where
  -- a load,
  pub load_under : (pool samples : List Float) (kind : ℕ) (extent : SongFrame) (rate : ℕ) → weigh_host h q c (is_kind kind) ≡ 0
      → with_store read_loaded (load_host h q c pool samples kind extent rate) ≡ with_store told_loaded (load_of (session_of h) q c pool samples (kind_of kind extent) rate)
  unfolding load_host load_of
  load_under pool samples kind extent rate e =
      under (with_store (loaded_by h)) (with_store read_loaded) (with_store told_loaded) _ _ _ _ _ e
      (λ k w. rw (number_says, leaves h _ k (load_other (session_of h) q c pool samples (kind_of kind extent) rate) w))
      (rw there_and_back)

  -- a retirement,
  pub retire_under : (x : Handle) → weigh_host h q c true ≡ 0
      → read_answered (retire_host h q c x) ≡ told_answered (retire_of (session_of h) q c x)
  unfolding retire_host retire_of
  retire_under x e =
      under (answered_by h) read_answered told_answered _ _ _ _ _ e
      (λ k w. rw (number_says, leaves h _ k (retire_other (session_of h) q c x) w))
      (rw there_and_back)

  -- a submission, whose 15 is counted,
  pub submit_under : (x : HostCommand) (at : HostAt) → weigh_host h q c (is_submission x && is_at at) ≡ 0
      → with_stores read_submitted (submit_host h q c x at) ≡ with_stores told_submitted (submit_of (session_of h) q c (submission_of x) (at_of at))
  unfolding submit_host submit_of taken
  submit_under x at e =
      under (with_stores (submitted_by h)) (with_stores read_submitted) (with_stores told_submitted) _ _ _ _ _ e
      (λ k w. rw (number_says, turned_matches))
      (rw there_and_back)

  -- a transition, alike,
  pub transition_under : (f : SongFrame) (at : HostAt) → weigh_host h q c (is_at at) ≡ 0
      → with_stores read_submitted (transition_host h q c f at) ≡ with_stores told_submitted (transition_of (session_of h) q c f (at_of at))
  unfolding transition_host transition_of taken
  transition_under f at e =
      under (with_stores (submitted_by h)) (with_stores read_submitted) (with_stores told_submitted) _ _ _ _ _ e
      (λ k w. rw (number_says, turned_matches))
      (rw there_and_back)

  -- a replay,
  pub replay_under : (list : List ℕ) → weigh_host h q c true ≡ 0
      → with_store read_replayed (replay_host h q c list) ≡ with_store told_replayed (replay_of (session_of h) q c list)
  unfolding replay_host replay_of
  replay_under list e =
      under (with_store (replayed_by h)) (with_store read_replayed) (with_store told_replayed) _ _ _ _ _ e
      (λ k w. rw (number_says, leaves h _ k (only_other (session_of h) q c) w))
      (rw there_and_back)

  -- a block,
  pub block_under : (pool out : List Float) → weigh_host h q c true ≡ 0
      → with_store read_blocked (block_host h q c pool out) ≡ with_store told_blocked (block_of (session_of h) q c pool out)
  unfolding block_host block_of
  block_under pool out e =
      under (with_store (blocked_by h)) (with_store read_blocked) (with_store told_blocked) _ _ _ _ _ e
      (λ k w. rw (number_says, leaves h _ k (block_other (session_of h) q c pool out) w))
      (rw there_and_back)

  -- a pump,
  pub pump_under : (pool : List Float) (r : SampleRing) (store : List Float) (frames : ℕ) → weigh_host h q c true ≡ 0
      → with_store read_pumped (pump_host h q c pool r store frames) ≡ with_store told_pumped (pump_of (session_of h) q c pool r store frames)
  unfolding pump_host pump_of
  pump_under pool r store frames e =
      under (with_store (pumped_by h)) (with_store read_pumped) (with_store told_pumped) _ _ _ _ _ e
      (λ k w. rw (number_says, leaves h _ k (pump_other (session_of h) q c pool r (length store) frames) w))
      (rw there_and_back)

  -- starting capture,
  pub start_under : weigh_host h q c true ≡ 0
      → read_answered (start_capture_host h q c) ≡ told_answered (start_capture_of (session_of h) q c)
  unfolding start_capture_host start_capture_of
  start_under e =
      under (answered_by h) read_answered told_answered _ _ _ _ _ e
      (λ k w. rw (number_says, leaves h _ k (only_other (session_of h) q c) w))
      (rw there_and_back)

  -- stopping it,
  pub stop_under : (list : List ℕ) → weigh_host h q c true ≡ 0
      → with_store read_stopped (stop_capture_host h q c list) ≡ with_store told_stopped (stop_capture_of (session_of h) q c list)
  unfolding stop_capture_host stop_capture_of
  stop_under list e =
      under (with_store (stopped_by h)) (with_store read_stopped) (with_store told_stopped) _ _ _ _ _ e
      (λ k w. rw (number_says, leaves h _ k (stop_other (session_of h) q c list) w))
      (rw there_and_back)

  -- a snapshot,
  pub snapshot_under : weigh_host h q c true ≡ 0
      → read_snapped (snapshot_host h q c) ≡ told_snapped (control.snapshot_of (session_of h) q c)
  unfolding snapshot_host control.snapshot_of
  snapshot_under e =
      under (snapped_by h) read_snapped told_snapped _ _ _ _ _ e
      (λ k w. rw (number_says, leaves h _ k (only_other (session_of h) q c) w))
      (rw (there_and_back, snapshot_back))

  -- applying one,
  pub apply_under : (x : HostSnapshot) → weigh_host h q c (is_snapshot x) ≡ 0
      → read_answered (apply_host h q c x) ≡ told_answered (control.apply_of (session_of h) q c (snapshot_of x))
  unfolding apply_host control.apply_of
  apply_under x e =
      under (answered_by h) read_answered told_answered _ _ _ _ _ e
      (λ k w. rw (number_says, leaves h _ k (apply_other (session_of h) q c (snapshot_of x)) w))
      (rw there_and_back)

  -- and the metrics
  pub metrics_under : weigh_host h q c true ≡ 0
      → read_metrics (metrics_host h q c) ≡ told_metrics (metrics_of (session_of h) q c)
  unfolding metrics_host metrics_of
  metrics_under e =
      under (metered_by h) read_metrics told_metrics _ _ _ _ _ e
      (λ k w. rw (number_says, leaves h _ k (only_other (session_of h) q c) w))
      (rw there_and_back)

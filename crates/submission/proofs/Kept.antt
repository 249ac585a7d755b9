-- Well formed in, well formed out: submission, transition and replay, accepted or refused. Assumes nothing.
use mathlib.Core.Path.{◌≡◌, refl}
use mathlib.Core.Bool.{Bool, true, false, cond}
use mathlib.Core.List.{List}
use Prim.Native.Nat.{ℕ, zero, suc, ◌+◌, ◌/◌}
use native.Mathlib.Omega.{arith}
use lib.Dec.{eqb}
use lib.ListN.{length}
use Rattle.counts.specs.declared.ClockFrame.{ClockFrame}
use Rattle.counts.specs.declared.SongFrame.{SongFrame}
use Rattle.counts.proofs.Truth.{cond_both}
use Rattle.timeline.specs.declared.Command.{Command}
use Rattle.timeline.specs.declared.Submission.{Submission}
use Rattle.timeline.specs.declared.Row.{Row}
use Rattle.timeline.specs.Command.{command_of, typed}
use Rattle.timeline.specs.Record.{row_of, read_of, record_of}
use Rattle.timeline.specs.Store.{kept, row_at, inserted}
use Rattle.timeline.specs.Queue.{drop_captured}
use Rattle.timeline.proofs.Words.{typed_read}
use Rattle.transport.specs.declared.At.{At}
use Rattle.transport.specs.Deadline.{deadline_of}
use Rattle.session.specs.declared.Session.{Session}
use Rattle.session.specs.declared.Refusal.{Refusal}
use Rattle.session.specs.Refusal.{number_of}
use Rattle.session.specs.Session.{desk_of, with_queue, captured_now, turned_away}
use Rattle.session.specs.WellFormed.{well_formed, weigh_only}
use Rattle.session.proofs.Parts.{Parts, parts, whole}
use Rattle.session.specs.declared.Answered.{Answered}
use Rattle.submission.specs.Weigh.{capture_room}
use Rattle.submission.specs.Submit.{weigh_submit, numbered, taken, refused, submit_of}
use Rattle.submission.specs.Transition.{cleared_queue, cleared_capture, cleared, weigh_transition, transition_of}
use Rattle.submission.specs.Replay.{Replaying, weigh_replayed, taken_by, skipped_by, replay_row, replayed, replay_of}
use Rattle.session.proofs.Refuse.{passed, refused_or_done}
use Rattle.submission.proofs.Weigh.{Fits, fine_fits, voice_free}
use Rattle.submission.proofs.Stores.{Captures, queue_of, capture_of, with_stores_law, capture_stays, queue_takes, capture_takes, queue_clears, capture_clears}
use Rattle.submission.specs.declared.Report.{Report}

-- what a submission or a transition leaves is well formed
abbrev pub LeavesParts : Answered ℕ × List ℕ × List ℕ → Type 0
LeavesParts z = Parts z.0.session z.1 z.2

-- a capture, on or off, has the records that the Transitions left it
pub cleared_count : (s : Session) (q c : List ℕ) → captured_now (cleared s q c).desk ≡ (cleared_capture s q c).count
unfolding kept
cleared_count s q c = go s.desk.capturing
  where
    go : (on : Bool) → cond on (drop_captured c (cond on s.desk.captured 0) q s.queued).count 0 ≡ (drop_captured c (cond on s.desk.captured 0) q s.queued).count
    go true = refl
    go false = refl

module _ (s : Session) (q c : List ℕ) (p : Parts s q c) where
  -- a refusal keeps a session well formed,
  pub turned_away_parts : (k : Refusal) → Parts (turned_away k s) q c
  unfolding turned_away
  turned_away_parts k =
      cond_both (λ (z : Session). Parts z q c) (eqb (number_of k) 15) _ _ (with_stores_law s q c p s.queued _ q c (queue_of s q c p) (capture_of s q c p)) p

  -- so does taking a command that fits, with any capture that is in order,
  pub record_taken : (x : Command) → typed x ≡ true → (spare : Bool) → Fits s q spare x → (at : ClockFrame) (deepest dropped captured : ℕ) (on : Bool) (c' : List ℕ)
      → Captures s (s.desk.number + 1) (cond on captured 0) c'
      → Parts (with_queue s (s.queued + 1) (desk_of (s.desk.number + 1) deepest dropped on captured)) (inserted q s.queued (row_of (numbered s at x))) c'
  record_taken x t spare f at deepest dropped captured on c' b =
      with_stores_law s q c p _ _ _ c'
      (queue_takes s s.desk.number (numbered s at x) t f.gain f.claim refl s.queued q (queue_of s q c p) f.depth
      (voice_free s q spare x f p.stinging))
      b

  -- as a submission and a transition take it
  pub taken_parts : (x : Command) → typed x ≡ true → Fits s q (capture_room s) x → (at : At) → LeavesParts (taken s q c x at)
  unfolding taken
  taken_parts x t f at =
      let frame : ClockFrame = deadline_of s.stage.clock s.stage.playhead.transport at in
      record_taken x t (capture_room s) f frame _ _ _ _ _
      (capture_takes s s.desk.number (numbered s frame x) t f.gain f.claim refl s.desk.capturing s.desk.captured c (capture_of s q c p) f.room)

  -- and taking the Transitions out
  pub cleared_parts : Parts (cleared s q c) (cleared_queue s q).words (cleared_capture s q c).words
  cleared_parts =
      let a = queue_of s q c p in
      with_stores_law s q c p _ _ _ _ (queue_clears s s.desk.number s.queued q a)
      (rw (cleared_count s q c) (capture_clears s s.desk.number s.queued q a (captured_now s.desk) c (capture_of s q c p)))

-- ---- submission and transition

-- a submission or a transition leaves session, queue and capture well formed
abbrev pub leaves_well : Answered ℕ × List ℕ × List ℕ → Bool
leaves_well z = well_formed z.0.session z.1 z.2

module _ (s : Session) (q c : List ℕ) (e : well_formed s q c ≡ true) (at : At) where
  left : (z : Answered ℕ × List ℕ × List ℕ) → LeavesParts z → leaves_well z ≡ true
  left z p = whole z.0.session z.1 z.2 p

  -- a submission leaves a well formed session well formed
  pub submit_kept : (x : Submission) → typed (command_of x) ≡ true → leaves_well (submit_of s q c x at) ≡ true
  unfolding submit_of weigh_submit
  submit_kept x t =
      left (submit_of s q c x at)
      (refused_or_done (weigh_submit s q c x) (refused s q c) (taken s q c (command_of x) at) LeavesParts (λ k _. turned_away_parts s q c (parts s q c e) k)
      (λ f. taken_parts s q c (parts s q c e) (command_of x) t (fine_fits s q (capture_room s) (command_of x) (passed _ _ _ f).1) at))

  -- so does a transition
  pub transition_kept : (f : SongFrame) → leaves_well (transition_of s q c f at) ≡ true
  unfolding transition_of weigh_transition
  transition_kept f =
      let z : Session = cleared s q c in
      let words : List ℕ = (cleared_queue s q).words in
      left (transition_of s q c f at)
      (refused_or_done (weigh_transition s q c f) (refused s q c) _ LeavesParts (λ k _. turned_away_parts s q c (parts s q c e) k)
      (λ w. taken_parts z words (cleared_capture s q c).words (cleared_parts s q c (parts s q c e)) (Command.Transition f) refl
      (fine_fits z words (capture_room z) (Command.Transition f) (passed _ _ _ w).1) at))

-- ---- replay

module _ (c : List ℕ) where
  -- where a replay stands is well formed
  abbrev Well : Replaying → Type 0
  Well z = Parts z.session z.queue c

  row_well : (z : Replaying) (x : Row) → Well z → Well (replay_row z x)
  unfolding replay_row weigh_replayed
  row_well z x p =
      let s : Session = z.session in
      let q : List ℕ = z.queue in
      let y : Command = read_of x in
      refused_or_done (weigh_replayed s q x) (skipped_by z) (taken_by z (record_of x)) Well (λ k _. turned_away_parts s q c p k)
      (λ w. record_taken s q c p y (typed_read x) true (fine_fits s q true y (passed _ _ _ w).1) (record { 0 = x.at }) _ _ _ _ c
      (capture_stays s s.desk.number (s.desk.number + 1) (captured_now s.desk) c (omega arith) (capture_of s q c p)))

  -- and so it is after any number of the list's records
  pub replayed_well : (s : Session) (q list : List ℕ) → Parts s q c → (n : ℕ) → Well (replayed s q list n)
  unfolding replayed
  replayed_well s q list p zero = p
  replayed_well s q list p (suc n) = row_well (replayed s q list n) (row_at list n) (replayed_well s q list p n)

  -- and so does a replay, whatever the records are
  pub replay_kept : (s : Session) (q list : List ℕ) → well_formed s q c ≡ true → well_formed (replay_of s q c list).0.session (replay_of s q c list).1 c ≡ true
  unfolding replay_of
  replay_kept s q list e =
      refused_or_done (weigh_only s q c) _ _ (λ (z : Answered Report × List ℕ). well_formed z.0.session z.1 c ≡ true) (λ k _. e)
      (λ _. let z : Replaying = replayed s q list (length list / 5) in whole z.session z.queue c (replayed_well s q list (parts s q c e) (length list / 5)))

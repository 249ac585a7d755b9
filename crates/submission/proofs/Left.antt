-- What a submission and a transition answer and leave, refused or taken. Assumes nothing.
use mathlib.Core.Path.{◌≡◌, refl, sym}
use mathlib.Core.Bool.{Bool, true, false, not, ◌&&◌, cond}
use mathlib.Core.List.{List, [], ◌∷◌}
use Prim.Native.Nat.{ℕ, ◌+◌, ◌-◌, ◌^◌, ◌<◌, min}
use native.Mathlib.Omega.{arith}
use native.Mathlib.Numerals.{add-one}
use lib.Dec.{leb, eqb}
use borrow.Author.Tests.{leb-false, not-false as not-off}
use Rattle.laws.specs.Order.{insert_by, without}
use Rattle.counts.specs.declared.SongFrame.{SongFrame}
use Rattle.counts.proofs.Truth.{not_true, never}
use Rattle.timeline.specs.declared.Command.{Command}
use Rattle.timeline.specs.declared.Submission.{Submission}
use Rattle.timeline.specs.declared.QueueRecord.{QueueRecord}
use Rattle.timeline.specs.Command.{command_of, command_is_transition, typed}
use Rattle.timeline.specs.Record.{row_of}
use Rattle.timeline.specs.Store.{put_row}
use Rattle.timeline.specs.Queue.{queue, frame, has_transition}
use Rattle.timeline.proofs.Queue.{queue_inserted, queue_put, queue_dropped, capture_dropped}
use Rattle.transport.specs.declared.At.{At}
use Rattle.transport.specs.Deadline.{deadline_of}
use Rattle.session.specs.declared.Session.{Session}
use Rattle.session.specs.declared.Refusal.{Refusal}
use Rattle.session.specs.Refusal.{number_of, unless}
use Rattle.session.specs.Session.{desk_of, with_desk, with_queue, captured_now, turned_away}
use Rattle.session.proofs.Parts.{Parts, parts}
use Rattle.session.specs.declared.Answered.{Answered}
use Rattle.submission.specs.Weigh.{capture_room}
use Rattle.submission.specs.Submit.{weigh_submit, numbered, desk_taken, taken, refused, submit_of}
use Rattle.submission.specs.Transition.{cleared_queue, cleared_capture, cleared, weigh_transition, transition_of}
use Rattle.submission.specs.Order.{accepted, waiting, recorded}
use Rattle.session.proofs.Refuse.{passed}
use Rattle.submission.proofs.Weigh.{Fits, fine_fits}
use Rattle.submission.proofs.Kept.{cleared_count, cleared_parts}
use Rattle.std.specs.Prelude.{Result, Ok, Err}

-- a refusal leaves the session but for the dropped count, to which 15 adds one, held at 2^64 - 1
pub turned_away_law : (k : Refusal) (s : Session)
    → turned_away k s
    ≡ with_desk s (desk_of s.desk.number s.desk.deepest (cond (eqb (number_of k) 15) (min (s.desk.dropped + 1) (2 ^ 64 - 1)) s.desk.dropped) s.desk.capturing s.desk.captured)
unfolding turned_away
turned_away_law k s = go (eqb (number_of k) 15)
  where
    counting : ℕ → Session
    counting n = with_desk s (desk_of s.desk.number s.desk.deepest n s.desk.capturing s.desk.captured)

    go : (b : Bool) → cond b (counting (min (s.desk.dropped + 1) (2 ^ 64 - 1))) s ≡ counting (cond b (min (s.desk.dropped + 1) (2 ^ 64 - 1)) s.desk.dropped)
    go true = refl
    go false = refl

-- ---- refused

module _ (s : Session) (q c : List ℕ) (at : At) (k : Refusal) where
  -- a refused submission leaves queue and capture, and the session but for the dropped count
  pub submit_refused_law : (x : Submission) → weigh_submit s q c x ≡ Err k → submit_of s q c x at ≡ refused s q c k
  unfolding submit_of unless
  submit_refused_law x w = rw w

  -- a refused transition drops none
  pub transition_refused : (f : SongFrame) → weigh_transition s q c f ≡ Err k → transition_of s q c f at ≡ refused s q c k
  unfolding transition_of unless
  transition_refused f w = rw w

-- ---- taken

-- the record of a command: its frame by the deadline rule, the next number
abbrev pub record_for : Session → Command → At → QueueRecord
record_for s x at = numbered s (deadline_of s.stage.clock s.stage.playhead.transport at) x

-- a record is taken: its number is the answer, it stands in the queue behind all that are for its frame or an earlier one, and last in a capture that is on
pub record Takes (r : QueueRecord) (on : Bool) (queued captured : List QueueRecord) (z : Answered ℕ × List ℕ × List ℕ) : Type 0 where
  pub answer : z.0.answer ≡ Ok r.number
  pub waits : waiting z.0.session z.1 ≡ insert_by frame r queued
  pub records : recorded z.0.session z.2 ≡ cond on (r ∷ captured) []

module _ (s : Session) (q c : List ℕ) (p : Parts s q c) where
  -- what waits without the older Transitions,
  pub cleared_waiting : waiting (cleared s q c) (cleared_queue s q).words ≡ without (λ r. command_is_transition r.command) (waiting s q)
  cleared_waiting = let size = p.queue_size in let queued = p.queued in queue_dropped q s.queued (omega arith)

  -- and a capture without theirs
  pub cleared_recorded : recorded (cleared s q c) (cleared_capture s q c).words ≡ without (λ r. has_transition r.number (waiting s q)) (recorded s c)
  cleared_recorded =
      let size = p.capture_size in
      let captured = p.captured in
      rw (cleared_count s q c) (capture_dropped c (captured_now s.desk) q s.queued (omega arith))

taken_takes : (s : Session) (q c : List ℕ) (x : Command) (at : At) → Parts s q c → typed x ≡ true → Fits s q (capture_room s) x
    → Takes (record_for s x at) s.desk.capturing (waiting s q) (recorded s c) (taken s q c x at)
unfolding taken
taken_takes s q c x at p t f =
    let size = p.queue_size in
    let depth = f.depth in
    record {
      answer = refl;
      waits = rw (add-one s.queued) (queue_inserted q s.queued r (omega arith) t);
      records = appended s.desk.capturing s.desk.captured f.room;
    }
  where
    r : QueueRecord
    r = record_for s x at

    appended : (on : Bool) (m : ℕ) → not (on && leb s.settings.capture m) ≡ true
        → queue (cond on (put_row c m (row_of r)) c) (cond on (cond on (m + 1) m) 0) ≡ cond on (r ∷ queue c (cond on m 0)) []
    appended true m room =
        let size = p.capture_size in
        let below : m < s.settings.capture = leb-false s.settings.capture m (not_true _ room) in
        rw (add-one m) (queue_put c m r (omega arith) t)
    appended false m room = refl

accepted_fine : (s : Session) (q c : List ℕ) (w : Result (Unit {0}) Refusal) (done : Answered ℕ × List ℕ × List ℕ)
    → accepted (unless w (refused s q c) done).0.answer ≡ true → w ≡ Ok tt
unfolding unless
accepted_fine s q c (Ok tt) done e = refl
accepted_fine s q c (Err k) done e = absurd (never (sym e))

module _ (s : Session) (q c : List ℕ) (x : Submission) (at : At) (ok : accepted (submit_of s q c x at).0.answer ≡ true) where
  -- a submission that is accepted weighs Fine,
  pub submit_fine : weigh_submit s q c x ≡ Ok tt
  unfolding submit_of
  submit_fine = accepted_fine s q c (weigh_submit s q c x) (taken s q c (command_of x) at) ok

  -- comes to a well formed session,
  pub submit_parts : Parts s q c
  unfolding weigh_submit
  submit_parts = parts s q c (not-off _ (passed _ _ _ submit_fine).0)

  -- fits,
  pub submit_fits : Fits s q (capture_room s) (command_of x)
  unfolding weigh_submit
  submit_fits = fine_fits s q (capture_room s) (command_of x) (passed _ _ _ submit_fine).1

  -- is taken,
  pub submit_taken : submit_of s q c x at ≡ taken s q c (command_of x) at
  unfolding submit_of unless
  submit_taken = rw submit_fine

  -- raises depth and number by one and the deepest depth with them, and gives a capture that is on a record more,
  pub submit_session : (submit_of s q c x at).0.session ≡ with_queue s (s.queued + 1) (desk_taken s)
  unfolding taken
  submit_session = rw submit_taken

  -- and answers the next number; its record stands in queue and capture
  pub submit_takes : typed (command_of x) ≡ true
      → Takes (record_for s (command_of x) at) s.desk.capturing (waiting s q) (recorded s c) (submit_of s q c x at)
  submit_takes t = rw submit_taken (taken_takes s q c (command_of x) at submit_parts t submit_fits)

module _ (s : Session) (q c : List ℕ) (f : SongFrame) (at : At) (ok : accepted (transition_of s q c f at).0.answer ≡ true) where
  -- a transition that is accepted weighs Fine, as if the older ones had gone,
  pub transition_fine : weigh_transition s q c f ≡ Ok tt
  unfolding transition_of
  transition_fine = accepted_fine s q c (weigh_transition s q c f) _ ok

  -- comes to a well formed session,
  pub transition_parts : Parts s q c
  unfolding weigh_transition
  transition_parts = parts s q c (not-off _ (passed _ _ _ transition_fine).0)

  -- is taken,
  pub transition_taken : transition_of s q c f at ≡ taken (cleared s q c) (cleared_queue s q).words (cleared_capture s q c).words (Command.Transition f) at
  unfolding transition_of unless
  transition_taken = rw transition_fine

  -- answers the next number, and its record stands in the queue without the older ones, and in the capture without theirs
  pub transition_takes : Takes (record_for s (Command.Transition f) at) s.desk.capturing
      (without (λ r. command_is_transition r.command) (waiting s q))
      (without (λ r. has_transition r.number (waiting s q)) (recorded s c))
      (transition_of s q c f at)
  unfolding weigh_transition
  transition_takes =
      let z : Session = cleared s q c in
      let words : List ℕ = (cleared_queue s q).words in
      let p : Parts s q c = transition_parts in
      let k = taken_takes z words (cleared_capture s q c).words (Command.Transition f) at (cleared_parts s q c p) refl (fine_fits z words (capture_room z) (Command.Transition f) (passed _ _ _ transition_fine).1) in
      let left = cleared_waiting s q c p in
      let kept = cleared_recorded s q c p in
      rw transition_taken (record { answer = k.answer; waits = rw (sym left) k.waits; records = rw (sym kept) k.records })

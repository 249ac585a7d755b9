-- What a well formed session asks of its queue and of its capture, apart from the rest: what the calls that queue commands keep. Assumes nothing.
use mathlib.Core.Path.{◌≡◌, refl, ◌∙◌}
use mathlib.Core.Bool.{Bool, true, false, not, ◌&&◌, cond}
use mathlib.Core.List.{List}
use Prim.Native.Nat.{ℕ, ◌+◌, ◌*◌, ◌≤◌, ◌<◌}
use native.Mathlib.Omega.{arith}
use native.Mathlib.Numerals.{add-one}
use lib.Dec.{leb}
use lib.ListN.{length}
use borrow.Author.Tests.{leb-false}
use Rattle.std.specs.Prelude.{Option, Some, None}
use Rattle.counts.specs.Below.{all_below}
use Rattle.counts.proofs.Truth.{and_true, not_true}
use Rattle.counts.proofs.Below.{all_at, all_true}
use Rattle.timeline.specs.declared.Row.{Row}
use Rattle.timeline.specs.declared.QueueRecord.{QueueRecord}
use Rattle.timeline.specs.Command.{claim_of, takes_voice, typed, gain_ok}
use Rattle.timeline.specs.Record.{row_of, read_of, is_transition}
use Rattle.timeline.specs.Store.{put_row, inserted}
use Rattle.timeline.specs.Queue.{queue_ok, capture_ok, stingers, drop_transitions, is_queued, drop_captured}
use Rattle.timeline.proofs.Rows.{length_put, length_inserted, length_kept, kept_at_most, all_inserted, all_put, all_kept}
use Rattle.timeline.proofs.Words.{command_back}
use Rattle.timeline.proofs.Queue.{stingers_inserted, stingers_dropped}
use Rattle.timeline.proofs.WellFormed.{queue_inserts, queue_drops, capture_puts, capture_drops, capture_later}
use Rattle.stage.specs.declared.Tail.{Tail}
use Rattle.session.specs.declared.Desk.{Desk}
use Rattle.session.specs.declared.Session.{Session}
use Rattle.session.specs.Session.{with_queue, captured_now}
use Rattle.session.specs.WellFormed.{held, tail_held, row_held}
use Rattle.session.proofs.Parts.{Parts}

-- a queue of n records under a last number
pub record Queues (s : Session) (last n : ℕ) (q : List ℕ) : Type 0 where
  pub queued : n ≤ s.settings.queue
  pub size : length q ≡ s.settings.queue * 5
  pub records : queue_ok last q n ≡ true
  pub handles : all_below n (row_held s q) ≡ true
  pub stinging : stingers q n + s.stage.sound.voices.count ≤ 16
  pub executed : s.stage.counters.executed + n ≤ last

-- a capture of m records under a last number
pub record Captures (s : Session) (last m : ℕ) (c : List ℕ) : Type 0 where
  pub captured : m ≤ s.settings.capture
  pub size : length c ≡ s.settings.capture * 5
  pub records : capture_ok last c m ≡ true
  pub handles : all_below m (row_held s c) ≡ true

module _ (s : Session) (q c : List ℕ) (p : Parts s q c) where
  -- a well formed session's queue
  pub queue_of : Queues s s.desk.number s.queued q
  queue_of =
      record {
        queued = p.queued;
        size = p.queue_size;
        records = p.queue;
        handles = all_true (row_held s q) s.queued p.queue_held;
        stinging = p.stinging;
        executed = p.executed;
      }

  -- and its capture
  pub capture_of : Captures s s.desk.number (captured_now s.desk) c
  capture_of =
      record {
        captured = p.captured;
        size = p.capture_size;
        records = p.capture;
        handles = all_true (row_held s c) (captured_now s.desk) p.capture_held;
      }

  -- with another queue and another capture it is well formed if they are
  pub with_stores_law : (n : ℕ) (d : Desk) (q' c' : List ℕ) → Queues s d.number n q' → Captures s d.number (captured_now d) c' → Parts (with_queue s n d) q' c'
  with_stores_law n d q' c' a b =
      record {
        settings = p.settings;
        clock = p.clock;
        queued = a.queued;
        captured = b.captured;
        voices = p.voices;
        queue_size = a.size;
        capture_size = b.size;
        bank = p.bank;
        queue = a.records;
        capture = b.records;
        song = p.song;
        tail = tail s.stage.sound.fade.tail p.tail;
        voices_held = p.voices_held;
        queue_held = λ j l. all_at (row_held s q') n j a.handles l;
        capture_held = λ j l. all_at (row_held s c') (captured_now d) j b.handles l;
        position = p.position;
        looped = p.looped;
        stinging = a.stinging;
        heads = p.heads;
        master = p.master;
        master_target = p.master_target;
        weight = p.weight;
        gains = p.gains;
        executed = a.executed;
        special = p.special;
      }
    where
      tail : (t : Option Tail) → tail_held s t ≡ true → tail_held (with_queue s n d) t ≡ true
      tail None e = e
      tail (Some t) e = e

-- a capture keeps in order while later numbers are given
pub capture_stays : (s : Session) (last next m : ℕ) (c : List ℕ) → last ≤ next → Captures s last m c → Captures s next m c
capture_stays s last next m c l a =
    record { captured = a.captured; size = a.size; records = capture_later last c m a.records next l; handles = a.handles }

-- ---- a record is taken

module _ (s : Session) (last : ℕ) (r : QueueRecord) (t : typed r.command ≡ true) (g : gain_ok r.command ≡ true) (h : held s (claim_of r.command) ≡ true) (next : r.number ≡ last + 1) where
  row_held_law : held s (claim_of (read_of (row_of r))) ≡ true
  row_held_law = rw (command_back r.at.0 r.number r.command t) h

  -- a queue with room takes a record under the next number, a Stinger if a voice is left
  pub queue_takes : (n : ℕ) (q : List ℕ) → Queues s last n q → n < s.settings.queue
      → (takes_voice (claim_of r.command) ≡ true → stingers q n + s.stage.sound.voices.count < 16) → Queues s (last + 1) (n + 1) (inserted q n (row_of r))
  queue_takes n q a room voice =
      let size = a.size in
      let fits : n * 5 + 5 ≤ length q = omega arith in
      let executed = a.executed in
      record {
        queued = omega arith;
        size = length_inserted q n (row_of r) ∙ a.size;
        records = rw (add-one n) (queue_inserts last q n a.records r fits t g next);
        handles = rw (add-one n) (all_inserted (λ x. held s (claim_of (read_of x))) q n (row_of r) fits ∙ and_true row_held_law a.handles);
        stinging = rw (add-one n, stingers_inserted q n r fits t) (more (takes_voice (claim_of r.command)) voice a.stinging);
        executed = omega arith;
      }
    where
      more : (b : Bool) → (b ≡ true → stingers q n + s.stage.sound.voices.count < 16) → stingers q n + s.stage.sound.voices.count ≤ 16
          → cond b (stingers q n + 1) (stingers q n) + s.stage.sound.voices.count ≤ 16
      more true v l = let k = v refl in omega arith
      more false v l = l

  -- a capture that is on and not full takes it too; one that is off stays
  pub capture_takes : (on : Bool) (m : ℕ) (c : List ℕ) → Captures s last (cond on m 0) c → not (on && leb s.settings.capture m) ≡ true
      → Captures s (last + 1) (cond on (cond on (m + 1) m) 0) (cond on (put_row c m (row_of r)) c)
  capture_takes true m c a room =
      let size = a.size in
      let below : m < s.settings.capture = leb-false s.settings.capture m (not_true _ room) in
      let fits : m * 5 + 5 ≤ length c = omega arith in
      record {
        captured = omega arith;
        size = length_put c m (row_of r) ∙ a.size;
        records = rw (add-one m) (capture_puts last c m a.records r fits t g next);
        handles = rw (add-one m) (all_put (λ x. held s (claim_of (read_of x))) c m (row_of r) fits ∙ and_true row_held_law a.handles);
      }
  capture_takes false m c a room = capture_stays s last (last + 1) 0 c (omega arith) a

-- ---- the Transitions go

module _ (s : Session) (last n : ℕ) (q : List ℕ) (a : Queues s last n q) where
  fits : n * 5 ≤ length q
  fits = let x = a.queued in let y = a.size in omega arith

  -- a queue without its Transitions is one,
  pub queue_clears : Queues s last (drop_transitions q n).count (drop_transitions q n).words
  queue_clears =
      let fewer = kept_at_most is_transition q n in
      let queued = a.queued in
      let executed = a.executed in
      record {
        queued = omega arith;
        size = length_kept is_transition q n ∙ a.size;
        records = queue_drops last q n a.records fits;
        handles = all_kept (λ x. held s (claim_of (read_of x))) is_transition q n fits a.handles;
        stinging = rw (stingers_dropped q n fits) a.stinging;
        executed = omega arith;
      }

  -- and a capture without their records
  pub capture_clears : (m : ℕ) (c : List ℕ) → Captures s last m c → Captures s last (drop_captured c m q n).count (drop_captured c m q n).words
  capture_clears m c b =
      let going : Row → Bool = λ x. is_queued q n x.number in
      let fewer = kept_at_most going c m in
      let captured = b.captured in
      let size = b.size in
      let room : m * 5 ≤ length c = omega arith in
      record {
        captured = omega arith;
        size = length_kept going c m ∙ b.size;
        records = capture_drops last c m b.records q n room;
        handles = all_kept (λ x. held s (claim_of (read_of x))) going c m room b.handles;
      }

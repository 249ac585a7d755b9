-- What a well formed session, and a command that it does not refuse, give the code that weighs, clears, takes and replays. Assumes nothing.
use mathlib.Core.Path.{◌≡◌}
use mathlib.Core.Bool.{true, not}
use mathlib.Core.List.{List}
use Prim.Native.Nat.{ℕ, ◌+◌, ◌-◌, ◌*◌, ◌^◌, ◌≤◌, ◌<◌}
use native.Mathlib.Omega.{arith}
use native.Mathlib.Numerals.{add-one}
use lib.ListN.{length}
use borrow.Author.Tests.{not-false}
use Rattle.timeline.specs.declared.Command.{Command}
use Rattle.timeline.specs.declared.Row.{Row}
use Rattle.timeline.specs.Command.{gain_ok}
use Rattle.timeline.specs.Record.{readable, read_of}
use Rattle.timeline.specs.Store.{row_at}
use Rattle.timeline.specs.Queue.{stingers}
use Rattle.session.specs.declared.Session.{Session}
use Rattle.session.specs.declared.Refusal.{Refusal}
use Rattle.session.specs.Refusal.{first}
use Rattle.session.specs.Session.{captured_now}
use Rattle.session.specs.WellFormed.{well_formed}
use Rattle.session.proofs.Parts.{parts}
use Rattle.session.proofs.Refuse.{passed}
use Rattle.submission.specs.Weigh.{weigh_command, capture_room, scales_of, stands_now}
use Rattle.submission.specs.Replay.{weigh_replayed, replay_row, replayed}
use Rattle.submission.specs.Ready.{RowReady}
use Rattle.submission.proofs.Weigh.{Fits, fine_fits, number_left, capture_left}
use Rattle.submission.proofs.Kept.{replayed_well}
use Rattle.submission.proofs.Reported.{replayed_told}
use Rattle.std.specs.Prelude.{Result, Ok}

-- a call that is not refused has a well formed session, and the later tests refuse nothing
pub not_refused : (s : Session) (q c : List ℕ) (rest : Result (Unit {0}) Refusal) → first (not (well_formed s q c)) Refusal.NotWellFormed rest ≡ Ok tt
    → (well_formed s q c ≡ true) × (rest ≡ Ok tt)
not_refused s q c rest e = let a = passed _ _ _ e in (not-false _ a.0, a.1)

-- a queue with room for a command that fits has the five words for its record
pub record_room : (s : Session) (q : List ℕ) → length q ≡ s.settings.queue * 5 → s.queued < s.settings.queue → s.queued * 5 + 5 ≤ length q
record_room s q size depth = omega arith

-- a record that is not refused is readable, and its command fits
pub taken_fits : (s : Session) (q : List ℕ) (x : Row) → weigh_replayed s q x ≡ Ok tt → (readable x ≡ true) × Fits s q true (read_of x)
unfolding weigh_replayed
taken_fits s q x e = let a = passed _ _ _ e in (not-false _ a.0, fine_fits s q true (read_of x) a.1)

module _ (s : Session) (q c : List ℕ) (e : well_formed s q c ≡ true) where
  -- the queued records lie in their store, and queued stingers + sounding voices are at most 16
  pub scales_ready : (s.queued * 5 ≤ length q) × (stingers q s.queued + s.stage.sound.voices.count ≤ 16)
  scales_ready = let p = parts s q c e in (omega arith, p.stinging)

  -- the captured records lie in theirs
  pub clear_ready : (s.queued * 5 ≤ length q) × (captured_now s.desk * 5 ≤ length c)
  clear_ready = let p = parts s q c e in (omega arith, omega arith)

  module _ (x : Command) (w : weigh_command (scales_of s q (capture_room s)) (stands_now s x) x ≡ Ok tt) where
    fits : Fits s q (capture_room s) x
    fits = fine_fits s q (capture_room s) x w

    -- a command that is taken has a gain that 14 allows,
    pub take_gain : gain_ok x ≡ true
    take_gain = fits.gain

    -- the next number,
    pub take_number : s.desk.number < 2 ^ 64 → s.desk.number < 2 ^ 64 - 1
    take_number = number_left s q (capture_room s) x fits

    -- room in the queue,
    pub take_queue : s.queued * 5 + 5 ≤ length q
    take_queue = record_room s q (parts s q c e).queue_size fits.depth

    -- and room in a capture that is on
    pub take_capture : s.desk.capturing ≡ true → s.desk.captured * 5 + 5 ≤ length c
    take_capture on = let p = parts s q c e in let l = capture_left s q x fits on in omega arith

  -- a replay can go on while records are left: each of its steps leaves the session well formed, and its report counts no more records than there were
  pub row_ready : s.desk.dropped < 2 ^ 64 → (list : List ℕ) (n : ℕ) → n + 1 < 2 ^ 64 → RowReady (replayed s q list n)
  row_ready small list n few =
      let p = replayed_well c s q list (parts s q c e) n in
      let t = (replayed_told s q list small n).adds_up in
      record { counts = record { taken = omega arith; full = omega arith; skipped = omega arith }; queued = p.queued; size = p.queue_size; stinging = p.stinging }

-- one record more is replayed
pub replayed_more : (s : Session) (q list : List ℕ) (n : ℕ) → replayed s q list (n + 1) ≡ replay_row (replayed s q list n) (row_at list n)
unfolding replayed
replayed_more s q list n = rw add-one

-- What a replay's report says, and what of the session it tells. Assumes nothing.
use mathlib.Core.Path.{◌≡◌, refl}
use mathlib.Core.Bool.{true, false}
use mathlib.Core.Logic.{⊎_elim}
use mathlib.Core.List.{List}
use Prim.Native.Nat.{ℕ, zero, suc, ◌+◌, ◌-◌, ◌/◌, ◌^◌, ◌<◌, min}
use native.Mathlib.Omega.{arith}
use native.Mathlib.Numerals.{add-one}
use lib.Dec.{eqb}
use lib.ListN.{length}
use Rattle.laws.specs.Order.{insert_by}
use Rattle.counts.proofs.Truth.{two_ways, cond_both}
use Rattle.timeline.specs.declared.QueueRecord.{QueueRecord}
use Rattle.timeline.specs.declared.Row.{Row}
use Rattle.timeline.specs.Record.{read_of, record_of}
use Rattle.timeline.specs.Store.{row_at}
use Rattle.timeline.specs.Queue.{frame}
use Rattle.timeline.proofs.Words.{typed_read}
use Rattle.timeline.proofs.Queue.{queue_inserted}
use Rattle.session.specs.declared.Desk.{Desk}
use Rattle.session.specs.declared.Session.{Session}
use Rattle.session.specs.declared.Refusal.{Refusal}
use Rattle.session.specs.Refusal.{number_of, first, unless}
use Rattle.session.specs.Session.{desk_of, with_queue, turned_away}
use Rattle.session.specs.WellFormed.{well_formed, weigh_only}
use Rattle.session.proofs.Parts.{Parts}
use Rattle.submission.specs.declared.Report.{Report}
use Rattle.submission.specs.Replay.{Replaying, weigh_replayed, taken_by, skipped_by, replay_row, replayed, replay_done, replay_of}
use Rattle.submission.specs.Submit.{numbered}
use Rattle.submission.specs.Order.{waiting}
use Rattle.session.proofs.Refuse.{passed, refused_or_done}
use Rattle.submission.proofs.Weigh.{fine_fits}
use Rattle.std.specs.Prelude.{Ok, Err}

-- the session that a report tells: depth and number have risen by the records taken, the dropped count by those that found the queue full, held at 2^64 - 1;
-- the deepest depth, the capture and all else stand
abbrev pub told_by : Session → Report → Session
told_by s r =
    let d : Desk = s.desk in
    with_queue s (s.queued + r.taken) (desk_of (d.number + r.taken) d.deepest (min (d.dropped + r.full) (2 ^ 64 - 1)) d.capturing d.captured)

-- after n records the report adds up to n and tells the session
pub record Told (s : Session) (n : ℕ) (z : Replaying) : Type 0 where
  pub adds_up : z.report.taken + z.report.full + z.report.skipped ≡ n
  pub session : z.session ≡ told_by s z.report

module _ (s : Session) (n : ℕ) (z : Replaying) (t : Told s n z) where
  skipped_told : (k : Refusal) → Told s (suc n) (skipped_by z k)
  unfolding turned_away
  skipped_told k =
      let a = t.adds_up in
      let d = s.desk.dropped in
      let f = z.report.full in
      let held : min (min (d + f) (2 ^ 64 - 1) + 1) (2 ^ 64 - 1) ≡ min (d + (f + 1)) (2 ^ 64 - 1) = omega arith in
      ⊎_elim
      (λ (e : eqb (number_of k) 15 ≡ true). record { adds_up = rw e (omega arith); session = rw (t.session, e, held) })
      (λ (e : eqb (number_of k) 15 ≡ false). record { adds_up = rw e (omega arith); session = rw e t.session })
      (two_ways (eqb (number_of k) 15))

  taken_told : (r : QueueRecord) → Told s (suc n) (taken_by z r)
  taken_told r =
      let a = t.adds_up in
      let queued : s.queued + z.report.taken + 1 ≡ s.queued + (z.report.taken + 1) = omega arith in
      let number : s.desk.number + z.report.taken + 1 ≡ s.desk.number + (z.report.taken + 1) = omega arith in
      record { adds_up = omega arith; session = rw (t.session, queued, number) }

-- so it is after any number of the list's records
pub replayed_told : (s : Session) (q list : List ℕ) → s.desk.dropped < 2 ^ 64 → (n : ℕ) → Told s n (replayed s q list n)
unfolding replayed replay_row
replayed_told s q list small zero =
    let queued : s.queued + 0 ≡ s.queued = omega arith in
    let number : s.desk.number + 0 ≡ s.desk.number = omega arith in
    let held : min (s.desk.dropped + 0) (2 ^ 64 - 1) ≡ s.desk.dropped = omega arith in
    record { adds_up = refl; session = rw (queued, number, held) }
replayed_told s q list small (suc n) =
    let z : Replaying = replayed s q list n in
    let t : Told s n z = replayed_told s q list small n in
    refused_or_done (weigh_replayed z.session z.queue (row_at list n)) (skipped_by z) (taken_by z (record_of (row_at list n))) (Told s (suc n))
    (λ k _. skipped_told s n z t k) (λ _. taken_told s n z t (record_of (row_at list n)))

-- a replay of a well formed session goes through the whole list,
pub replay_done_law : (s : Session) (q c list : List ℕ) → well_formed s q c ≡ true → replay_of s q c list ≡ replay_done (replayed s q list (length list / 5))
unfolding replay_of weigh_only first unless
replay_done_law s q c list e = rw e

-- and its report adds up to the records given and tells the session
pub replay_told : (s : Session) (q c list : List ℕ) → well_formed s q c ≡ true → s.desk.dropped < 2 ^ 64
    → (replay_of s q c list ≡ replay_done (replayed s q list (length list / 5))) × Told s (length list / 5) (replayed s q list (length list / 5))
replay_told s q c list e small = (replay_done_law s q c list e, replayed_told s q list small (length list / 5))

module _ (z : Replaying) (x : Row) where
  -- a refused record leaves queue, depth and number
  pub refused_row : (k : Refusal) → weigh_replayed z.session z.queue x ≡ Err k
      → ((replay_row z x).queue ≡ z.queue) × ((replay_row z x).session.queued ≡ z.session.queued) × ((replay_row z x).session.desk.number ≡ z.session.desk.number)
  unfolding replay_row unless turned_away
  refused_row k w = rw w (refl, cond_both (λ (y : Session). y.queued ≡ z.session.queued) (eqb (number_of k) 15) _ _ refl refl, cond_both (λ (y : Session). y.desk.number ≡ z.session.desk.number) (eqb (number_of k) 15) _ _ refl refl)

  -- one that finds the queue full counts one as dropped, held at 2^64 - 1, and one as queue-full
  pub full_row : weigh_replayed z.session z.queue x ≡ Err Refusal.QueueFull
      → ((replay_row z x).session.desk.dropped ≡ min (z.session.desk.dropped + 1) (2 ^ 64 - 1)) × ((replay_row z x).report.full ≡ z.report.full + 1)
  unfolding replay_row unless turned_away
  full_row w = rw w (refl, refl)

  -- one that is taken stands in the queue at its frame, under the next number
  pub taken_row : (c : List ℕ) → Parts z.session z.queue c → weigh_replayed z.session z.queue x ≡ Ok tt
      → waiting (replay_row z x).session (replay_row z x).queue
      ≡ insert_by frame (numbered z.session (record { 0 = x.at }) (read_of x)) (waiting z.session z.queue)
  unfolding replay_row unless weigh_replayed
  taken_row c p w =
      let f = fine_fits z.session z.queue true (read_of x) (passed _ _ _ w).1 in
      let size = p.queue_size in
      let depth = f.depth in
      let n = z.session.queued in
      rw (w, add-one n) (queue_inserted z.queue n (numbered z.session (record { 0 = x.at }) (read_of x)) (omega arith) (typed_read x))

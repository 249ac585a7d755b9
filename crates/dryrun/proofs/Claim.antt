-- What the dry run says is what the full session does. Assumes nothing.
use mathlib.Core.Path.{◌≡◌, refl, sym, ap, ap₂, ◌∙◌}
use mathlib.Core.Logic.{⊎_elim}
use mathlib.Core.Bool.{Bool, true, false, cond}
use mathlib.Core.List.{List, []}
use Prim.Native.Nat.{ℕ, zero, suc, ◌+◌, ◌*◌, ◌/◌, ◌^◌, ◌≤◌}
use native.Mathlib.Nat.{zero-add}
use native.Mathlib.Omega.{arith}
use lib.Dec.{eqb, leb}
use lib.ListN.{length, take}
use lib.Seq.{length-take-le}
use lib.Ieee.{Float}
use borrow.Author.Tests.{leb-true}
use Rattle.std.specs.Prelude.{Result, Ok, Err}
use Rattle.counts.proofs.Truth.{two_ways}
use Rattle.laws.specs.Queue.{Each}
use Rattle.laws.specs.Block.{Ran}
use Rattle.fields.specs.Field.{fields_of}
use Rattle.tourfile.specs.declared.Fault.{Fault}
use Rattle.tourfile.specs.Answer.{TourAnswer}
use Rattle.tourfile.specs.Answer.{fault_number}
use Rattle.tourfile.specs.Reader.{read_of, rows_in, put_rows}
use Rattle.tourfile.proofs.Answers.{done_read, read_filled, length_puts}
use Rattle.timeline.specs.declared.QueueRecord.{QueueRecord}
use Rattle.timeline.proofs.Rows.{row_take}
use Rattle.bank.specs.Sample.{frames_of, is_odd}
use Rattle.leaps.specs.Laps.{Lapped}
use Rattle.session.specs.declared.Session.{Session}
use Rattle.session.specs.WellFormed.{well_formed}
use Rattle.block.specs.Block.{joined}
use Rattle.clips.specs.Own.{clips_of}
use Rattle.clips.proofs.Own.{own_same}
use Rattle.submission.specs.Replay.{Replaying, replay_row, replayed, replay_done, replay_of}
use Rattle.submission.proofs.Reported.{replay_done_law}
use Rattle.cliplist.specs.Words.{entry_at, entries_in, session_in, clips_ok}
use Rattle.cliplist.proofs.Accepted.{made_formed, made_starts}
use Rattle.cliplist.proofs.Same.{has_same}
use Rattle.leaps.specs.declared.Dry.{Dry}
use Rattle.leaps.specs.Dry.{dry_ran}
use Rattle.leaps.specs.Run.{ran_from, run_of, written}
use Rattle.leaps.specs.Equal.{executed_by, Full, Equals}
use Rattle.leaps.proofs.Equal.{dry_run_law}
use Rattle.leaps.proofs.Ready.{run_dry}
use Rattle.dryrun.specs.declared.DryRefusal.{DryRefusal}
use Rattle.dryrun.specs.declared.DryDone.{DryDone}
use Rattle.dryrun.specs.declared.DryError.{DryError}
use Rattle.dryrun.specs.Blocks.{frames_in}
use Rattle.dryrun.specs.Replay.{reasons_into}
use Rattle.dryrun.specs.Call.{Lent, lent, records_ran, refused_at, tour_ran, dry_run_of}
use Rattle.dryrun.specs.Plays.{StartsWith, Reads, Plays, Promised, DryPlays}
use Rattle.dryrun.proofs.Alike.{starts_alike}

-- ---- a tour at the front of the store

-- replaying a tour is replaying what stands at the store's front
front_replayed : (s : Session) (q ws : List ℕ) (m k : ℕ) → k ≤ m → replayed s q (take (m * 5) ws) k ≡ replayed s q ws k
unfolding replayed
front_replayed s q ws m zero l = refl
front_replayed s q ws m (suc k) l = ap₂ replay_row (front_replayed s q ws m k (omega arith)) (row_take ws k (m * 5) (omega arith))

module _ (mode : ℕ) (clips file blocks : List ℕ) (x : Lent) (long : length x.records ≡ 1280) (size : length x.queue ≡ 1280) (ok : clips_ok mode clips ≡ true) where
  abbrev s : Session
  s = session_in mode clips

  formed : well_formed s x.queue [] ≡ true
  formed = made_formed mode clips ok x.queue size

  module _ (n : ℕ) (read : read_of (clips_of s.bank) file 1280 ≡ Ok n) where
    -- the store with the tour at its front
    abbrev words : List ℕ
    words = put_rows x.records 0 (rows_in (clips_of s.bank) (fields_of file))

    abbrev tour : List ℕ
    tour = take (n * 5) words

    few : n ≤ 256
    few = let h = (done_read (clips_of s.bank) file 1280 n read).fits in omega arith

    tour_count : length tour / 5 ≡ n
    tour_count =
        let l = length_puts (rows_in (clips_of s.bank) (fields_of file)) x.records 0 in
        let m = length-take-le (n * 5) words (omega (arith, few, l, long)) in
        omega arith

    abbrev z : Replaying
    z = replayed s x.queue words n

    -- it is replayed
    tour_replayed : replay_of s x.queue [] tour ≡ replay_done z
    tour_replayed =
        replay_done_law s x.queue [] tour formed
        ∙ ap replay_done (ap (replayed s x.queue tour) tour_count ∙ front_replayed s x.queue words n n (omega arith))

    abbrev r : Ran Dry QueueRecord (Unit {0}) Lapped
    r = ran_from z.session.bank z.queue (run_of z.session) (frames_in blocks)

    -- what the dry run gives, and what it leaves
    abbrev done : DryDone
    done = record { commands = n; report = z.report; run = record { dry = r.at.core; queued = length r.at.queue; rows = 0 + length r.told } }

    abbrev left : Lent
    left = lent words (reasons_into x.reasons s x.queue words n) z.queue (written x.sheet 0 r.told)

    module _ (bound : frames_in blocks ≤ 2 ^ 62) (t : Session) (p c : List ℕ) (pool : List Float) (outs : List (List Float)) (full : Full t p c pool)
        (starts : StartsWith mode clips t) (even : Each (λ out. is_odd out ≡ false) outs) (sum : frames_of (joined outs) ≡ frames_in blocks) where
      equals : Equals s x.queue [] t p c pool tour outs
      equals =
          dry_run_law s x.queue [] t p c pool tour outs formed full
          (starts_alike mode (entry_at clips 0) (entries_in clips) s x.queue t p (made_starts mode clips ok) starts (length tour / 5) (omega (arith, tour_count, few)))
          even (omega (arith, starts.clock, sum, bound))

      same_run : dry_ran (replay_of s x.queue [] tour).0.session (replay_of s x.queue [] tour).1 (frames_of (joined outs)) ≡ r
      same_run = rw (tour_replayed, sum) (sym (run_dry z.session z.queue (frames_in blocks)))

      same_told : r.told ≡ executed_by (replay_of t p c tour).0.session (replay_of t p c tour).1 c pool outs
      same_told = ap (λ y. y.told) (sym same_run) ∙ equals.comes.executed

      same_clips : clips_of s.bank ≡ clips_of t.bank
      same_clips = own_same s.bank t.bank (has_same (entries_in clips) s.bank t.bank (made_starts mode clips ok).list.clips starts.list.clips).lives

      reads : Reads file x done left t
      reads =
          let read-own : read_of (clips_of t.bank) file (length x.records) ≡ Ok n = rw (← same_clips, long) read in
          record { commands = read-own; records = rw same_clips (read_filled (clips_of t.bank) file x.records n read-own) }

      plays : Plays x done left (replay_of t p c tour) c pool outs
      plays =
          record {
            report = sym equals.report ∙ ap (λ y. y.0.answer) tour_replayed;
            stands = ap (λ y. y.at.core) (sym same_run) ∙ equals.comes.stands;
            queued = ap (λ y. length y.at.queue) (sym same_run) ∙ equals.comes.queued;
            rows = zero-add (length r.told) ∙ ap (λ y. length y) same_told;
            sheet = ap (written x.sheet 0) same_told;
          }

    -- where the blocks end in time
    records_promised : frames_in blocks ≤ 2 ^ 62 → let y : DryDone × Lent = records_ran s n (frames_in blocks) (lent words x.reasons x.queue x.sheet) in
        Promised mode clips file blocks x (Ok y.0) y.1
    unfolding records_ran
    records_promised bound = λ t p c pool outs full starts even sum. (reads bound t p c pool outs full starts even sum, plays bound t p c pool outs full starts even sum)

  -- ---- what the reader refuses, and 4, change nothing

  tour_promised : (a : TourAnswer) → read_of (clips_of s.bank) file 1280 ≡ a → Promised mode clips file blocks x (tour_ran s file blocks x a).0 (tour_ran s file blocks x a).1
  tour_promised (Err r) e = refl
  tour_promised (Ok n) e = go (leb (frames_in blocks) (2 ^ 62)) refl
    where
      go : (b : Bool) → leb (frames_in blocks) (2 ^ 62) ≡ b
          → let z : DryDone × Lent = records_ran s n (frames_in blocks) (lent (words n e) x.reasons x.queue x.sheet) in
          let y : Result DryDone DryError × Lent = cond b (Ok z.0, z.1) (Err (refused_at DryRefusal.Clock 0), x) in Promised mode clips file blocks x y.0 y.1
      go true h = records_promised n e (leb-true (frames_in blocks) (2 ^ 62) h)
      go false h = refl

-- THE DRY RUN. What it says is what any full session does that starts with the clips.
pub dry_plays : DryPlays
unfolding dry_run_of
dry_plays mode clips file blocks x long size =
    ⊎_elim
    (λ (ok : clips_ok mode clips ≡ true). rw ok (tour_promised mode clips file blocks x long size ok (read_of (clips_of (session_in mode clips).bank) file 1280) refl))
    (λ (no : clips_ok mode clips ≡ false). rw no refl)
    (two_ways (clips_ok mode clips))

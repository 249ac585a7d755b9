-- What each way through a dry run comes to. Assumes nothing.
use mathlib.Core.Path.{◌≡◌, refl, ap}
use mathlib.Core.Bool.{true, false}
use mathlib.Core.List.{List}
use Prim.Native.Nat.{ℕ, ◌^◌, ◌≤◌, ◌<◌}
use borrow.Author.Tests.{le-leb, lt-leb}
use Rattle.std.specs.Prelude.{Ok, Err}
use Rattle.fields.specs.Field.{fields_of}
use Rattle.tourfile.specs.declared.Fault.{Fault}
use Rattle.tourfile.specs.declared.TourError.{TourError}
use Rattle.tourfile.specs.Answer.{TourAnswer}
use Rattle.tourfile.specs.Reader.{read_of, rows_in, put_rows}
use Rattle.session.specs.declared.Session.{Session}
use Rattle.clips.specs.Own.{clips_of}
use Rattle.submission.specs.Replay.{Replaying, replayed}
use Rattle.cliplist.specs.Words.{clips_ok, session_in}
use Rattle.leaps.specs.declared.Run.{Run}
use Rattle.leaps.specs.Run.{ran_from, run_of, run_done}
use Rattle.dryrun.specs.declared.DryRefusal.{DryRefusal}
use Rattle.dryrun.specs.declared.DryDone.{DryDone}
use Rattle.dryrun.specs.Replay.{reasons_into}
use Rattle.dryrun.specs.Blocks.{frames_in}
use Rattle.dryrun.specs.Call.{Lent, lent, records_ran, refused_at, by_reader, tour_ran, dry_run_of}

-- ---- the records

-- the replay, its reasons and the run
pub ran_records : (s : Session) (n frames : ℕ) (x : Lent) (z : Replaying) → z ≡ replayed s x.queue x.records n
    → (k : List ℕ) → k ≡ reasons_into x.reasons s x.queue x.records n
    → (r : Run) (w : List ℕ) → ◌≡◌ {A = Run × List ℕ} (r, w) (run_done (run_of z.session) x.sheet (ran_from z.session.bank z.queue (run_of z.session) frames))
    → ◌≡◌ {A = DryDone × Lent} (record { commands = n; report = z.report; run = r }, lent x.records k z.queue w) (records_ran s n frames x)
unfolding records_ran
ran_records s n frames x z e k f r w g =
    rw (← e, ← f) (ap {B = DryDone × Lent} (λ (y : Run × List ℕ). (record { commands = n; report = z.report; run = y.0 }, lent x.records k z.queue y.1)) g)

-- ---- the tour

module _ (s : Session) (file blocks : List ℕ) (x : Lent) (a : TourAnswer) where
  -- refused by the reader,
  pub tour_refused : (r : TourError) → a ≡ Err r → (Err (by_reader r), x) ≡ tour_ran s file blocks x a
  tour_refused r e = rw e refl

  module _ (n : ℕ) (e : a ≡ Ok n) where
    -- past the clock's end,
    pub tour_late : 2 ^ 62 < frames_in blocks → (Err (refused_at DryRefusal.Clock 0), x) ≡ tour_ran s file blocks x a
    tour_late h = rw (e, lt-leb (frames_in blocks) (2 ^ 62) h) refl

    -- or run
    pub tour_done : frames_in blocks ≤ 2 ^ 62
        → (d : DryDone) (y : Lent) → (d, y) ≡ records_ran s n (frames_in blocks) (lent (put_rows x.records 0 (rows_in (clips_of s.bank) (fields_of file))) x.reasons x.queue x.sheet)
        → (Ok d, y) ≡ tour_ran s file blocks x a
    tour_done h d y g = rw (e, le-leb (frames_in blocks) (2 ^ 62) h) (ap (λ (z : DryDone × Lent). (Ok z.0, z.1)) g)

-- ---- the clips

module _ (mode : ℕ) (clips file blocks : List ℕ) (x : Lent) where
  pub dry_started : clips_ok mode clips ≡ true
      → tour_ran (session_in mode clips) file blocks x (read_of (clips_of (session_in mode clips).bank) file 1280) ≡ dry_run_of mode clips file blocks x
  unfolding dry_run_of
  dry_started h = rw h refl

  pub dry_refused : clips_ok mode clips ≡ false → (Err (refused_at DryRefusal.Clips 0), x) ≡ dry_run_of mode clips file blocks x
  unfolding dry_run_of
  dry_refused h = rw h refl

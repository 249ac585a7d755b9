-- What a dry run promises of the full session. Definitions only.
use Rattle.std.specs.Prelude.{◌≡◌, false, List, ℕ, ◌*◌, length, take, Float, Result, Ok, Err}
use Rattle.laws.specs.Queue.{Each}
use Rattle.tourfile.specs.Reader.{read_of, read_into}
use Rattle.bank.specs.Sample.{frames_of, is_odd}
use Rattle.session.specs.declared.Session.{Session}
use Rattle.block.specs.Block.{blocks_of, joined}
use Rattle.clips.specs.Own.{clips_of}
use Rattle.session.specs.declared.Answered.{Answered}
use Rattle.submission.specs.Replay.{replay_of}
use Rattle.cliplist.specs.Start.{Starts}
use Rattle.cliplist.specs.Words.{entry_at, entries_in}
use Rattle.leaps.specs.Dry.{dry_of}
use Rattle.leaps.specs.Run.{written}
use Rattle.leaps.specs.Equal.{Full, executed_by}
use Rattle.dryrun.specs.declared.DryDone.{DryDone}
use Rattle.dryrun.specs.declared.DryError.{DryError}
use Rattle.dryrun.specs.Blocks.{frames_in}
use Rattle.dryrun.specs.Call.{Lent, dry_run_of}
use Rattle.submission.specs.declared.Report.{Report}

-- a session starts with the clips of a list, in its mode
abbrev pub StartsWith : ℕ → List ℕ → Session → Type 0
StartsWith mode clips t = Starts mode (entry_at clips 0) (entries_in clips) t

-- the records of the tour
abbrev pub tour_of : DryDone → Lent → List ℕ
tour_of d y = take (d.commands * 5) y.records

-- a dry run that was lent x, gave d and left y has read the tour as a session does with its own list of handles
pub record Reads (file : List ℕ) (x : Lent) (d : DryDone) (y : Lent) (t : Session) : Type 0 where
  pub commands : read_of (clips_of t.bank) file (length x.records) ≡ Ok d.commands
  pub records : y.records ≡ read_into (clips_of t.bank) file x.records

-- it has done what a session does that has replayed the tour and makes blocks: the same report; the same clock, song, position, state,
-- loop and laps at their end, with as many commands still queued; and a row of the sheet for each command that they executed
pub record Plays (x : Lent) (d : DryDone) (y : Lent) (z : Answered Report × List ℕ) (c : List ℕ) (pool : List Float) (outs : List (List Float)) : Type 0 where
  pub report : z.0.answer ≡ Ok d.report
  pub stands : d.run.dry ≡ dry_of (blocks_of z.0.session z.1 c pool outs).0.stage
  pub queued : d.run.queued ≡ (blocks_of z.0.session z.1 c pool outs).0.queued
  pub rows : d.run.rows ≡ length (executed_by z.0.session z.1 c pool outs)
  pub sheet : y.sheet ≡ written x.sheet 0 (executed_by z.0.session z.1 c pool outs)

-- done, it holds for every well formed session that starts with the clips and for every list of blocks of those frames, so after each
-- block of it; refused, every store is as it was
abbrev pub Promised : ℕ → List ℕ → List ℕ → List ℕ → Lent → Result DryDone DryError → Lent → Type 0
Promised mode clips file blocks x (Ok d) y =
    (t : Session) (p c : List ℕ) (pool : List Float) (outs : List (List Float))
    → Full t p c pool → StartsWith mode clips t → Each (λ out. is_odd out ≡ false) outs → frames_of (joined outs) ≡ frames_in blocks
    → Reads file x d y t × Plays x d y (replay_of t p c (tour_of d y)) c pool outs
Promised mode clips file blocks x (Err e) y = y ≡ x

-- THE PROMISE
abbrev pub DryPlays : Type 0
DryPlays =
    (mode : ℕ) (clips file blocks : List ℕ) (x : Lent) → length x.records ≡ 1280 → length x.queue ≡ 1280
    → Promised mode clips file blocks x (dry_run_of mode clips file blocks x).0 (dry_run_of mode clips file blocks x).1

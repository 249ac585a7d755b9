-- The dry run of a recorded tour: its answer, and what it leaves in the stores. Definitions only.
use Rattle.std.specs.Prelude.{Result, ℕ, ◌^◌, cond, List, eqb, leb, Option, Ok, Err}
use Rattle.counts.specs.declared.ClockFrame.{ClockFrame}
use Rattle.counts.specs.declared.SongFrame.{SongFrame}
use Rattle.counts.specs.declared.Handle.{Handle}
use Rattle.fields.specs.Field.{fields_of}
use Rattle.tourfile.specs.declared.Fault.{Fault}
use Rattle.tourfile.specs.Answer.{TourAnswer}
use Rattle.tourfile.specs.Answer.{fault_number}
use Rattle.tourfile.specs.Reader.{read_of, rows_in, put_rows}
use Rattle.transport.specs.declared.TransportState.{TransportState}
use Rattle.transport.specs.declared.LoopRange.{LoopRange}
use Rattle.transport.specs.declared.Transport.{Transport}
use Rattle.session.specs.declared.Session.{Session}
use Rattle.session.specs.Refusal.{number_of}
use Rattle.session.specs.declared.Refusal.{Refusal}
use Rattle.clips.specs.Own.{clips_of}
use Rattle.submission.specs.Replay.{Replaying, replayed}
use Rattle.cliplist.specs.Words.{clips_ok, session_in}
use Rattle.leaps.specs.declared.Run.{Run}
use Rattle.leaps.specs.Run.{ran_from, run_of, run_done}
use Rattle.dryrun.specs.declared.DryRefusal.{DryRefusal}
use Rattle.dryrun.specs.declared.DryDone.{DryDone}
use Rattle.dryrun.specs.declared.DryError.{DryError}
use Rattle.tourfile.specs.declared.TourError.{TourError}
use Rattle.dryrun.specs.Blocks.{frames_in}
use Rattle.dryrun.specs.Replay.{reasons_into}

-- its own two have the numbers behind those of a tour's file; the others keep theirs
abbrev pub dry_number : DryRefusal → ℕ
dry_number DryRefusal.Clips = 116
dry_number (DryRefusal.Tour x) = fault_number x
dry_number DryRefusal.Commands = 117
dry_number DryRefusal.Clock = number_of Refusal.ClockSpent

-- what it is lent: the tour's records, why each is skipped, the queue and the sheet
pub record Lent : Type 0 where
  pub records : List ℕ
  pub reasons : List ℕ
  pub queue : List ℕ
  pub sheet : List ℕ

abbrev pub lent : List ℕ → List ℕ → List ℕ → List ℕ → Lent
lent r k q w = record { records = r; reasons = k; queue = q; sheet = w }

-- a session replays n records at clock 0 and goes on for so many frames
unfoldable pub records_ran : Session → ℕ → ℕ → Lent → DryDone × Lent
records_ran s n frames x =
    let z : Replaying = replayed s x.queue x.records n in
    let y : Run × List ℕ = run_done (run_of z.session) x.sheet (ran_from z.session.bank z.queue (run_of z.session) frames) in (
      record { commands = n; report = z.report; run = y.0 },
      lent x.records (reasons_into x.reasons s x.queue x.records n) z.queue y.1,
    )

-- a refusal with its place
abbrev pub refused_at : DryRefusal → ℕ → DryError
refused_at x at = record { refusal = x; place = at }

-- a refusal of the reader; that its list of 256 is too short is more than 256 commands
abbrev pub by_reader : TourError → DryError
by_reader e = cond (eqb (fault_number e.fault) (fault_number Fault.ListTooShort)) (refused_at DryRefusal.Commands 0) (refused_at (DryRefusal.Tour e.fault) e.place)

-- the reader's refusals, more than 256 commands, then 4; a refused one leaves every store
abbrev pub tour_ran : Session → List ℕ → List ℕ → Lent → TourAnswer → Result DryDone DryError × Lent
tour_ran s file blocks x (Err e) = (Err (by_reader e), x)
tour_ran s file blocks x (Ok n) =
    cond (leb (frames_in blocks) (2 ^ 62))
    (let z : DryDone × Lent = records_ran s n (frames_in blocks) (lent (put_rows x.records 0 (rows_in (clips_of s.bank) (fields_of file))) x.reasons x.queue x.sheet) in (Ok z.0, z.1))
    (Err (refused_at DryRefusal.Clock 0), x)

-- first a clip list that no well formed session could have; clip byte as slot: the session reads the tour with its own list of handles
unfoldable pub dry_run_of : ℕ → List ℕ → List ℕ → List ℕ → Lent → Result DryDone DryError × Lent
dry_run_of mode clips file blocks x =
    let s : Session = session_in mode clips in
    cond (clips_ok mode clips) (tour_ran s file blocks x (read_of (clips_of s.bank) file 1280)) (Err (refused_at DryRefusal.Clips 0), x)

-- an answer in numbers: commands, taken, executed and still queued, and where the playhead is; or the refusal's number and its place
pub data SaysDry : Type 0 where
  came : ℕ → ℕ → ℕ → ℕ → ClockFrame → Handle → TransportState → SongFrame → Option LoopRange → ℕ → SaysDry
  refuses : ℕ → ℕ → SaysDry

abbrev pub says_dry : Result DryDone DryError → SaysDry
says_dry (Ok d) =
    let t : Transport = d.run.dry.playhead.transport in
    came d.commands d.report.taken d.run.rows d.run.queued d.run.dry.clock d.run.dry.playhead.song t.state t.position t.looped t.laps
says_dry (Err e) = refuses (dry_number e.refusal) e.place

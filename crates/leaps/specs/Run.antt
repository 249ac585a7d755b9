-- The dry run's loop, which leaps from command to command, and its sheet. Definitions only.
use Rattle.std.specs.Prelude.{ℕ, ◌+◌, ◌-◌, ◌*◌, ◌^◌, ◌≤◌, ◌<◌, ◌≡◌, true, List, [], ◌∷◌, length}
use Rattle.laws.specs.Block.{Ran, stand, block}
use Rattle.counts.specs.declared.Handle.{Handle}
use Rattle.timeline.specs.declared.QueueRecord.{QueueRecord}
use Rattle.timeline.specs.Command.{gain_ok}
use Rattle.timeline.specs.Record.{row, row_of, record_of, readable, read_of}
use Rattle.timeline.specs.Store.{row_at, put_row}
use Rattle.timeline.specs.Queue.{queue}
use Rattle.transport.specs.Transport.{transport_fits}
use Rattle.transport.specs.Leap.{leap_of, Leapable}
use Rattle.bank.specs.declared.Bank.{Bank}
use Rattle.stage.specs.Playhead.{playhead}
use Rattle.session.specs.declared.Session.{Session}
use Rattle.leaps.specs.declared.Dry.{Dry}
use Rattle.leaps.specs.declared.Run.{Run}
use Rattle.leaps.specs.Laps.{Lapped, lapped_of}
use Rattle.leaps.specs.Dry.{Lengths, lengths_in, dry_at, dry_of, dry_exec, dry_machine}

-- ---- the sheet: ten words a row

-- row i: the command's five words, then the clock, the position before and after, the laps before and after
abbrev pub put_told : List ℕ → ℕ → Lapped → List ℕ
put_told ws i t =
    put_row (put_row ws (i * 2) (row_of t.told.command)) (i * 2 + 1) (row t.told.clock.0 t.told.before.0 t.told.after.0 t.laps_before t.laps_after)

-- what many commands tell, from row k on
unfoldable pub written : List ℕ → ℕ → List Lapped → List ℕ
written ws k [] = ws
written ws k (t ∷ l) = written (put_told ws k t) (k + 1) l

-- ---- the steps

-- n frames at once
unfoldable pub dry_leap : Lengths → ℕ → Dry → Dry
dry_leap long n s = dry_at (s.clock.0 + n) (playhead (leap_of (long s.playhead.song) n s.playhead.transport) s.playhead.song)

-- the first of n queued commands
abbrev pub first_of : List ℕ → ℕ → QueueRecord
first_of q n = record_of (row_at q (n - 1))

-- it is executed, leaves the queue and goes onto the sheet
abbrev pub first_run : Bank → List ℕ → Run → Run
first_run b q r = record { dry = dry_exec (lengths_in b) (first_of q r.queued) r.dry; queued = r.queued - 1; rows = r.rows + 1 }

-- what it tells
abbrev pub first_told : Bank → List ℕ → Run → Lapped
first_told b q r = lapped_of r.dry.clock (lengths_in b r.dry.playhead.song) (first_of q r.queued) r.dry.playhead

-- so many frames at once, and the queue and the sheet as they were
abbrev pub leap_run : Bank → ℕ → Run → Run
leap_run b n r = record { dry = dry_leap (lengths_in b) n r.dry; queued = r.queued; rows = r.rows }

-- the first queued command can be read, executed and told
pub record Executable (r : Run) (q : List ℕ) (space : ℕ) : Type 0 where
  pub some : 0 < r.queued
  pub lies : r.queued * 5 ≤ length q
  pub reads : readable (row_at q (r.queued - 1)) ≡ true
  pub gain : gain_ok (read_of (row_at q (r.queued - 1))) ≡ true
  pub room : r.rows * 10 + 10 ≤ space

-- so many frames can be made at once
pub record Stretchable (r : Run) (b : Bank) (n : ℕ) : Type 0 where
  pub leaps : Leapable (lengths_in b r.dry.playhead.song) n r.dry.playhead.transport
  pub clock : r.dry.clock.0 + n ≤ 2 ^ 62

-- ---- the run

-- n frames of a run over a bank's songs
unfoldable pub ran_from : Bank → List ℕ → Run → ℕ → Ran Dry QueueRecord (Unit {0}) Lapped
ran_from b q r n = block (dry_machine (lengths_in b)) n (stand r.dry (queue q r.queued))

-- a run that starts where a session stands, on an empty sheet
abbrev pub run_of : Session → Run
run_of s = record { dry = dry_of s.stage; queued = s.queued; rows = 0 }

-- where the run comes to, and its sheet
abbrev pub run_done : Run → List ℕ → Ran Dry QueueRecord (Unit {0}) Lapped → Run × List ℕ
run_done r sheet x = (
  record { dry = x.at.core; queued = length x.at.queue; rows = r.rows + length x.told },
  written sheet r.rows x.told,
)

-- a run can go on for n frames: its songs are not too long, its transport fits and has no cursor, the clock stays in its range, its records can be read,
-- and its sheet has room for them
pub record Runnable (b : Bank) (q : List ℕ) (r : Run) (n space : ℕ) : Type 0 where
  pub short : (h : Handle) → lengths_in b h ≤ 2 ^ 40
  pub fits : transport_fits (lengths_in b r.dry.playhead.song) r.dry.playhead.transport ≡ true
  pub blind : r.dry.playhead.transport.cursor.0 ≡ 0
  pub clock : r.dry.clock.0 + n ≤ 2 ^ 62
  pub lies : r.queued * 5 ≤ length q
  pub reads : (j : ℕ) → j < r.queued → readable (row_at q j) ≡ true
  pub gains : (j : ℕ) → j < r.queued → gain_ok (read_of (row_at q j)) ≡ true
  pub room : (r.rows + r.queued) * 10 ≤ space

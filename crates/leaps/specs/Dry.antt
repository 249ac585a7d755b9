-- The dry run as a machine beside the stage: clock and playhead alone, its cursor forgotten. Definitions only.
use Rattle.std.specs.Prelude.{ℕ, ◌+◌, false, List, map}
use Rattle.laws.specs.Block.{Machine, Ran, stand, ran, block}
use Rattle.counts.specs.declared.Handle.{Handle}
use Rattle.timeline.specs.declared.QueueRecord.{QueueRecord}
use Rattle.timeline.specs.Queue.{queue}
use Rattle.transport.specs.Transport.{step_of}
use Rattle.transport.specs.Leap.{blindly}
use Rattle.bank.specs.declared.Bank.{Bank}
use Rattle.bank.specs.Slots.{clip_of, extent_of}
use Rattle.stage.specs.declared.Playhead.{Playhead}
use Rattle.stage.specs.declared.Stage.{Stage}
use Rattle.stage.specs.Playhead.{playhead, playhead_by}
use Rattle.stage.specs.Machine.{FrameMade}
use Rattle.session.specs.declared.Session.{Session}
use Rattle.leaps.specs.declared.Dry.{Dry}
use Rattle.leaps.specs.Laps.{Lapped, lapped_of}

-- the playhead without its cursor
abbrev pub blind : Playhead → Playhead
blind p = playhead (blindly p.transport) p.song

-- a clock and a playhead
abbrev pub dry_at : ℕ → Playhead → Dry
dry_at t p = record { clock = record { 0 = t }; playhead = p }

-- what of a stage a dry run keeps
abbrev pub dry_of : Stage → Dry
dry_of s = dry_at s.clock.0 (blind s.playhead)

-- how long the song of a handle is
abbrev pub Lengths : Type 0
Lengths = Handle → ℕ

-- one frame: rules a and b, and the clock; no sample is looked at, so the song's frames are not asked for
unfoldable pub dry_next : Lengths → Dry → Dry
dry_next long s = dry_at (s.clock.0 + 1) (blind (playhead (step_of false 0 (long s.playhead.song) s.playhead.transport).transport s.playhead.song))

-- one command
unfoldable pub dry_exec : Lengths → QueueRecord → Dry → Dry
dry_exec long d s = dry_at s.clock.0 (blind (playhead_by (long s.playhead.song) d.command s.playhead))

-- a frame makes nothing, an executed command tells what it tells in the session, with the laps before and after it
abbrev pub dry_machine : Lengths → Machine Dry QueueRecord (Unit {0}) Lapped
dry_machine long =
    record {
      clock = λ s. s.clock.0;
      when = λ d. d.at.0;
      exec = dry_exec long;
      tells = λ d s. lapped_of s.clock (long s.playhead.song) d s.playhead;
      next = dry_next long;
      makes = λ s. tt;
    }

-- the lengths of a bank's songs
abbrev pub lengths_in : Bank → Lengths
lengths_in b h = extent_of (clip_of b h).kind

-- a dry run of n frames of a session with its queue
unfoldable pub dry_ran : Session → List ℕ → ℕ → Ran Dry QueueRecord (Unit {0}) Lapped
dry_ran s q n = block (dry_machine (lengths_in s.bank)) n (stand (dry_of s.stage) (queue q s.queued))

-- what a dry run keeps of what the stage did: where it came to, what is still queued, and what the commands told
abbrev pub dried : Ran Stage QueueRecord FrameMade Lapped → Ran Dry QueueRecord (Unit {0}) Lapped
dried r = ran (stand (dry_of r.at.core) r.at.queue) (map (λ a. tt) r.made) r.told

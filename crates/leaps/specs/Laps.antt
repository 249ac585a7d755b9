-- What the session's commands tell with the laps before and after them, which the session itself does not tell. Definitions only.
use Rattle.std.specs.Prelude.{◌≡◌, ℕ, List, map, Float}
use Rattle.laws.specs.Block.{Machine, Ran, stand, ran, block}
use Rattle.counts.specs.declared.ClockFrame.{ClockFrame}
use Rattle.timeline.specs.declared.QueueRecord.{QueueRecord}
use Rattle.timeline.specs.Queue.{queue}
use Rattle.bank.specs.Recording.{View, view_of}
use Rattle.stage.specs.declared.Settings.{Settings}
use Rattle.stage.specs.declared.Playhead.{Playhead}
use Rattle.stage.specs.declared.Stage.{Stage}
use Rattle.stage.specs.Playhead.{playhead_by}
use Rattle.stage.specs.Machine.{Told, FrameMade, told_of, machine_of}
use Rattle.session.specs.declared.Session.{Session}
use Rattle.block.specs.Block.{ran_of}

-- what an executed command tells in the session, and the laps before and after it
pub record Lapped : Type 0 where
  pub told : Told
  pub laps_before : ℕ
  pub laps_after : ℕ

-- it looks at the playhead alone
abbrev pub lapped_of : ClockFrame → ℕ → QueueRecord → Playhead → Lapped
lapped_of clock extent d p =
    record { told = told_of clock extent d p; laps_before = p.transport.laps; laps_after = (playhead_by extent d.command p).transport.laps }

-- the stage's machine; its commands tell the laps too
abbrev pub lapped_machine : Settings → View → Machine Stage QueueRecord FrameMade Lapped
lapped_machine x view =
    record {
      clock = (machine_of x view).clock;
      when = (machine_of x view).when;
      exec = (machine_of x view).exec;
      tells = λ d s. lapped_of s.clock (view s.playhead.song).extent d s.playhead;
      next = (machine_of x view).next;
      makes = (machine_of x view).makes;
    }

-- n frames of a session's stage, over the bank's clips in the pool and the queue's records
unfoldable pub lapped_ran : Session → List ℕ → List Float → ℕ → Ran Stage QueueRecord FrameMade Lapped
lapped_ran s q pool n = block (lapped_machine s.settings (view_of pool s.bank)) n (stand s.stage (queue q s.queued))

-- the laps forgotten
abbrev pub unlapped : Ran Stage QueueRecord FrameMade Lapped → Ran Stage QueueRecord FrameMade Told
unlapped r = ran r.at r.made (map (λ (l : Lapped). l.told) r.told)

-- WITHOUT ITS LAPS it is the session's own block: the same state and queue, the same frames made, and the same told
abbrev pub SameButLaps : Type 0
SameButLaps = (s : Session) (q : List ℕ) (pool : List Float) (n : ℕ) → unlapped (lapped_ran s q pool n) ≡ ran_of s q pool n

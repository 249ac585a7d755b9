-- Frames of a stage. Definitions only.
use Rattle.std.specs.Prelude.{ℕ, ◌+◌, ◌*◌, ◌≤◌, ◌<◌, ◌^◌, ◌≡◌, true, List, [], length, Float}
use Rattle.laws.specs.Block.{Ran, stand, run}
use Rattle.timeline.specs.declared.QueueRecord.{QueueRecord}
use Rattle.transport.specs.Transport.{transport_fits}
use Rattle.bank.specs.declared.Bank.{Bank}
use Rattle.bank.specs.Slots.{clip_of, extent_of}
use Rattle.bank.specs.Recording.{View}
use Rattle.stage.specs.declared.Settings.{Settings}
use Rattle.stage.specs.declared.Stage.{Stage}
use Rattle.stage.specs.Ready.{FrameReady}
use Rattle.stage.specs.Machine.{Told, FrameMade, machine_of}

-- n frames of a stage, one by one
unfoldable pub stretch_of : Settings → View → ℕ → Stage → Ran Stage QueueRecord FrameMade Told
stretch_of x view n s = run (machine_of x view) n (stand s [])

-- at most so many can be made, into an output of so many samples
pub record FramesReady (pool : List Float) (b : Bank) (most out : ℕ) (s : Stage) : Type 0 where
  pub ready : FrameReady (length pool) b s
  pub fits : transport_fits (extent_of (clip_of b s.playhead.song).kind) s.playhead.transport ≡ true
  pub some : 0 < most
  pub room : most * 2 ≤ out
  pub clock : s.clock.0 + most < 2 ^ 64

-- What a frame and a command ask of a stage; a well formed session has it. Definitions only.
use Rattle.std.specs.Prelude.{ℕ, ◌+◌, ◌<◌, ◌^◌, ◌≡◌, true, Option, Some, None}
use Rattle.timeline.specs.declared.Command.{Command}
use Rattle.timeline.specs.Command.{claim_of, takes_voice}
use Rattle.transport.specs.Transport.{loop_fits}
use Rattle.bank.specs.declared.Bank.{Bank}
use Rattle.bank.specs.Slots.{clip_of, extent_of}
use Rattle.oneshot.specs.Sounding.{LiesIn, Ready}
use Rattle.stage.specs.declared.Tail.{Tail}
use Rattle.stage.specs.declared.Sound.{Sound}
use Rattle.stage.specs.declared.Counters.{Counters}
use Rattle.stage.specs.declared.Stage.{Stage}

-- the tail's clip lies in a pool of n samples
abbrev pub Fades : ℕ → Bank → Option Tail → Type 0
Fades n b None = Unit {0}
Fades n b (Some t) = (t.song.slot < 32) × LiesIn n (clip_of b t.song)

-- tail and voices can sound
pub record Sounding (n : ℕ) (b : Bank) (s : Sound) : Type 0 where
  pub tail : Fades n b s.fade.tail
  pub voices : Ready n b s.voices

-- a frame can be made
pub record FrameReady (n : ℕ) (b : Bank) (s : Stage) : Type 0 where
  pub slot : s.playhead.song.slot < 32
  pub song : LiesIn n (clip_of b s.playhead.song)
  pub looped : loop_fits (extent_of (clip_of b s.playhead.song).kind) s.playhead.transport.looped ≡ true
  pub sound : Sounding n b s.sound
  pub clock : s.clock.0 + 1 < 2 ^ 64

-- one command more can be counted
pub record Countable (k : Counters) : Type 0 where
  pub executed : k.executed + 1 < 2 ^ 64
  pub swaps : k.swaps + 1 < 2 ^ 64
  pub fired : k.fired + 1 < 2 ^ 64

-- a command can be executed
pub record ExecReady (c : Command) (s : Stage) : Type 0 where
  pub counters : Countable s.counters
  pub voice : takes_voice (claim_of c) ≡ true → s.sound.voices.count < 16

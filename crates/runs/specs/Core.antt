-- The core of a stage: the song, the master and the tail, frame by frame over sums of voices. Definitions only.
use Rattle.std.specs.Prelude.{ℕ, zero, suc, ◌+◌, ◌/◌, ◌%◌, ◌≡◌, true, cond, eqb, Float}
use Rattle.std.specs.Float.{binary32}
use Rattle.std.specs.Float.Ieee.{add}
use Rattle.ramp.specs.declared.Ticked.{Ticked}
use Rattle.ramp.specs.Ramp.{tick_of}
use Rattle.transport.specs.Transport.{transport_fits}
use Rattle.bank.specs.declared.Clip.{Clip}
use Rattle.bank.specs.Slots.{extent_of}
use Rattle.bank.specs.Recording.{Recording}
use Rattle.oneshot.specs.declared.Pair.{Pair}
use Rattle.oneshot.specs.Pair.{plus, times}
use Rattle.oneshot.specs.Sounding.{LiesIn}
use Rattle.stage.specs.declared.Settings.{Settings}
use Rattle.stage.specs.declared.Stage.{Stage}
use Rattle.stage.specs.Playhead.{moved_of}
use Rattle.stage.specs.Sound.{only, played_of, with_tail, tail_on}
use Rattle.runs.specs.declared.Core.{Core}
use Rattle.runs.specs.declared.Made.{Made}

-- a stage's
abbrev pub core_of : Stage → Core
core_of s = record { playhead = s.playhead; master = s.sound.master; fade = s.sound.fade }

-- the side of a frame that stands at place k
abbrev pub side : ℕ → Pair → Float
side k p = cond (eqb (k % 2) 0) p.left p.right

-- where the song sounds as s, and the tail as t
module _ (x : Settings) (s t : Recording) where
  -- a frame on
  unfoldable pub core_on : Core → Core
  core_on c =
      record {
        playhead = (moved_of x s.frames s.extent c.playhead).playhead;
        master = (tick_of c.master).ramp;
        fade = record { tail = tail_on (only t) c.fade.tail };
      }

  -- what a frame gives before the stinger sum: song × g, plus the tail's share
  unfoldable pub core_gives : Core → Pair
  core_gives c =
      let g : Ticked = tick_of c.master in
      with_tail x (only t) g.value c.fade.tail (times (played_of s (moved_of x s.frames s.extent c.playhead)) g.value)

  -- how many times the playhead passes from the loop's end to its start in a frame
  abbrev pub core_passes : Core → ℕ
  core_passes c = (moved_of x s.frames s.extent c.playhead).passes

  -- one frame over a sum
  abbrev pub core_made : Core → Pair → Made
  core_made c sum = record { core = core_on c; out = plus (core_gives c) sum; passes = core_passes c }

  -- after n frames
  unfoldable pub core_after : ℕ → Core → Core
  core_after zero c = c
  core_after (suc n) c = core_on (core_after n c)

  -- the passes of n frames
  unfoldable pub passes_in : ℕ → Core → ℕ
  passes_in zero c = 0
  passes_in (suc n) c = passes_in n c + core_passes (core_after n c)

  -- as a rule of a sweep: what the place's frame gives there, plus the sum that stands there
  abbrev pub core_adds : Core → ℕ → Float → Float
  core_adds c k sum = add binary32 (side k (core_gives (core_after (k / 2) c))) sum

-- the song's clip x and the tail's y lie in a pool of n samples, and the transport fits the song
pub record CoreReady (n : ℕ) (x y : Clip) (c : Core) : Type 0 where
  pub song : LiesIn n x
  pub tail : LiesIn n y
  pub fits : transport_fits (extent_of x.kind) c.playhead.transport ≡ true

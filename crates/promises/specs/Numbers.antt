-- The rules' worked numbers, as one statement about the definitions. Definitions only.
use Rattle.std.specs.Prelude.{◌≡◌, true, false, List, [], ◌∷◌, ℕ, ◌*◌, negsuc, replicate, Float, Option, Some, None}
use Rattle.std.specs.Float.{fin}
use Rattle.counts.specs.declared.ClockFrame.{ClockFrame}
use Rattle.counts.specs.declared.SongFrame.{SongFrame}
use Rattle.ramp.specs.Number.{zero32}
use Rattle.ramp.specs.Ramp.{tween_of, declick_of}
use Rattle.timeline.specs.declared.Submission.{Submission}
use Rattle.transport.specs.declared.At.{At}
use Rattle.transport.specs.declared.LoopRange.{LoopRange}
use Rattle.transport.specs.declared.Transport.{Transport}
use Rattle.transport.specs.declared.TransportState.{TransportState}
use Rattle.transport.specs.Transport.{transport, wrap_of}
use Rattle.transport.specs.Deadline.{deadline_of}
use Rattle.promises.specs.Calls.{State, submit, block, opened, refusal, after, out_of}

-- a clock frame
abbrev pub clock : ℕ → ClockFrame
clock n = record { 0 = n }

-- a song frame
abbrev pub frame : ℕ → SongFrame
frame n = record { 0 = n }

-- 0.5
abbrev pub half : Float
half = fin false 1 (negsuc 0)

-- -0.5
abbrev pub minus_half : Float
minus_half = fin true 1 (negsuc 0)

-- 0.25
abbrev pub quarter : Float
quarter = fin false 1 (negsuc 1)

-- ---- declick: 44,100 gives 88; 44,250 gives 89; 48,000 gives 96

abbrev pub Declick : Type 0
Declick = (declick_of 44100 ≡ tween_of 88) × (declick_of 44250 ≡ tween_of 89) × (declick_of 48000 ≡ tween_of 96)

-- ---- clock 500, position 100: song frame 130 gives 530; 90 gives 500; 90 with loop 80..120 gives 530; 79 with it gives 500. At position 120, 90 gives 500

-- the clock frame of song frame t, at clock 500 and position p
abbrev pub due_of : ℕ → Option LoopRange → ℕ → ClockFrame
due_of p l t = deadline_of (clock 500) (transport TransportState.Playing p p l 0) (At.Song (frame t))

-- loop 80..120
abbrev pub looped : Option LoopRange
looped = Some (record { start = (frame 80); end = (frame 120) })

-- the five
abbrev pub Deadlines : Type 0
Deadlines =
    (due_of 100 None 130 ≡ clock 530)
    × (due_of 100 None 90 ≡ clock 500)
    × (due_of 100 looped 90 ≡ clock 530)
    × (due_of 100 looped 79 ≡ clock 500)
    × (due_of 120 looped 90 ≡ clock 500)

-- ---- loop 10..14: position 27 goes to 11, cursor 10 as tono and 11 in house mode; position 14 goes to 10

-- Playing in that loop, at position p and cursor c
abbrev pub in_loop : ℕ → ℕ → Transport
in_loop p c = transport TransportState.Playing p c (Some (record { start = (frame 10); end = (frame 14) })) 0

-- rule a, as tono and in house mode
abbrev pub Wraps : Type 0
Wraps =
    (wrap_of false (in_loop 27 27) ≡ in_loop 11 10)
    × (wrap_of true (in_loop 27 27) ≡ in_loop 11 11)
    × (wrap_of false (in_loop 14 14) ≡ in_loop 10 10)
    × (wrap_of true (in_loop 14 14) ≡ in_loop 10 10)

-- ---- two commands at 8, clock 0: a block of 8 executes one, of 0 none, then of 1 the other first. A block of 9 executes both

-- opened at 48,000 with room for two commands, no capture, and the song (0.5, -0.5), (0.25, 0.25) of length 2
abbrev pub start : State
start =
    (opened
    (record {
      settings = record { rate = 48000; mode = 0; queue = 2; capture = 0; pool = 2 };
      queue = replicate 10 0;
      capture = [];
      pool = replicate 4 zero32;
      samples = half ∷ minus_half ∷ quarter ∷ quarter ∷ [];
      rate = 48000;
      extent = frame 2;
    })
    ).1

-- a submission for the clock frame t
abbrev pub submitted_at : ℕ → Submission → State → State
submitted_at t y x = after (submit y (At.Frame (clock t))) x

-- what is lent to a block of n frames
abbrev pub lent : ℕ → List Float
lent n = replicate (n * 2) zero32

-- the state after such a block
abbrev pub after_block : ℕ → State → State
after_block n x = after (block (lent n)) x

-- how many commands have been executed
abbrev pub executed : State → ℕ
executed x = x.session.stage.counters.executed

-- where the song stands
abbrev pub transport_of : State → Transport
transport_of x = x.session.stage.playhead.transport

-- Play and then Pause, both at 8
abbrev pub both : State
both = submitted_at 8 Submission.Pause (submitted_at 8 Submission.Play start)

-- a block of 8, and one of 0
abbrev pub so_far : State
so_far = after_block 0 (after_block 8 both)

-- none of the blocks is refused; in the block of 1 the Pause comes before its frame, so the song stands where it stood
abbrev pub TwoCommands : Type 0
TwoCommands =
    (executed (after_block 8 both) ≡ 1)
    × (refusal (block (lent 0)) (after_block 8 both) ≡ 0)
    × (executed so_far ≡ 1)
    × (executed (after_block 1 so_far) ≡ 2)
    × (transport_of (after_block 1 so_far) ≡ transport TransportState.Paused 0 0 None 0)
    × (executed (after_block 9 both) ≡ 2)

-- ---- song (0.5, -0.5), (0.25, 0.25), length 2, Play at 0, block of 4: those pairs, four zeros; position 2, Stopped

-- Play at 0
abbrev pub playing : State
playing = submitted_at 0 Submission.Play start

-- the whole song, and where it ends
abbrev pub WholeSong : Type 0
WholeSong =
    (out_of playing (lent 4) ≡ half ∷ minus_half ∷ quarter ∷ quarter ∷ zero32 ∷ zero32 ∷ zero32 ∷ zero32 ∷ [])
    × ((transport_of (after_block 4 playing)).position ≡ frame 2)
    × ((transport_of (after_block 4 playing)).state ≡ TransportState.Stopped)

-- ---- Gain 0 at rest: first frame 255/256, so 0.5 sounds as 0.498046875

-- Play and Gain 0, both at 0
abbrev pub muting : State
muting = submitted_at 0 (Submission.Gain zero32) playing

-- the master after that frame, and the frame: 0.498046875 is 255/512
abbrev pub FirstOfGain : Type 0
FirstOfGain =
    ((after_block 1 muting).session.stage.sound.master.value ≡ fin false 255 (negsuc 7))
    × (out_of muting (lent 1) ≡ fin false 255 (negsuc 8) ∷ fin true 255 (negsuc 8) ∷ [])

-- ---- the list, as one statement

pub record Numbers : Type 0 where
  pub declick : Declick
  pub deadlines : Deadlines
  pub wraps : Wraps
  pub commands : TwoCommands
  pub song : WholeSong
  pub gain : FirstOfGain

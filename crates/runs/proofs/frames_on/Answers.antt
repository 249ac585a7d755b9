-- `runs::frames_on` meets its contract. Assumes nothing.
use mathlib.Core.Path.{◌≡◌}
use Prim.Native.Nat.{ℕ}
use native.Mathlib.Omega.{arith}
use lib.ListN.{length, get_or}
use mathlib.Core.List.{List}
use lib.Ieee.{Float}
use Rattle.bank.specs.declared.Bank.{Bank}
use Rattle.stage.specs.declared.Stage.{Stage}
use Rattle.runs.specs.Frames.{FramesReady}
use Rattle.bank.specs.declared.Kind.{Kind}
use Rattle.bank.specs.declared.Clip.{Clip}
use Rattle.bank.specs.Slots.{clip_of}
use Rattle.bank.specs.Recording.{recording_of, view_of}
use Rattle.runs.specs.Core.{CoreReady, core_of}
use Rattle.runs.specs.Run.{slot_of}
use Rattle.runs.proofs.Frames.{Tails, stage_at}
use Rattle.runs.proofs.Runs.{run_stage, run_output, run_passes, silent_stage, silent_output, silent_passes, frame_stage, frame_output, frame_passes}
use Rattle.runs.proofs.Clips.{clip_at_law, tail_lies, tail_sounds}
use Rattle.runs.proofs.frames_on.Goals as goal

abbrev past_clip : Clip
past_clip = record { serial = 0; kind = Kind.Song (record { 0 = 0 }); start = 0; frames = 0; rate = 0 }

abbrev song_in : Bank → Stage → Clip
song_in b s = get_or b.clips s.playhead.song.slot past_clip

abbrev tail_in : Bank → Stage → Clip
tail_in b s = get_or b.clips (slot_of s.sound.fade.tail s.playhead.song) past_clip

-- of a stage that is ready, over a bank of 32 slots
module _ (pool : List Float) (b : Bank) (most out : ℕ) (s : Stage) (r : FramesReady pool b most out s) (l : length b.clips ≡ 32) where
  song : clip_of b s.playhead.song ≡ song_in b s
  song = clip_at_law pool b l past_clip s.playhead.song r.ready.slot

  tails : Tails (view_of pool b) (recording_of pool (tail_in b s)) s.sound.fade.tail
  tails = tail_sounds pool b l past_clip s.playhead.song r.ready.slot s.sound.fade.tail r.ready.sound.tail

  ready : CoreReady (length pool) (song_in b s) (tail_in b s) (core_of s)
  ready =
      record {
        song = rw (← song) r.ready.song;
        tail = tail_lies pool b l past_clip s.playhead.song r.ready.slot s.sound.fade.tail r.ready.sound.tail r.ready.song;
        fits = rw (← song) r.fits;
      }

pub returns-then-voices-eq0 : goal.returns-then-voices-eq0
unfolding stage_at view_of
returns-then-voices-eq0 c =
    let o = c.over_frames-gone.ensures in
    let k = c.tail_slot.ensures in
    let z = c.if-voices-eq0.true in
    let view = view_of c.args.pool.now c.args.bank in
    let t = recording_of c.args.pool.now (tail_in c.args.bank c.args.stage) in (
      c.requires.some,
      omega arith,
      rw (o.0, k, ← song c.args.pool.now c.args.bank c.args.most (length c.args.out.now) c.args.stage c.requires (omega arith)) (silent_stage c.args.settings view t c.args.stage c.args.most (tails c.args.pool.now c.args.bank c.args.most (length c.args.out.now) c.args.stage c.requires (omega arith)) z),
      rw (o.1, c.clear.ensures, k, ← song c.args.pool.now c.args.bank c.args.most (length c.args.out.now) c.args.stage c.requires (omega arith)) (silent_output c.args.settings view t c.args.stage c.args.most (tails c.args.pool.now c.args.bank c.args.most (length c.args.out.now) c.args.stage c.requires (omega arith)) z c.args.out.now c.requires.room),
      rw (o.0, k, ← song c.args.pool.now c.args.bank c.args.most (length c.args.out.now) c.args.stage c.requires (omega arith)) (silent_passes c.args.settings view t c.args.stage c.args.most (tails c.args.pool.now c.args.bank c.args.most (length c.args.out.now) c.args.stage c.requires (omega arith)) z),
    )

pub returns-then-ahead-eq0 : goal.returns-then-ahead-eq0
returns-then-ahead-eq0 c =
    let f = c.frame-made.ensures in
    let view = view_of c.args.pool.now c.args.bank in (
      omega arith,
      omega (arith, c.requires.some),
      rw f (frame_stage c.args.settings view c.args.stage),
      rw f (frame_output c.args.settings view c.args.stage c.args.out.now (omega (arith, c.requires.some, c.requires.room))),
      rw f (frame_passes c.args.settings view c.args.stage),
    )

pub returns : goal.returns
unfolding stage_at view_of
returns c =
    let a = c.voices_ahead-ahead.ensures in
    let m = c.mix_on-voices.ensures in
    let o = c.over_frames-gone-2.ensures in
    let k = c.tail_slot.ensures in
    let view = view_of c.args.pool.now c.args.bank in
    let t = recording_of c.args.pool.now (tail_in c.args.bank c.args.stage) in (
      omega (arith, c.if-ahead-eq0.false),
      a.0,
      rw (o.0, m.0, k, ← song c.args.pool.now c.args.bank c.args.most (length c.args.out.now) c.args.stage c.requires (omega arith)) (run_stage c.args.settings view t c.args.stage _ (tails c.args.pool.now c.args.bank c.args.most (length c.args.out.now) c.args.stage c.requires (omega arith)) a.1 (omega (arith, c.requires.ready.sound.voices.few))),
      rw (o.1, m.1, k, ← song c.args.pool.now c.args.bank c.args.most (length c.args.out.now) c.args.stage c.requires (omega arith)) (run_output c.args.settings view t c.args.stage _ (tails c.args.pool.now c.args.bank c.args.most (length c.args.out.now) c.args.stage c.requires (omega arith)) a.1 (omega (arith, c.requires.ready.sound.voices.few)) c.args.out.now (omega (arith, a.0, c.requires.room))),
      rw (o.0, k, ← song c.args.pool.now c.args.bank c.args.most (length c.args.out.now) c.args.stage c.requires (omega arith)) (run_passes c.args.settings view t c.args.stage _ (tails c.args.pool.now c.args.bank c.args.most (length c.args.out.now) c.args.stage c.requires (omega arith)) a.1 (omega (arith, c.requires.ready.sound.voices.few))),
    )

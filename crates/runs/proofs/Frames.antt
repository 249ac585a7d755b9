-- A frame of a stage in which no voice ends: a frame of its core over the stinger sum. Assumes nothing.
use mathlib.Core.Path.{◌≡◌, refl}
use mathlib.Core.List.{List, [], ◌∷◌, map}
use Prim.Native.Nat.{ℕ, zero, suc, ◌+◌, ◌*◌, ◌≤◌}
use native.Mathlib.Nat.{add-zero}
use native.Mathlib.Numerals.{add-one}
use native.Mathlib.Omega.{arith}
use lib.ListN.{length, take-append-drop}
use lib.Ieee.{Float}
use Rattle.std.specs.Prelude.{Option, Some, None}
use Rattle.ramp.specs.Number.{zero32}
use Rattle.bank.specs.Recording.{Recording, View}
use Rattle.oneshot.specs.declared.Pair.{Pair}
use Rattle.oneshot.specs.declared.Voice.{Voice}
use Rattle.oneshot.specs.declared.Voices.{Voices}
use Rattle.oneshot.specs.Pair.{pair}
use Rattle.oneshot.specs.Mix.{sounding}
use Rattle.oneshot.specs.Sounding.{Each}
use Rattle.stage.specs.declared.Settings.{Settings}
use Rattle.stage.specs.declared.Tail.{Tail}
use Rattle.stage.specs.declared.Stage.{Stage}
use Rattle.stage.specs.Sound.{only, sound, with_tail, tail_on, rendered_of}
use Rattle.stage.specs.Stage.{frame_of}
use Rattle.stage.proofs.Keeps.{OfTail, tail_on_law}
use Rattle.sweeps.proofs.Moving.{frame_left, frame_right}
use Rattle.runs.specs.declared.Core.{Core}
use Rattle.runs.specs.Voices.{voice_by, voices_by, Lasts, sum_from}
use Rattle.runs.specs.Core.{core_of, core_on, core_gives, core_passes, core_after, core_adds}
use Rattle.runs.proofs.Voices.{by_none, mixed_frame}
use Rattle.runs.proofs.Cores.{after_song}
use Rattle.runs.proofs.Calm.{side_left, side_right}

-- no frames: no voice has moved
map_none : (vs : List Voice) → map (voice_by 0) vs ≡ vs
map_none [] = refl
map_none (v ∷ vs) = rw (by_none v, map_none vs) refl

voices_none : (t : Voices) → voices_by 0 t ≡ t
voices_none t = rw (map_none (sounding t), take-append-drop t.count t.table) refl

-- a stage n frames on, with its core there and its voices
abbrev pub stage_on : Stage → Voices → ℕ → Core → Stage
stage_on s v n c =
    record { clock = record { 0 = s.clock.0 + n }; playhead = c.playhead; sound = sound c.master c.fade.tail v; counters = s.counters }

-- where there is a tail, it sounds as t
abbrev pub Tails : View → Recording → Option Tail → Type 0
Tails view t u = OfTail (λ h w. view h ≡ t) u

module _ (x : Settings) (view : View) (t : Recording) where
  tails_on : (u : Option Tail) → Tails view t u → tail_on view u ≡ tail_on (only t) u
  unfolding tail_on
  tails_on None e = refl
  tails_on (Some t) e = rw e refl

  tails_with : (g : Float) (u : Option Tail) (p : Pair) → Tails view t u → with_tail x view g u p ≡ with_tail x (only t) g u p
  unfolding with_tail
  tails_with g None p e = refl
  tails_with g (Some t) p e = rw e refl

  tails_after : (s : Recording) (n : ℕ) (c : Core) → Tails view t c.fade.tail → Tails view t (core_after x s t n c).fade.tail
  unfolding core_after core_on
  tails_after s zero c e = e
  tails_after s (suc n) c e = tail_on_law (λ h w. view h ≡ t) (λ h w z p. p) (only t) (core_after x s t n c).fade.tail (tails_after s n c e)

  module _ (s : Stage) where
    -- its core n frames on
    abbrev pub core_at : ℕ → Core
    core_at n = core_after x (view s.playhead.song) t n (core_of s)

    -- and all of it
    unfoldable pub stage_at : ℕ → Stage
    stage_at n = stage_on s (voices_by n s.sound.voices) n (core_at n)

    -- the passes of the frame that it makes there
    abbrev pub passes_at : ℕ → ℕ
    passes_at n = core_passes x (view s.playhead.song) t (core_at n)

    -- what stands at place k of the output
    abbrev pub outs : ℕ → Float
    outs k = core_adds x (view s.playhead.song) t (core_of s) k (sum_from view (sounding s.sound.voices) k zero32)

    pub stage_none : stage_at 0 ≡ s
    unfolding stage_at core_after
    stage_none = rw (add-zero s.clock.0, voices_none s.sound.voices) refl

    pub stage_frame : (j : ℕ) → Tails view t s.sound.fade.tail → Each (Lasts view (j + 1)) s.sound.voices → s.sound.voices.count ≤ length s.sound.voices.table
        → frame_of x view (stage_at j) ≡ record { stage = stage_at (j + 1); out = pair (outs (j * 2)) (outs (j * 2 + 1)); passes = passes_at j }
    unfolding frame_of rendered_of stage_at core_gives core_on core_after
    stage_frame j e l c =
        let u : Tails view t (core_at j).fade.tail = tails_after (view s.playhead.song) j (core_of s) e in
        let q : s.clock.0 + j + 1 ≡ s.clock.0 + (j + 1) = omega arith in
        rw (
          after_song x (view s.playhead.song) t j (core_of s),
          mixed_frame view s.sound.voices j c l,
          tails_on (core_at j).fade.tail u,
          tails_with _ (core_at j).fade.tail _ u,
          q,
          add-one j,
          side_left j _,
          side_right j _,
          frame_left j,
          frame_right j,
        ) refl

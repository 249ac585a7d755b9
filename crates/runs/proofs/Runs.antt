-- Frames in which no voice ends are frames of the core over the sums: where they leave the stage, their output and their passes. Assumes nothing.
use mathlib.Core.Path.{◌≡◌, refl, sym, ap, ◌∙◌}
use mathlib.Core.List.{List, [], ◌∷◌, ◌++◌}
use Prim.Native.Nat.{ℕ, zero, suc, ◌+◌, ◌*◌, ◌≤◌, ◌<◌}
use native.Mathlib.Numerals.{add-one}
use native.Mathlib.Omega.{arith}
use lib.ListN.{length, take, drop, set, take-append-drop}
use lib.Seq.{drop-set-lt}
use lib.Ieee.{Float}
use Rattle.laws.specs.Block.{Machine, stand, ran, run}
use Rattle.laws.proofs.Partway.{Partway, partway_start, partway_frame, partway_ran}
use Rattle.laws.proofs.Samples.{samples_append, take_two}
use Rattle.timeline.specs.declared.QueueRecord.{QueueRecord}
use Rattle.bank.specs.Recording.{Recording, View}
use Rattle.oneshot.specs.declared.Voices.{Voices}
use Rattle.oneshot.specs.Pair.{pair}
use Rattle.oneshot.specs.Mix.{sounding}
use Rattle.oneshot.specs.Sounding.{Each}
use Rattle.stage.specs.declared.Settings.{Settings}
use Rattle.stage.specs.declared.Stage.{Stage}
use Rattle.stage.specs.Stage.{frame_of}
use Rattle.stage.specs.Machine.{Told, FrameMade, made_of, machine_of, output_of, passes_of}
use Rattle.stage.proofs.Passes.{frame_few, passes_append}
use Rattle.sweeps.specs.Over.{over}
use Rattle.sweeps.specs.Adds.{cleared}
use Rattle.sweeps.proofs.Over.{length_over, over_again}
use Rattle.runs.specs.Voices.{voices_by, Lasts, sum_from, sums}
use Rattle.runs.specs.Core.{core_of, core_after, passes_in, core_adds}
use Rattle.runs.specs.Frames.{stretch_of}
use Rattle.runs.proofs.Frames.{Tails, stage_on, stage_at, passes_at, outs, stage_none, stage_frame}

-- ---- a sweep that writes each place is the samples of its frames, and after them what stood there

module _ (f : ℕ → Float) (g : ℕ → ℕ) where
  -- the frame of places 2j and 2j + 1, with its passes
  abbrev made_at : ℕ → FrameMade
  made_at j = record { pair = pair (f (j * 2)) (f (j * 2 + 1)); passes = g j }

  -- the frames, in order
  abbrev made_by : ℕ → List FrameMade
  made_by zero = []
  made_by (suc n) = made_by n ++ (made_at n ∷ [])

  module _ (os : List Float) where
    abbrev written : ℕ → List Float
    written n = over (λ k y. f k) 0 (n * 2) os

    over_two : (n : ℕ) → written (suc n) ≡ set (set (written n) (n * 2) (f (n * 2))) (n * 2 + 1) (f (n * 2 + 1))
    unfolding over
    over_two n =
        let e : suc n * 2 ≡ suc (suc (n * 2)) = omega arith in
        let a : 0 + n * 2 ≡ n * 2 = omega arith in
        let b : 0 + suc (n * 2) ≡ n * 2 + 1 = omega arith in
        rw (e, a, b) refl

    front : (n : ℕ) → n * 2 ≤ length os → take (n * 2) (written n) ≡ output_of (made_by n)
    front zero l = refl
    front (suc n) l =
        let e : suc n * 2 ≡ (n + 1) * 2 = omega arith in
        let r : n * 2 + 1 < length (written n) = omega (arith, length_over (λ k y. f k) 0 (n * 2) os) in
        rw (over_two n, e, take_two n (written n) (f (n * 2)) (f (n * 2 + 1)) r, front n (omega arith)) (sym (samples_append _ _ (made_by n) (made_at n ∷ [])))

    rest : (n m : ℕ) → n * 2 ≤ m → drop m (written n) ≡ drop m os
    unfolding over
    rest zero m l = refl
    rest (suc n) m l = rw (over_two n, drop-set-lt m _ (n * 2 + 1) (f (n * 2 + 1)) (omega arith), drop-set-lt m _ (n * 2) (f (n * 2)) (omega arith)) (rest n m (omega arith))

    written_output : (n : ℕ) → n * 2 ≤ length os → written n ≡ output_of (made_by n) ++ drop (n * 2) os
    written_output n l = rw (← front n l, ← rest n (n * 2) (omega arith)) (sym (take-append-drop (n * 2) (written n)))

-- ---- all frames

module _ (x : Settings) (view : View) (t : Recording) (s : Stage) (n : ℕ) (tails : Tails view t s.sound.fade.tail) (lasts : Each (Lasts view n) s.sound.voices)
    (places : s.sound.voices.count ≤ length s.sound.voices.table) where
  abbrev machine : Machine Stage QueueRecord FrameMade Told
  machine = machine_of x view

  abbrev at : ℕ → Stage
  at = stage_at x view t s

  abbrev made : ℕ → List FrameMade
  made = made_by (outs x view t s) (passes_at x view t s)

  partway : (i : ℕ) → i ≤ n → Partway machine n (stand s []) i (at i) [] (made i) []
  partway zero le = rw (stage_none x view t s) (partway_start machine n (stand s []))
  partway (suc i) le =
      let l : Each (Lasts view (i + 1)) s.sound.voices = λ k b. omega (arith, lasts k b) in
      let e : machine.next (at i) ≡ at (i + 1) = ap (λ r. r.stage) (stage_frame x view t s i tails l places) in
      let o : machine.makes (at i) ≡ made_at (outs x view t s) (passes_at x view t s) i = ap made_of (stage_frame x view t s i tails l places) in
      let p : Partway machine n (stand s []) (i + 1) (machine.next (at i)) [] (made i ++ (machine.makes (at i) ∷ [])) [] =
      partway_frame machine n (stand s []) i (at i) [] (made i) [] (omega arith) tt (partway i (omega arith)) in
      rw (← add-one i) (rw (e, o) at p)

  all : stretch_of x view n s ≡ ran (stand (at n) []) (made n) []
  unfolding stretch_of
  all = partway_ran machine n (stand s []) n (at n) [] (made n) [] (omega arith) (partway n (omega arith))

  pub run_stage : at n ≡ (stretch_of x view n s).at.core
  run_stage = sym (ap (λ r. r.at.core) all)

  -- the core over the sums
  pub run_output : (os : List Float) → n * 2 ≤ length os
      → over (core_adds x (view s.playhead.song) t (core_of s)) 0 (n * 2) (over (sums view (sounding s.sound.voices)) 0 (n * 2) os) ≡ output_of (stretch_of x view n s).made ++ drop (n * 2) os
  run_output os l =
      over_again (core_adds x (view s.playhead.song) t (core_of s)) (sums view (sounding s.sound.voices)) (n * 2) os l
      ∙ written_output (outs x view t s) (passes_at x view t s) os n l
      ∙ sym (ap (λ r. output_of r.made ++ drop (n * 2) os) all)

  passes_made : (i : ℕ) → passes_in x (view s.playhead.song) t i (core_of s) ≡ passes_of (made i)
  unfolding passes_in
  passes_made zero = refl
  passes_made (suc i) = rw (passes_append (made i) (made_at (outs x view t s) (passes_at x view t s) i ∷ []), passes_made i) (omega arith)

  pub run_passes : passes_in x (view s.playhead.song) t n (core_of s) ≡ passes_of (stretch_of x view n s).made
  run_passes = passes_made n ∙ sym (ap (λ r. passes_of r.made) all)

-- ---- without a voice: over +0.0

silent_voices : (n : ℕ) (v : Voices) → v.count ≡ 0 → voices_by n v ≡ v
silent_voices n v e = rw e refl

module _ (x : Settings) (view : View) (t : Recording) (s : Stage) (n : ℕ) (tails : Tails view t s.sound.fade.tail) (none : s.sound.voices.count ≡ 0) where
  lasting : Each (Lasts view n) s.sound.voices
  lasting i l = absurd (omega arith)

  pub silent_stage : stage_on s s.sound.voices n (core_after x (view s.playhead.song) t n (core_of s)) ≡ (stretch_of x view n s).at.core
  unfolding stage_at
  silent_stage =
      ap (λ v. stage_on s v n (core_after x (view s.playhead.song) t n (core_of s))) (sym (silent_voices n s.sound.voices none)) ∙ run_stage x view t s n tails lasting (omega arith)

  pub silent_passes : passes_in x (view s.playhead.song) t n (core_of s) ≡ passes_of (stretch_of x view n s).made
  silent_passes = run_passes x view t s n tails lasting (omega arith)

  silent_sums : (m : ℕ) (os : List Float) → over cleared 0 m os ≡ over (sums view (sounding s.sound.voices)) 0 m os
  unfolding sum_from
  silent_sums m os = rw none refl

  pub silent_output : (os : List Float) → n * 2 ≤ length os
      → over (core_adds x (view s.playhead.song) t (core_of s)) 0 (n * 2) (over cleared 0 (n * 2) os) ≡ output_of (stretch_of x view n s).made ++ drop (n * 2) os
  silent_output os l =
      ap (over (core_adds x (view s.playhead.song) t (core_of s)) 0 (n * 2)) (silent_sums (n * 2) os) ∙ run_output x view t s n tails lasting (omega arith) os l

-- ---- one frame

module _ (x : Settings) (view : View) (s : Stage) where
  pub frame_stage : (frame_of x view s).stage ≡ (stretch_of x view 1 s).at.core
  unfolding stretch_of run
  frame_stage = refl

  pub frame_passes : (frame_of x view s).passes ≡ passes_of (stretch_of x view 1 s).made
  unfolding stretch_of run
  frame_passes = omega arith

  pub frame_output : (os : List Float) → 2 ≤ length os → set (set os 0 (frame_of x view s).out.left) 1 (frame_of x view s).out.right ≡ output_of (stretch_of x view 1 s).made ++ drop 2 os
  unfolding stretch_of run
  frame_output [] l = absurd (omega arith)
  frame_output (a ∷ []) l = absurd (omega arith)
  frame_output (a ∷ b ∷ os) l = refl

-- ---- at most two passes a frame

pub stretch_few : (x : Settings) (view : View) (n : ℕ) (s : Stage) → passes_of (stretch_of x view n s).made ≤ n * 2
unfolding stretch_of run
stretch_few x view zero s = omega arith
stretch_few x view (suc n) s = omega (arith, frame_few x view s, stretch_few x view n (frame_of x view s).stage)

-- A frame of voices in the middle of a run: each adds its share and moves on, and none leaves. Assumes nothing.
use mathlib.Core.Path.{◌≡◌, refl, ◌∙◌}
use mathlib.Core.Bool.{true}
use mathlib.Core.List.{List, [], ◌∷◌, map}
use Prim.Native.Nat.{ℕ, suc, ◌+◌, ◌*◌, ◌≤◌, ◌<◌}
use native.Mathlib.Numerals.{add-one}
use native.Mathlib.Omega.{arith}
use lib.ListN.{length, drop, length-map}
use lib.Seq.{length-take-le, take_at, drop_at}
use lib.Ieee.{binary32, add}
use borrow.Author.Tests.{lt-ltb}
use Rattle.ramp.specs.Number.{zero32}
use Rattle.bank.specs.Recording.{View}
use Rattle.oneshot.specs.declared.Voice.{Voice}
use Rattle.oneshot.specs.declared.Voices.{Voices}
use Rattle.oneshot.specs.declared.Pair.{Pair}
use Rattle.oneshot.specs.Pair.{pair, silence}
use Rattle.oneshot.specs.Voice.{voice_of}
use Rattle.oneshot.specs.Mix.{mix_of, mix_in, sounding}
use Rattle.oneshot.specs.Sounding.{Each}
use Rattle.oneshot.proofs.Next.{Every, every}
use Rattle.sweeps.specs.Adds.{ticks_of}
use Rattle.sweeps.proofs.Moving.{frame_left, frame_right}
use Rattle.runs.specs.Voices.{voice_by, voices_by, Lasts, share_in, sum_from}

module _ (view : View) where
  -- one voice
  pub voice_frame : (v : Voice) (j : ℕ) (s : Pair) → v.head.0 + (j + 1) * 2 < (view v.handle).frames * 2
      → voice_of (view v.handle) (voice_by j v) s
      ≡ record { voice = voice_by (j + 1) v; sum = pair (add binary32 s.left (share_in (view v.handle) v (j * 2))) (add binary32 s.right (share_in (view v.handle) v (j * 2 + 1))); more = true }
  unfolding voice_of share_in ticks_of
  voice_frame v j s h =
      let a : v.head.0 + j * 2 + 2 ≡ v.head.0 + (j + 1) * 2 = omega arith in
      let b : v.head.0 + j * 2 + 1 ≡ v.head.0 + (j * 2 + 1) = omega arith in
      rw (a, b, frame_left j, frame_right j, lt-ltb _ _ h, add-one j) refl

  -- all of a list
  pub mix_frame : (vs : List Voice) (j : ℕ) (s : Pair) → Every (Lasts view (j + 1)) vs
      → mix_of view (map (voice_by j) vs) s
      ≡ record { voices = map (voice_by (j + 1)) vs; sum = pair (sum_from view vs (j * 2) s.left) (sum_from view vs (j * 2 + 1) s.right) }
  unfolding mix_of sum_from
  mix_frame [] j s e = refl
  mix_frame (v ∷ vs) j s e =
      rw (voice_frame v j s (e 0 (omega arith)), mix_frame vs j (pair (add binary32 s.left (share_in (view v.handle) v (j * 2))) (add binary32 s.right (share_in (view v.handle) v (j * 2 + 1)))) (λ i l. e (suc i) (omega arith))) refl

  -- those of the table that sound are those that did, each so many frames on
  pub by_sounding : (t : Voices) (n : ℕ) → t.count ≤ length t.table → sounding (voices_by n t) ≡ map (voice_by n) (sounding t)
  by_sounding t n h = take_at (map (voice_by n) (sounding t)) (drop t.count t.table) t.count (length-map (sounding t) (voice_by n) ∙ length-take-le t.count t.table h)

  -- the table
  pub mixed_frame : (t : Voices) (j : ℕ) → t.count ≤ length t.table → Each (Lasts view (j + 1)) t
      → mix_in view (voices_by j t)
      ≡ record { voices = voices_by (j + 1) t; sum = pair (sum_from view (sounding t) (j * 2) zero32) (sum_from view (sounding t) (j * 2 + 1) zero32) }
  unfolding mix_in
  mixed_frame t j h e =
      let l : (n : ℕ) → length (map (voice_by n) (sounding t)) ≡ t.count = λ n. length-map (sounding t) (voice_by n) ∙ length-take-le t.count t.table h in
      rw (by_sounding t j h, mix_frame (sounding t) j silence (every (Lasts view (j + 1)) t e), l (j + 1), drop_at (map (voice_by j) (sounding t)) (drop t.count t.table) t.count (l j)) refl

-- at the start nothing has moved
pub by_none : (v : Voice) → voice_by 0 v ≡ v
unfolding ticks_of
by_none v = let e : v.head.0 + 0 * 2 ≡ v.head.0 = omega arith in rw e refl

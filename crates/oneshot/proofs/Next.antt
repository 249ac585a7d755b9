-- After a frame: what a frame keeps of one voice it keeps of all that stay, the table is ready for the next frame, no more voices sound, and the table keeps its places.
-- Assumes nothing.
use mathlib.Core.Path.{◌≡◌, refl, sym, subst}
use mathlib.Core.Bool.{Bool, true, false}
use mathlib.Core.List.{List, [], ◌∷◌}
use Prim.Native.Nat.{ℕ, zero, suc, ◌+◌, ◌≤◌, ◌<◌}
use native.Mathlib.Nat.{le_of_suc-le-suc}
use native.Mathlib.Omega.{arith}
use lib.ListN.{length, get_or, drop, length-append, length-take, length-drop, get_or-append}
use lib.Seq.{get_or-take}
use lib.Ieee.{Float}
use borrow.Author.Tests.{ltb-true}
use Rattle.ramp.proofs.Kept.{tick_falls, tick_target}
use Rattle.bank.specs.declared.Bank.{Bank}
use Rattle.bank.specs.Recording.{Recording, View, view_of}
use Rattle.oneshot.specs.declared.Voice.{Voice}
use Rattle.oneshot.specs.declared.Pair.{Pair}
use Rattle.oneshot.specs.declared.Voices.{Voices}
use Rattle.oneshot.specs.declared.Sounded.{Sounded}
use Rattle.oneshot.specs.Pair.{silence}
use Rattle.oneshot.specs.Voice.{voice_of}
use Rattle.oneshot.specs.Mix.{Mix, mix_of, mix_in, keep_if, blank_voice, sounding}
use Rattle.oneshot.specs.Sounding.{Sounds, Each, Ready}

-- ---- one voice

module _ (x : Recording) (v : Voice) (s : Pair) where
  -- a frame keeps a voice's clip
  pub frame_handle : (voice_of x v s).voice.handle ≡ v.handle
  unfolding voice_of
  frame_handle = refl

  -- no more frames of its declick remain
  pub frame_remaining : (voice_of x v s).voice.gain.remaining ≤ v.gain.remaining
  unfolding voice_of
  frame_remaining = tick_falls v.gain

  -- a frame keeps the gain that it goes to
  pub frame_target : (voice_of x v s).voice.gain.target ≡ v.gain.target
  unfolding voice_of
  frame_target = tick_target v.gain

-- a voice whose clip has frames left can sound again, over any pool as long
pub sounds_next : (pool : List Float) (n : ℕ) (b : Bank) (v : Voice) (s : Pair) → Sounds n b v → (voice_of (view_of pool b v.handle) v s).more ≡ true → Sounds n b (voice_of (view_of pool b v.handle) v s).voice
unfolding voice_of view_of
sounds_next pool n b v s h e = record { slot = h.slot; inside = h.inside; even = omega arith; left = ltb-true _ _ e }

-- ---- every voice of a list

abbrev pub Every : (Voice → Type 0) → List Voice → Type 0
Every P vs = (i : ℕ) → i < length vs → P (get_or vs i blank_voice)

-- what holds of each voice that sounds holds of every voice of their list
pub every : (P : Voice → Type 0) (t : Voices) → Each P t → Every P (sounding t)
every P t e i h =
    let l : i < t.count = omega (arith, length-take t.count t.table) in
    subst P (sym (get_or-take t.count t.table i blank_voice l)) (e i l)

module _ (view : View) (P : Voice → Type 0) (keeps : (v : Voice) (s : Pair) → P v → (voice_of (view v.handle) v s).more ≡ true → P (voice_of (view v.handle) v s).voice) where
  kept : (b : Bool) (v : Voice) (m : Mix) → (b ≡ true → P v) → Every P m.voices → Every P (keep_if b v m).voices
  kept true v m p e zero l = p refl
  kept true v m p e (suc i) l = e i (le_of_suc-le-suc l)
  kept false v m p e i l = e i l

  every_kept : (vs : List Voice) (s : Pair) → Every P vs → Every P (mix_of view vs s).voices
  unfolding mix_of
  every_kept [] s e = e
  every_kept (v ∷ vs) s e =
      let x : Sounded = voice_of (view v.handle) v s in
      kept x.more x.voice (mix_of view vs x.sum) (keeps v s (e 0 (omega arith))) (every_kept vs x.sum (λ i l. e (suc i) (omega arith)))

  -- what a frame keeps of one voice it keeps of each that stays
  pub each_kept : (t : Voices) → Each P t → Each P (mix_in view t).voices
  unfolding mix_in
  each_kept t e i h =
      let m : Mix = mix_of view (sounding t) silence in
      subst P (sym (get_or-append m.voices (drop (length m.voices) t.table) blank_voice i h)) (every_kept (sounding t) silence (every P t e) i h)

-- ---- the table

module _ (view : View) where
  fewer : (b : Bool) (v : Voice) (m : Mix) (k : ℕ) → length m.voices ≤ k → length (keep_if b v m).voices ≤ k + 1
  fewer true v m k h = omega arith
  fewer false v m k h = omega arith

  -- no more of the voices stay
  pub at_most : (vs : List Voice) (s : Pair) → length (mix_of view vs s).voices ≤ length vs
  unfolding mix_of
  at_most [] s = omega arith
  at_most (v ∷ vs) s =
      let x : Sounded = voice_of (view v.handle) v s in
      omega (arith, fewer x.more x.voice (mix_of view vs x.sum) (length vs) (at_most vs x.sum))

  -- after a frame no more voices sound
  pub no_more : (t : Voices) → (mix_in view t).voices.count ≤ t.count
  unfolding mix_in
  no_more t = omega (arith, at_most (sounding t) silence, length-take t.count t.table)

  -- a frame keeps the table's places
  pub places_next : (t : Voices) → t.count ≤ length t.table → length (mix_in view t).voices.table ≡ length t.table
  unfolding mix_in
  places_next t h =
      let m : Mix = mix_of view (sounding t) silence in
      omega (arith, length-append m.voices (drop (length m.voices) t.table), length-drop (length m.voices) t.table, at_most (sounding t) silence, length-take t.count t.table)

-- after a frame the table is ready for the next, over any pool as long
pub ready_next : (pool : List Float) (n : ℕ) (b : Bank) (t : Voices) → Ready n b t → Ready n b (mix_in (view_of pool b) t).voices
ready_next pool n b t r =
    record {
      few = omega (arith, no_more (view_of pool b) t, r.few);
      each = each_kept (view_of pool b) (Sounds n b) (sounds_next pool n b) t r.each;
    }

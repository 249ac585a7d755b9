-- A frame of the voices reads nothing but the clips that sound. Assumes nothing.
use mathlib.Core.Path.{◌≡◌, refl}
use mathlib.Core.List.{List, [], ◌∷◌}
use Prim.Native.Nat.{suc}
use native.Mathlib.Omega.{arith}
use lib.Ieee.{Float}
use Rattle.bank.specs.declared.Bank.{Bank}
use Rattle.bank.specs.Slots.{clip_of}
use Rattle.bank.specs.Recording.{View, recording_of, view_of}
use Rattle.oneshot.specs.declared.Voice.{Voice}
use Rattle.oneshot.specs.declared.Pair.{Pair}
use Rattle.oneshot.specs.declared.Voices.{Voices}
use Rattle.oneshot.specs.Pair.{silence}
use Rattle.oneshot.specs.Voice.{voice_of}
use Rattle.oneshot.specs.Mix.{mix_of, mix_in, sounding}
use Rattle.oneshot.specs.Sounding.{Each}
use Rattle.oneshot.proofs.Next.{Every, every}

module _ (view other : View) where
  -- two views agree on a voice's clip
  abbrev pub Agrees : Voice → Type 0
  Agrees v = view v.handle ≡ other v.handle

  list_agrees : (vs : List Voice) (s : Pair) → Every Agrees vs → mix_of view vs s ≡ mix_of other vs s
  unfolding mix_of
  list_agrees [] s e = refl
  list_agrees (v ∷ vs) s e = rw (e 0 (omega arith), list_agrees vs (voice_of (other v.handle) v s).sum (λ i h. e (suc i) (omega arith)))

  -- two views that agree on the clips that sound give the same frame
  pub views_agree : (t : Voices) → Each Agrees t → mix_in view t ≡ mix_in other t
  unfolding mix_in
  views_agree t e = rw (list_agrees (sounding t) silence (every Agrees t e))

-- two pools that agree on the clips that sound give the same frame
pub pools_agree : (p q : List Float) (b : Bank) (t : Voices) → Each (λ v. (recording_of p (clip_of b v.handle)).samples ≡ (recording_of q (clip_of b v.handle)).samples) t
    → mix_in (view_of p b) t ≡ mix_in (view_of q b) t
unfolding view_of
pools_agree p q b t e = views_agree (view_of p b) (view_of q b) t (λ i h. rw (e i h))

-- A stinger that fires: it can sound where its clip lies in the pool, its gain is in range, and the table that it joins stays ready. Assumes nothing.
use mathlib.Core.Path.{◌≡◌, refl, sym, ap, ◌∙◌, subst}
use mathlib.Core.Bool.{true}
use mathlib.Core.Logic.{⊎_elim}
use Prim.Native.Nat.{ℕ, ◌≤◌, ◌<◌}
use native.Mathlib.Nat.{eq-or-lt_of_le}
use native.Mathlib.Omega.{arith}
use lib.ListN.{length, length-set}
use lib.Seq.{get_or-set_same, get_or-set_other}
use lib.Ieee.{Float, le}
use Rattle.ramp.specs.Number.{zero32, one32, sixteen32, between, not_below}
use Rattle.ramp.specs.Ramp.{at_rest, declick_of}
use Rattle.ramp.proofs.Kept.{set_remaining, set_target, not_below_between}
use Rattle.counts.specs.declared.Handle.{Handle}
use Rattle.bank.specs.declared.Bank.{Bank}
use Rattle.bank.specs.Slots.{clip_of}
use Rattle.oneshot.specs.declared.Voice.{Voice}
use Rattle.oneshot.specs.declared.Voices.{Voices}
use Rattle.oneshot.specs.Voice.{fired_of}
use Rattle.oneshot.specs.Mix.{blank_voice, no_voices, added_to}
use Rattle.oneshot.specs.Sounding.{LiesIn, Sounds, Each, Ready}

-- ---- one voice

module _ (rate : ℕ) (h : Handle) (g : Float) where
  -- it can sound where its clip lies in the pool and has a frame
  pub fired_sounds : (n : ℕ) (b : Bank) → h.slot < 32 → LiesIn n (clip_of b h) → 1 ≤ (clip_of b h).frames → Sounds n b (fired_of rate h g)
  unfolding fired_of
  fired_sounds n b s i f = record { slot = s; inside = i; even = refl; left = omega arith }

  -- the whole declick remains
  pub fired_remaining : (fired_of rate h g).gain.remaining ≡ (declick_of rate).frames
  unfolding fired_of
  fired_remaining = set_remaining (at_rest one32) (not_below g) (declick_of rate)

  -- with a gain of at most 16 it goes to one from 0 to 16
  pub fired_target : le g sixteen32 ≡ true → between zero32 sixteen32 (fired_of rate h g).gain.target ≡ true
  unfolding fired_of le
  fired_target e = ap (between zero32 sixteen32) (set_target (at_rest one32) (not_below g) (declick_of rate)) ∙ not_below_between sixteen32 g refl e

-- ---- the table

-- what holds of each voice and of the one added holds of each after it
pub each_added : (P : Voice → Type 0) (t : Voices) (v : Voice) → t.count < length t.table → Each P t → P v → Each P (added_to t v)
unfolding added_to
each_added P t v l e p i h =
    ⊎_elim
    (λ q. rw q (subst P (sym (get_or-set_same t.table t.count v blank_voice l)) p))
    (λ q. subst P (sym (get_or-set_other t.table t.count i v blank_voice (λ z. omega arith))) (e i q))
    (eq-or-lt_of_le (omega arith))

-- adding a voice keeps the table's places
pub places_added : (t : Voices) (v : Voice) → length (added_to t v).table ≡ length t.table
unfolding added_to
places_added t v = length-set t.table t.count v

-- a table with a place left stays ready when a voice that can sound is added
pub ready_added : (n : ℕ) (b : Bank) (t : Voices) (v : Voice) → length t.table ≡ 16 → t.count < 16 → Ready n b t → Sounds n b v → Ready n b (added_to t v)
unfolding added_to
ready_added n b t v l c r h = record { few = omega arith; each = each_added (Sounds n b) t v (omega arith) r.each h }

-- at opening the table is ready
pub ready_none : (n : ℕ) (b : Bank) → Ready n b no_voices
unfolding no_voices
ready_none n b = record { few = omega arith; each = λ i h. absurd (omega arith) }

-- it has 16 places
pub places_none : length no_voices.table ≡ 16
unfolding no_voices
places_none = refl

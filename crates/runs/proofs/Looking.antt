-- How far no voice has its last frame: the least of the voices' own. Assumes nothing.
use mathlib.Core.Path.{◌≡◌, subst}
use mathlib.Core.List.{List}
use mathlib.Core.Logic.{⊎_elim}
use Prim.Native.Nat.{ℕ, ◌+◌, ◌*◌, ◌≤◌, ◌<◌}
use native.Mathlib.Nat.{eq-or-lt_of_le}
use native.Mathlib.Omega.{arith}
use lib.ListN.{length, get_or}
use lib.Ieee.{Float}
use Rattle.bank.specs.declared.Clip.{Clip}
use Rattle.bank.specs.declared.Bank.{Bank}
use Rattle.bank.specs.Slots.{blank, clip_of}
use Rattle.bank.specs.Recording.{view_of}
use Rattle.bank.proofs.Places.{get_d_any}
use Rattle.oneshot.specs.declared.Voice.{Voice}
use Rattle.oneshot.specs.declared.Voices.{Voices}
use Rattle.oneshot.specs.Mix.{blank_voice}
use Rattle.oneshot.specs.Sounding.{LiesIn, Sounds, Ready}
use Rattle.runs.specs.Voices.{Lasts}

module _ (pool : List Float) (bank : Bank) (most : ℕ) (t : Voices) where
  -- the voices below i have so many frames and more
  pub record Looking (least i : ℕ) : Type 0 where
    pub upto : i ≤ t.count
    pub held : least ≤ most
    pub each : (k : ℕ) → k < i → Lasts (view_of pool bank) least (get_or t.table k blank_voice)

  pub looking_start : Looking most 0
  looking_start = record { upto = omega arith; held = omega arith; each = λ k h. absurd (omega arith) }

  module _ {least i : ℕ} (l : Looking least i) (places : t.count ≤ length t.table) (clips : length bank.clips ≡ 32) (r : Ready (length pool) bank t) (lt : i < t.count) (d : Voice) (p : Clip) where
    its : get_or t.table i blank_voice ≡ get_or t.table i d
    its = get_d_any t.table i blank_voice d (omega arith)

    pub its_slot : (get_or t.table i d).handle.slot < 32
    its_slot = subst (λ (v : Voice). v.handle.slot < 32) its (r.each i lt).slot

    clip : (v : Voice) → v.handle.slot < 32 → clip_of bank v.handle ≡ get_or bank.clips v.handle.slot p
    clip v h = get_d_any bank.clips v.handle.slot blank p (omega arith)

    -- at least one frame is left
    asked : (v : Voice) → Sounds (length pool) bank v → (v.head.0 + 1 < (get_or bank.clips v.handle.slot p).frames * 2) × LiesIn (length pool) (get_or bank.clips v.handle.slot p)
    asked v s = rw (← clip v s.slot) (omega (arith, s.even, s.left), s.inside)

    pub its_asked : ((get_or t.table i d).head.0 + 1 < (get_or bank.clips (get_or t.table i d).handle.slot p).frames * 2) × LiesIn (length pool) (get_or bank.clips (get_or t.table i d).handle.slot p)
    its_asked = subst (λ (v : Voice). (v.head.0 + 1 < (get_or bank.clips v.handle.slot p).frames * 2) × LiesIn (length pool) (get_or bank.clips v.handle.slot p)) its (asked (get_or t.table i blank_voice) (r.each i lt))

    -- one voice more, and as few frames as it has
    pub looking_turn : (left now : ℕ) → (get_or t.table i d).head.0 + left * 2 < (get_or bank.clips (get_or t.table i d).handle.slot p).frames * 2 → now ≤ left → now ≤ least → Looking now (i + 1)
    unfolding view_of
    looking_turn left now h a b =
        let e : (get_or t.table i blank_voice).head.0 + left * 2 < (clip_of bank (get_or t.table i blank_voice).handle).frames * 2 = rw (its, clip (get_or t.table i d) its_slot) h in
        record {
          upto = omega arith;
          held = omega (arith, l.held);
          each = λ k q.
              ⊎_elim
              (λ (z : k ≡ i). rw z (omega (arith, e)))
              (λ (z : k < i). omega (arith, l.each k z))
              (eq-or-lt_of_le (omega arith));
        }

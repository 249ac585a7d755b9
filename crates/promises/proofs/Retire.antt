-- When a retire is refused with 11, with 19, and when it is done. Assumes nothing.
use mathlib.Core.Path.{◌≡◌, sym, ap, ◌∙◌}
use mathlib.Core.Logic.{◌⊎◌, inl, inr}
use mathlib.Core.Bool.{true, false}
use native.Mathlib.Omega.{arith}
use Rattle.counts.specs.declared.Handle.{Handle}
use Rattle.counts.proofs.Truth.{two_ways, never}
use Rattle.bank.specs.Slots.{live}
use Rattle.clips.specs.Retire.{held_now}
use Rattle.clips.proofs.Held.{Holder, live_small, held_is, held_has, holder_live}
use Rattle.clips.proofs.Held as clips
use Rattle.clips.proofs.Retired.{stale_refused, held_refused}
use Rattle.promises.specs.Calls.{State, retire, code, refusal}
use Rattle.promises.specs.Kept.{Good}
use Rattle.promises.specs.Retire.{Live, Stale, Holds, by_song, by_tail, by_voice, by_queue, by_capture, HeldLive, Retires, Retire}
use Rattle.promises.proofs.Kept.{types}

-- what holds a clip in a state holds it in its session
holder : (h : Handle) (x : State) → Holds h x → Holder h x.session x.queue x.capture
holder h x (by_song e) = clips.by_song e
holder h x (by_tail at w e) = clips.by_tail at w e
holder h x (by_voice i l e) = clips.by_voice i l e
holder h x (by_queue j l e) = clips.by_queue j l e
holder h x (by_capture j l e) = clips.by_capture j l e

-- and the other way
holds : (h : Handle) (x : State) → Holder h x.session x.queue x.capture → Holds h x
holds h x (clips.by_song e) = by_song e
holds h x (clips.by_tail at w e) = by_tail at w e
holds h x (clips.by_voice i l e) = by_voice i l e
holds h x (clips.by_queue j l e) = by_queue j l e
holds h x (clips.by_capture j l e) = by_capture j l e

-- so it is live
pub held_live : HeldLive
held_live h x g y = holder_live h x.session x.queue x.capture g.formed (holder h x y)

module _ (h : Handle) (x : State) (g : Good x) where
  -- a stale handle answers 11,
  pub stale_says : Stale h x → refusal (retire h) x ≡ 11
  stale_says e = ap code (stale_refused x.session x.queue x.capture h g.formed e)

  -- a live one 19 where it is held,
  held_says : Live h x → held_now x.session x.queue x.capture h ≡ true → refusal (retire h) x ≡ 19
  held_says e y = ap code (rw y at (held_refused x.session x.queue x.capture h g.formed e))

  -- and else it is done
  pub loose_says : Live h x → held_now x.session x.queue x.capture h ≡ false → refusal (retire h) x ≡ 0
  loose_says e y = ap code (rw y at (held_refused x.session x.queue x.capture h g.formed e))

  is_held : Live h x → Holds h x → held_now x.session x.queue x.capture h ≡ true
  is_held e y = held_is h x.session x.queue x.capture (live_small x.session x.queue x.capture g.formed (types x g) h e) (holder h x y)

  has_holder : Live h x → held_now x.session x.queue x.capture h ≡ true → Holds h x
  has_holder e y = holds h x (held_has h x.session x.queue x.capture (live_small x.session x.queue x.capture g.formed (types x g) h e) y)

pub retires : Retire
retires h x g = go (two_ways (live x.session.bank h)) (two_ways (held_now x.session x.queue x.capture h))
  where
    go : (live x.session.bank h ≡ true) ⊎ (live x.session.bank h ≡ false)
        → (held_now x.session x.queue x.capture h ≡ true) ⊎ (held_now x.session x.queue x.capture h ≡ false) → Retires h x
    go (inr e) y =
        let says : refusal (retire h) x ≡ 11 = stale_says h x g e in
        record {
          stale = (λ n. e, λ n. says);
          held = (λ (n : refusal (retire h) x ≡ 19). absurd (omega arith), λ b. absurd (never (sym b.0 ∙ e)));
          done = (λ (n : refusal (retire h) x ≡ 0). absurd (omega arith), λ b. absurd (never (sym b.0 ∙ e)));
        }
    go (inl e) (inl y) =
        let says : refusal (retire h) x ≡ 19 = held_says h x g e y in
        record {
          stale = (λ (n : refusal (retire h) x ≡ 11). absurd (omega arith), λ b. absurd (never (sym e ∙ b)));
          held = (λ n. (e, has_holder h x g e y), λ b. says);
          done = (λ (n : refusal (retire h) x ≡ 0). absurd (omega arith), λ b. absurd (b.1 (has_holder h x g e y)));
        }
    go (inl e) (inr y) =
        let says : refusal (retire h) x ≡ 0 = loose_says h x g e y in
        record {
          stale = (λ (n : refusal (retire h) x ≡ 11). absurd (omega arith), λ b. absurd (never (sym e ∙ b)));
          held = (λ (n : refusal (retire h) x ≡ 19). absurd (omega arith), λ b. absurd (never (sym (is_held h x g e b.1) ∙ y)));
          done = (λ n. (e, λ b. never (sym (is_held h x g e b) ∙ y)), λ b. says);
        }

-- After a retirement a load of at most its frames is refused with neither 8 nor 10. Assumes nothing.
use mathlib.Core.Path.{◌≡◌, refl, sym, ap, ◌∙◌, subst}
use mathlib.Core.Logic.{◌≢◌}
use mathlib.Core.Bool.{Bool, true, false, ◌||◌}
use mathlib.Core.List.{List}
use Prim.Native.Nat.{ℕ, ◌-◌, ◌^◌, ◌≤◌, ◌<◌}
use native.Mathlib.Omega.{arith}
use borrow.Author.Tests.{ne_eqb}
use lib.Dec.{eqb, lit≤}
use lib.Ieee.{Float}
use Rattle.counts.specs.declared.Handle.{Handle}
use Rattle.counts.proofs.Truth.{never}
use Rattle.counts.proofs.Below.{within_high}
use Rattle.bank.specs.Sample.{frames_of}
use Rattle.bank.specs.Slots.{clip_of, live, retired_from}
use Rattle.bank.specs.Room.{nowhere}
use Rattle.bank.specs.WellFormed.{bank_ok}
use Rattle.bank.proofs.Clauses.{live_has, bank_clip}
use Rattle.bank.proofs.Kept.{retired_slot, room_again}
use Rattle.stage.specs.declared.Settings.{Settings}
use Rattle.session.specs.declared.Session.{Session}
use Rattle.session.specs.declared.Answered.{Answered}
use Rattle.session.specs.Session.{with_bank}
use Rattle.session.specs.WellFormed.{well_formed}
use Rattle.session.proofs.Parts.{parts}
use Rattle.session.proofs.Ranged.{ranged}
use Rattle.session.proofs.Refuse.{numbered, other, passes, refused_or_done}
use Rattle.session.specs.Answer.{says}
use Rattle.clips.specs.Load.{start_for, weigh_load, load_of}
use Rattle.clips.proofs.Retired.{retire_done, accepted}
use Rattle.promises.specs.Calls.{State, with_session, retire, code, refusal, after}
use Rattle.promises.specs.Kept.{Good}
use Rattle.promises.specs.Own.{Clipped, loading}
use Rattle.promises.specs.Room.{RoomAgain}
use Rattle.promises.proofs.Fine.{retire_weighs}

-- 8 or 10
abbrev crowded : ℕ → Bool
crowded n = eqb n 8 || eqb n 10

module _ (x : State) (c : Clipped) where
  -- with a slot and a start neither is weighed,
  placed : (x.session.bank.used ≡ 2 ^ 32 - 1 → ⊥) → (start_for x.session c.samples ≡ nowhere → ⊥)
      → numbered crowded (weigh_load x.session x.queue x.capture x.pool c.samples c.kind c.rate) ≡ false
  unfolding weigh_load
  placed slot start =
      other crowded _ _ _ refl
      (other crowded _ _ _ refl
      (other crowded _ _ _ refl
      (other crowded _ _ _ refl
      (other crowded _ _ _ refl
      (other crowded _ _ _ refl
      (passes crowded _ _ _ (ne_eqb x.session.bank.used (2 ^ 32 - 1) slot)
      (other crowded _ _ _ refl (passes crowded _ _ _ (ne_eqb (start_for x.session c.samples) nowhere start) refl))))))))

  -- and so neither is answered
  answers : numbered crowded (weigh_load x.session x.queue x.capture x.pool c.samples c.kind c.rate) ≡ false → crowded (refusal (loading c) x) ≡ false
  unfolding load_of
  answers e = refused_or_done {A = Answered Handle × List Float} _ _ _ (λ z. crowded (code (says z.0.answer)) ≡ false) (λ k r. ap (numbered crowded) (sym r) ∙ e) (λ fine. refl)

-- no start in a pool of its range is nowhere
somewhere : (s : Session) (q c : List ℕ) → well_formed s q c ≡ true → (n : ℕ) → n < s.settings.pool → n ≡ nowhere → ⊥
somewhere s q c formed n l e =
    let x : Settings = s.settings in
    let pool : x.pool ≤ 33554432 = within_high 1 33554432 x.pool (ranged x (parts s q c formed).settings).pool in
    let top : 33554432 ≤ nowhere = lit≤ tt in
    omega (arith, top)

-- what a retirement leaves has a slot and room for the clip
module _ (x : State) (h : Handle) (c : Clipped) (g : Good x) (alive : live x.session.bank h ≡ true) (some : 1 ≤ frames_of c.samples)
    (few : frames_of c.samples ≤ (clip_of x.session.bank h).frames) where
  abbrev left : State
  left = with_session x (with_bank x.session (retired_from x.session.bank h))

  ok : bank_ok x.session.bank x.session.settings.pool ≡ true
  ok = (parts x.session x.queue x.capture g.formed).bank

  early : start_for left.session c.samples ≤ (clip_of x.session.bank h).start
  early = room_again x.session.bank h alive x.session.settings.pool ok (frames_of c.samples) some few

  uncrowded : crowded (refusal (loading c) left) ≡ false
  uncrowded =
      let a = live_has x.session.bank h alive in
      let k = bank_clip x.session.bank x.session.settings.pool ok h.slot a.among a.used in
      answers left c
      (placed left c (retired_slot x.session.bank h alive g.slots)
      (somewhere x.session x.queue x.capture g.formed (start_for left.session c.samples) (omega (arith, early, k.lies, k.long))))

pub room_is_used_again : RoomAgain
room_is_used_again x h c g e some few =
    let fine = retire_weighs h x e in
    let alive : live x.session.bank h ≡ true = (accepted x.session x.queue x.capture h fine).alive in
    let done : after (retire h) x ≡ left x h c g alive some few = ap (λ (z : Answered (Unit {0})). with_session x z.session) (retire_done x.session x.queue x.capture h fine) in
    subst (λ (y : State). (refusal (loading c) y ≢ 8) × (refusal (loading c) y ≢ 10) × (start_for y.session c.samples ≤ (clip_of x.session.bank h).start)) (sym done) (
      λ (n : refusal (loading c) (left x h c g alive some few) ≡ 8). never (ap crowded (sym n) ∙ uncrowded x h c g alive some few),
      λ (n : refusal (loading c) (left x h c g alive some few) ≡ 10). never (ap crowded (sym n) ∙ uncrowded x h c g alive some few),
      early x h c g alive some few,
    )

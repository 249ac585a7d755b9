-- Applying a snapshot changes the master and the transport alone, and one that is applied as soon as it is taken changes nothing that it tells. Assumes nothing.
use mathlib.Core.Path.{◌≡◌, refl, sym, ap}
use mathlib.Core.Bool.{Bool, true, false, not, ◌||◌, cond}
use mathlib.Core.Logic.{◌⊎◌, inl, inr}
use mathlib.Core.List.{List}
use Prim.Native.Nat.{ℕ, min}
use native.Mathlib.Omega.{arith}
use lib.Ieee.{Float, lt, le, eq}
use Rattle.ramp.specs.declared.Ramp.{Ramp}
use Rattle.ramp.specs.Number.{zero32, not_below}
use Rattle.transport.specs.declared.Transport.{Transport}
use Rattle.stage.specs.Playhead.{playhead}
use Rattle.stage.specs.Sound.{sound}
use Rattle.session.specs.declared.Session.{Session}
use Rattle.session.specs.declared.Answered.{Answered}
use Rattle.session.specs.Session.{with_stage, extent_now}
use Rattle.session.specs.WellFormed.{well_formed}
use Rattle.session.specs.Answer.{gives, says, answered}
use Rattle.session.specs.Reading.{position_of, transport_state_of, master_gain_of, loop_range_of}
use Rattle.session.proofs.Parts.{Parts, parts}
use Rattle.session.proofs.Refuse.{skip, unless_fine, unless_both}
use Rattle.control.specs.declared.PerformanceSnapshot.{PerformanceSnapshot}
use Rattle.control.specs.Snapshot.{snapped, weigh_apply, stage_by, apply_of}
use Rattle.std.specs.Prelude.{Ok}

-- another master and another transport; clock, song, tail, voices, counters, queue, bank and desk as they were
abbrev pub steered : Session → Ramp → Transport → Session
steered s g t =
    with_stage s (
    record {
      clock = s.stage.clock;
      playhead = playhead t s.stage.playhead.song;
      sound = sound g s.stage.sound.fade.tail s.stage.sound.voices;
      counters = s.stage.counters;
    })
    s.queued

-- applying a snapshot changes the master and the transport alone
pub apply_only : (s : Session) (q c : List ℕ) (x : PerformanceSnapshot) → (g : Ramp) × (t : Transport) × ((apply_of s q c x).session ≡ steered s g t)
unfolding apply_of
apply_only s q c x =
    unless_both {A = Answered (Unit {0})} _ _ _ (λ a. (g : Ramp) × (t : Transport) × (a.session ≡ steered s g t))
    (λ k. (s.stage.sound.master, s.stage.playhead.transport, refl))
    (λ fine. (_, _, refl))

-- a gain that is not below 0 is taken as it is, but for a 0, which is taken as +0.0
pub not_below_is : (g : Float) → le zero32 g ≡ true → (not_below g ≡ g) ⊎ (eq zero32 g ≡ true) × (not_below g ≡ zero32)
unfolding le
not_below_is g e = go (lt zero32 g) e
  where
    go : (b : Bool) → b || eq zero32 g ≡ true → (cond b g zero32 ≡ g) ⊎ (eq zero32 g ≡ true) × (cond b g zero32 ≡ zero32)
    go true e = inl refl
    go false e = inr (e, refl)

-- one that is not refused sets the stage
pub apply_done : (s : Session) (q c : List ℕ) (x : PerformanceSnapshot) → weigh_apply s q c x ≡ Ok tt
    → apply_of s q c x ≡ answered (Ok tt) (with_stage s (stage_by (extent_now s) x s.stage) s.queued)
unfolding apply_of
apply_done s q c x = unless_fine (weigh_apply s q c x) _ _

module _ (s : Session) (q c : List ℕ) (formed : well_formed s q c ≡ true) where
  fine : weigh_apply s q c (snapped s) ≡ Ok tt
  unfolding weigh_apply
  fine = sym (skip _ _ _ _ (ap not formed) (skip _ _ _ _ (ap not (parts s q c formed).master_target) refl))

  -- a snapshot that was just taken is not refused,
  pub back_gives : says (apply_of s q c (snapped s)).answer ≡ gives tt
  back_gives = rw (apply_done s q c (snapped s) fine)

  -- and leaves position, state, loop and the master's target, a target of -0.0 as +0.0
  pub back_same : snapped (apply_of s q c (snapped s)).session
      ≡ record { position = position_of s; state = transport_state_of s; gain = not_below (master_gain_of s); looped = loop_range_of s }
  back_same =
      let p : Parts s q c = parts s q c formed in
      let here : min s.stage.playhead.transport.position.0 (extent_now s) ≡ s.stage.playhead.transport.position.0 = omega (arith, p.position) in
      simp (apply_done s q c (snapped s) fine, p.looped, here)

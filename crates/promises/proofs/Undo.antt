-- Snapshots applied one after the other. Assumes nothing.
use mathlib.Core.Path.{◌≡◌, refl, sym, ap, ◌∙◌}
use mathlib.Core.Bool.{true, false}
use mathlib.Core.Logic.{◌⊎◌, inl, inr}
use Rattle.counts.proofs.Truth.{two_ways}
use Rattle.session.specs.declared.Answered.{Answered}
use Rattle.session.specs.Session.{with_stage, extent_now}
use Rattle.session.specs.Answer.{says}
use Rattle.session.proofs.Refuse.{unless_both}
use Rattle.control.specs.declared.PerformanceSnapshot.{PerformanceSnapshot}
use Rattle.control.specs.Snapshot.{weigh_apply, stage_by, apply_of}
use Rattle.control.proofs.Kept.{apply_weighs}
use Rattle.control.proofs.Apply.{apply_only, apply_done}
use Rattle.promises.specs.Calls.{State, apply, with_session, code, refusal, after}
use Rattle.promises.specs.Undo.{AnswersAlike, AppliedTwice, fits_now, LastApplied, LoopRemains}
use Rattle.promises.proofs.Fine.{zero_fine, weighed_number, says_weighed}

-- what applying answers is what it weighs
apply_says : (t : PerformanceSnapshot) (x : State) → refusal (apply t) x ≡ weighed_number (weigh_apply x.session x.queue x.capture t)
unfolding apply_of
apply_says t x = says_weighed {A = Answered (Unit {0})} _ _ _ (λ a. code (says a.answer)) (λ k. refl) refl

pub answers_alike : AnswersAlike
answers_alike s t x =
    apply_says t (after (apply s) x) ∙ ap weighed_number (apply_weighs x.session x.queue x.capture s t) ∙ sym (apply_says t x)

-- a snapshot leaves everything, or is accepted
left_or_accepted : (s : PerformanceSnapshot) (x : State) → (after (apply s) x ≡ x) ⊎ (refusal (apply s) x ≡ 0)
unfolding apply_of
left_or_accepted s x = unless_both {A = Answered (Unit {0})} _ _ _ (λ a. (with_session x a.session ≡ x) ⊎ (code (says a.answer) ≡ 0)) (λ k. inl refl) (λ fine. inr refl)

-- one that is accepted sets the stage
sets : (t : PerformanceSnapshot) (x : State) → refusal (apply t) x ≡ 0
    → (after (apply t) x).session ≡ with_stage x.session (stage_by (extent_now x.session) t x.session.stage) x.session.queued
unfolding apply_of
sets t x r =
    ap (λ (a : Answered (Unit {0})). a.session)
    (apply_done x.session x.queue x.capture t (zero_fine {A = Answered (Unit {0})} _ _ _ (λ a. code (says a.answer)) (λ k. refl) r))

-- all that another could have changed, but for a loop of its own that does not fit
pub last_applied : LastApplied
last_applied s t x r p = rw (sets t (after (apply s) x) (answers_alike s t x ∙ r), sets t x r, (apply_only x.session x.queue x.capture s).2, p)

pub loop_remains : LoopRemains
loop_remains s t x r p = rw (sets t (after (apply s) x) (answers_alike s t x ∙ r), sets t x r, (apply_only x.session x.queue x.capture s).2, p)

-- as one that is applied over itself
pub applied_twice : AppliedTwice
applied_twice s x = go (left_or_accepted s x) (two_ways (fits_now x s))
  where
    go : (after (apply s) x ≡ x) ⊎ (refusal (apply s) x ≡ 0) → (fits_now x s ≡ true) ⊎ (fits_now x s ≡ false) → after (apply s) (after (apply s) x) ≡ after (apply s) x
    go (inl left) f = ap (after (apply s)) left
    go (inr r) (inl p) = last_applied s s x r p
    go (inr r) (inr p) = loop_remains s s x r p

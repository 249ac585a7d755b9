-- A host that lends what the call before left is never refused with 1 or 2. Assumes nothing.
use mathlib.Core.Path.{◌≡◌, refl, sym, ap, ◌∙◌}
use mathlib.Core.Logic.{◌≢◌}
use mathlib.Core.Bool.{Bool, true, false, not}
use mathlib.Core.List.{List}
use Prim.Native.Nat.{ℕ, ◌<◌}
use native.Mathlib.Omega.{arith}
use lib.Dec.{leb}
use lib.Ieee.{Float}
use borrow.Author.Tests.{leb-false}
use Rattle.counts.specs.declared.SongFrame.{SongFrame}
use Rattle.counts.specs.declared.Handle.{Handle}
use Rattle.timeline.specs.declared.Command.{Command}
use Rattle.timeline.specs.declared.Submission.{Submission}
use Rattle.bank.specs.declared.Kind.{Kind}
use Rattle.bank.specs.declared.Stands.{Stands}
use Rattle.bank.specs.Sample.{is_pool}
use Rattle.session.specs.declared.Session.{Session}
use Rattle.session.specs.declared.Refusal.{Refusal}
use Rattle.session.specs.declared.Answered.{Answered}
use Rattle.session.specs.Refusal.{number_of, unless}
use Rattle.session.specs.WellFormed.{well_formed, weigh_only}
use Rattle.session.specs.Answer.{says}
use Rattle.session.proofs.Refuse.{numbered, other, passes, refused_or_done}
use Rattle.block.specs.Block.{weigh_block, block_of}
use Rattle.clips.specs.Load.{weigh_load, load_of}
use Rattle.clips.specs.Retire.{weigh_retire, retire_of}
use Rattle.submission.specs.declared.Scales.{Scales}
use Rattle.submission.specs.Weigh.{weigh_command}
use Rattle.submission.specs.Submit.{weigh_submit, taken, submit_of}
use Rattle.submission.specs.Transition.{weigh_transition, transition_of}
use Rattle.submission.specs.Replay.{replay_of}
use Rattle.control.specs.declared.PerformanceSnapshot.{PerformanceSnapshot}
use Rattle.control.specs.Capture.{weigh_stop, start_capture_of, stop_capture_of}
use Rattle.control.specs.Snapshot.{snapshot_of, weigh_apply, apply_of}
use Rattle.control.specs.Metrics.{metrics_of}
use Rattle.promises.specs.Calls.{State, Call, load, retire, submit, transition, block, pump, start_capture, stop_capture, replay, snapshot, apply, metrics, code, refusal}
use Rattle.promises.specs.Kept.{Good, NeverIllFormed}
use Rattle.promises.proofs.Pumping.{pump_step}
use Rattle.promises.proofs.Kept.{reached_good}
use Rattle.std.specs.Prelude.{Result}
use Rattle.submission.specs.declared.Report.{Report}
use Rattle.control.specs.declared.PerformanceMetrics.{PerformanceMetrics}

-- ---- a chain of refusals that gives neither 1 nor 2

-- 1 or 2
abbrev low : ℕ → Bool
low n = leb n 2

-- it gives one of them
abbrev ill : Result (Unit {0}) Refusal → Bool
ill = numbered low

command_other : (w : Scales) (h : Stands) (x : Command) → ill (weigh_command w h x) ≡ false
unfolding weigh_command
command_other w h x = other low _ _ _ refl (other low _ _ _ refl (other low _ _ _ refl (other low _ _ _ refl (other low _ _ _ refl (other low _ _ _ refl (other low _ _ _ refl (other low _ _ _ refl (other low _ _ _ refl (refl)))))))))

module _ (s : Session) (q c : List ℕ) (formed : well_formed s q c ≡ true) where
  only_other : ill (weigh_only s q c) ≡ false
  unfolding weigh_only
  only_other = passes low _ _ _ (ap not formed) (refl)

  retire_other : (h : Handle) → ill (weigh_retire s q c h) ≡ false
  unfolding weigh_retire
  retire_other h = passes low _ _ _ (ap not formed) (other low _ _ _ refl (other low _ _ _ refl (refl)))

  submit_other : (y : Submission) → ill (weigh_submit s q c y) ≡ false
  unfolding weigh_submit
  submit_other y = passes low _ _ _ (ap not formed) ((command_other _ _ _))

  transition_other : (f : SongFrame) → ill (weigh_transition s q c f) ≡ false
  unfolding weigh_transition
  transition_other f = passes low _ _ _ (ap not formed) ((command_other _ _ _))

  stop_other : (list : List ℕ) → ill (weigh_stop s q c list) ≡ false
  unfolding weigh_stop
  stop_other list = passes low _ _ _ (ap not formed) (other low _ _ _ refl (refl))

  apply_other : (y : PerformanceSnapshot) → ill (weigh_apply s q c y) ≡ false
  unfolding weigh_apply
  apply_other y = passes low _ _ _ (ap not formed) (other low _ _ _ refl (refl))

  module _ (pool : List Float) (lent : is_pool pool s.settings.pool ≡ true) where
    load_other : (samples : List Float) (kind : Kind) (rate : ℕ) → ill (weigh_load s q c pool samples kind rate) ≡ false
    unfolding weigh_load
    load_other samples kind rate = passes low _ _ _ (ap not formed) (passes low _ _ _ (ap not lent) (other low _ _ _ refl (other low _ _ _ refl (other low _ _ _ refl (other low _ _ _ refl (other low _ _ _ refl (other low _ _ _ refl (other low _ _ _ refl (refl)))))))))

    block_other : (out : List Float) → ill (weigh_block s q c pool out) ≡ false
    unfolding weigh_block
    block_other out = passes low _ _ _ (ap not formed) (passes low _ _ _ (ap not lent) (other low _ _ _ refl (other low _ _ _ refl (refl))))

-- ---- so no call gives one of them

-- of what a call says
abbrev Neither : ℕ → Type 0
Neither n = (n ≢ 1) × (n ≢ 2)

neither : {A : Type 0} (w : Result (Unit {0}) Refusal) (refusal : Refusal → A) (done : A) (told : A → ℕ) → ill w ≡ false → ((k : Refusal) → told (refusal k) ≡ number_of k) → told done ≡ 0
    → Neither (told (unless w refusal done))
neither w refusal done told e f g =
    refused_or_done w refusal done (λ z. Neither (told z))
    (λ k r. let high : 2 < number_of k = leb-false (number_of k) 2 (ap ill (sym r) ∙ e) in
    (λ (h : told (refusal k) ≡ 1). omega (arith, f k), λ (h : told (refusal k) ≡ 2). omega (arith, f k)))
    (λ fine. (λ (h : told done ≡ 1). omega arith, λ (h : told done ≡ 2). omega arith))

block_neither : (out : List Float) (x : State) → Good x → Neither (refusal (block out) x)
unfolding block_of
block_neither out x g =
    neither {A = Answered ℕ × List Float} _ _ _ (λ z. code (says z.0.answer)) (block_other x.session x.queue x.capture g.formed x.pool g.pooled out) (λ k. refl) refl

step_neither : (k : Call) (x : State) → Good x → Neither (refusal k x)
unfolding load_of retire_of submit_of taken transition_of block_of start_capture_of stop_capture_of replay_of snapshot_of apply_of metrics_of
step_neither (load samples kind rate) x g =
    neither {A = Answered Handle × List Float} _ _ _ (λ z. code (says z.0.answer)) (load_other x.session x.queue x.capture g.formed x.pool g.pooled samples kind rate)
    (λ k. refl) refl
step_neither (retire h) x g = neither {A = Answered (Unit {0})} _ _ _ (λ z. code (says z.answer)) (retire_other x.session x.queue x.capture g.formed h) (λ k. refl) refl
step_neither (submit y at) x g =
    neither {A = Answered ℕ × List ℕ × List ℕ} _ _ _ (λ z. code (says z.0.answer)) (submit_other x.session x.queue x.capture g.formed y) (λ k. refl) refl
step_neither (transition f at) x g =
    neither {A = Answered ℕ × List ℕ × List ℕ} _ _ _ (λ z. code (says z.0.answer)) (transition_other x.session x.queue x.capture g.formed f) (λ k. refl) refl
step_neither (block out) x g = block_neither out x g
step_neither (pump f n) x g = pump_step x f n (λ m y. Neither m) (λ out. block_neither out x g) (λ (e : ◌≡◌ {A = ℕ} 23 1). omega arith, λ (e : ◌≡◌ {A = ℕ} 23 2). omega arith)
step_neither start_capture x g = neither {A = Answered (Unit {0})} _ _ _ (λ z. code (says z.answer)) (only_other x.session x.queue x.capture g.formed) (λ k. refl) refl
step_neither (stop_capture list) x g =
    neither {A = Answered ℕ × List ℕ} _ _ _ (λ z. code (says z.0.answer)) (stop_other x.session x.queue x.capture g.formed list) (λ k. refl) refl
step_neither (replay list) x g =
    neither {A = Answered Report × List ℕ} _ _ _ (λ z. code (says z.0.answer)) (only_other x.session x.queue x.capture g.formed) (λ k. refl) refl
step_neither snapshot x g = neither {A = Answered PerformanceSnapshot} _ _ _ (λ z. code (says z.answer)) (only_other x.session x.queue x.capture g.formed) (λ k. refl) refl
step_neither (apply y) x g = neither {A = Answered (Unit {0})} _ _ _ (λ z. code (says z.answer)) (apply_other x.session x.queue x.capture g.formed y) (λ k. refl) refl
step_neither metrics x g = neither {A = Answered PerformanceMetrics} _ _ _ (λ z. code (says z.answer)) (only_other x.session x.queue x.capture g.formed) (λ k. refl) refl

-- in a state reached from opening no call gives 1 or 2
pub never_ill_formed : NeverIllFormed
never_ill_formed k x r = step_neither k x (reached_good x r)

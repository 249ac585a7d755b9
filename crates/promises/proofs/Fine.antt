-- A call that is not refused weighs Fine, and what a call says is what it weighs. Assumes nothing.
use mathlib.Core.Path.{◌≡◌, refl, sym, ap, ◌∙◌}
use mathlib.Core.Bool.{true}
use mathlib.Core.List.{List}
use Prim.Native.Nat.{ℕ, ◌≤◌}
use native.Mathlib.Omega.{arith}
use lib.Ieee.{Float}
use Rattle.counts.specs.declared.Handle.{Handle}
use Rattle.timeline.specs.declared.Submission.{Submission}
use Rattle.transport.specs.declared.At.{At}
use Rattle.session.specs.declared.Refusal.{Refusal}
use Rattle.session.specs.declared.Answered.{Answered}
use Rattle.session.specs.Refusal.{number_of, unless}
use Rattle.session.specs.Answer.{says}
use Rattle.session.proofs.Refuse.{number_some, refused_or_done}
use Rattle.block.specs.Block.{block_of}
use Rattle.block.proofs.Weigh.{Accepted, accepted, block_done_law}
use Rattle.clips.specs.Retire.{weigh_retire, retire_of}
use Rattle.submission.specs.Submit.{weigh_submit, taken, submit_of}
use Rattle.submission.specs.Order as order
use Rattle.promises.specs.Calls.{State, retire, submit, block, code, refusal}
use Rattle.std.specs.Prelude.{Result, Ok, Err}

-- a call that says 0 weighs Fine
pub zero_fine : {A : Type 0} (w : Result (Unit {0}) Refusal) (refusal : Refusal → A) (done : A) (told : A → ℕ) → ((k : Refusal) → told (refusal k) ≡ number_of k)
    → told (unless w refusal done) ≡ 0 → w ≡ Ok tt
zero_fine w refusal done told e =
    refused_or_done w refusal done (λ z. told z ≡ 0 → w ≡ Ok tt) (λ k r z. absurd (none (told (refusal k)) k (e k) z)) (λ fine z. fine)
  where
    none : (n : ℕ) (k : Refusal) → n ≡ number_of k → n ≡ 0 → ⊥
    none n k e z = let l : 1 ≤ number_of k = number_some k in omega arith

-- and so does a retirement
pub retire_weighs : (h : Handle) (x : State) → refusal (retire h) x ≡ 0 → weigh_retire x.session x.queue x.capture h ≡ Ok tt
unfolding retire_of
retire_weighs h x = zero_fine {A = Answered (Unit {0})} _ _ _ (λ a. code (says a.answer)) (λ k. refl)

-- two calls that weigh the same: both are refused alike, or both do what they do
pub both : {A B : Type 0} (w : Result (Unit {0}) Refusal) (refusal : Refusal → A) (done : A) (refusal' : Refusal → B) (done' : B) (P : A → B → Type 0)
    → ((k : Refusal) → P (refusal k) (refusal' k)) → P done done' → P (unless w refusal done) (unless w refusal' done')
unfolding unless
both (Ok tt) r d r' d' P f g = g
both (Err k) r d r' d' P f g = f k

module _ (x : State) (out : List Float) where
  -- a block that says 0 is accepted,
  pub block_accepts : refusal (block out) x ≡ 0 → Accepted x.session x.queue x.capture x.pool out
  unfolding block_of
  block_accepts e =
      accepted x.session x.queue x.capture x.pool out (zero_fine {A = Answered ℕ × List Float} _ _ _ (λ z. code (says z.0.answer)) (λ k. refl) e)

  -- and one that is accepted says 0
  pub block_says_law : Accepted x.session x.queue x.capture x.pool out → refusal (block out) x ≡ 0
  block_says_law a = rw (block_done_law x.session x.queue x.capture x.pool out a)

-- an answer that is no refusal has a number
pub accepts : (r : Result ℕ Refusal) → code (says r) ≡ 0 → order.accepted r ≡ true
accepts (Ok n) e = refl
accepts (Err k) e = let some : 1 ≤ number_of k = number_some k in absurd (omega arith)

-- the number of the refusal that was weighed, 0 for none,
abbrev pub weighed_number : Result (Unit {0}) Refusal → ℕ
weighed_number (Ok tt) = 0
weighed_number (Err k) = number_of k

-- is what a call says,
pub says_weighed : {A : Type 0} (w : Result (Unit {0}) Refusal) (refusal : Refusal → A) (done : A) (told : A → ℕ) → ((k : Refusal) → told (refusal k) ≡ number_of k) → told done ≡ 0
    → told (unless w refusal done) ≡ weighed_number w
says_weighed w refusal done told says none =
    refused_or_done w refusal done (λ a. told a ≡ weighed_number w) (λ k e. says k ∙ sym (ap weighed_number e)) (λ e. none ∙ sym (ap weighed_number e))

-- and so what a submission answers
pub submit_says : (x : State) (y : Submission) (at : At) → refusal (submit y at) x ≡ weighed_number (weigh_submit x.session x.queue x.capture y)
unfolding submit_of taken
submit_says x y at = says_weighed {A = Answered ℕ × List ℕ × List ℕ} _ _ _ (λ z. code (says z.0.answer)) (λ k. refl) refl

-- A refused call leaves session and stores, but for the dropped count at 15. Assumes nothing.
use mathlib.Core.Path.{◌≡◌, refl, sym, ap, ◌∙◌}
use mathlib.Core.Logic.{◌≢◌}
use mathlib.Core.Bool.{Bool, false, not}
use mathlib.Core.List.{List}
use Prim.Native.Nat.{ℕ}
use lib.Dec.{eqb}
use lib.Ieee.{Float}
use Rattle.counts.proofs.Truth.{not_false}
use Rattle.session.specs.declared.Session.{Session}
use Rattle.session.specs.declared.Refusal.{Refusal}
use Rattle.session.specs.declared.Answered.{Answered}
use Rattle.session.specs.Refusal.{number_of, first, unless}
use Rattle.session.specs.Answer.{says}
use Rattle.session.specs.WellFormed.{well_formed, weigh_only}
use Rattle.session.proofs.Refuse.{stop, unless_refused, refused_or_done, unless_both}
use Rattle.block.specs.Block.{weigh_block, block_of}
use Rattle.pump.specs.declared.Pumped.{Pumped}
use Rattle.pump.specs.Pump.{says_pump, weigh_pump, pump_of}
use Rattle.clips.specs.Open.{no_session, open_of}
use Rattle.clips.specs.Load.{weigh_load, load_of}
use Rattle.clips.specs.Retire.{weigh_retire, retire_of}
use Rattle.clips.proofs.Opened.{none_formed}
use Rattle.submission.specs.Submit.{weigh_submit, taken, submit_of}
use Rattle.submission.specs.Transition.{weigh_transition, transition_of}
use Rattle.submission.specs.Replay.{replay_of}
use Rattle.submission.proofs.Left.{turned_away_law}
use Rattle.control.specs.Capture.{weigh_stop, start_capture_of, stop_capture_of}
use Rattle.control.specs.Snapshot.{snapshot_of, weigh_apply, apply_of}
use Rattle.control.specs.Metrics.{metrics_of}
use Rattle.host.proofs.Under.{full, load_other, retire_other, block_other, only_other, stop_other, apply_other}
use Rattle.promises.specs.Calls.{State, Feed, Call, load, retire, submit, transition, block, pump, start_capture, stop_capture, replay, snapshot, apply, metrics, with_session, state, code, refusal, after, out_of, feed_of, Opening, opened}
use Rattle.promises.specs.Refused.{counted_by, list_of, Refused}
use Rattle.promises.proofs.Pumping.{pump_step}
use Rattle.std.specs.Prelude.{Result}
use Rattle.counts.specs.declared.Handle.{Handle}
use Rattle.submission.specs.declared.Report.{Report}
use Rattle.control.specs.declared.PerformanceSnapshot.{PerformanceSnapshot}
use Rattle.control.specs.declared.PerformanceMetrics.{PerformanceMetrics}

-- ---- what is left

-- a number other than 15 counts nothing
uncounted : (n : ℕ) (s : Session) → eqb n 15 ≡ false → counted_by n s ≡ s
uncounted n s e = rw e

module _ {A : Type 0} (w : Result (Unit {0}) Refusal) (refusal : Refusal → A) (done : A) (told : A → ℕ) (left : A → State) (x : State)
    (says : (k : Refusal) → told (refusal k) ≡ number_of k) (fine : told done ≡ 0) where
  -- where each refusal leaves what its number counts, so does the call,
  counts : ((k : Refusal) → left (refusal k) ≡ with_session x (counted_by (number_of k) x.session))
      → told (unless w refusal done) ≢ 0 → left (unless w refusal done) ≡ with_session x (counted_by (told (unless w refusal done)) x.session)
  counts g =
      refused_or_done w refusal done (λ a. told a ≢ 0 → left a ≡ with_session x (counted_by (told a) x.session))
      (λ k r n. g k ∙ ap (λ (m : ℕ). with_session x (counted_by m x.session)) (sym (says k))) (λ f n. absurd (n fine))

  -- and where the queue is not full and each leaves everything, so does the call
  leaves : full w ≡ false → ((k : Refusal) → left (refusal k) ≡ x)
      → told (unless w refusal done) ≢ 0 → left (unless w refusal done) ≡ with_session x (counted_by (told (unless w refusal done)) x.session)
  leaves e g =
      refused_or_done w refusal done (λ a. told a ≢ 0 → left a ≡ with_session x (counted_by (told a) x.session))
      (λ k r n. g k ∙ sym (ap (with_session x) (uncounted (told (refusal k)) x.session (ap (λ (m : ℕ). eqb m 15) (says k) ∙ ap full (sym r) ∙ e)))) (λ f n. absurd (n fine))

-- what a refused call gives for what it was lent
pub lent_back : {A B : Type 0} (w : Result (Unit {0}) Refusal) (refusal : Refusal → A) (done : A) (told : A → ℕ) (lent : A → B) (b : B) → told done ≡ 0 → ((k : Refusal) → lent (refusal k) ≡ b)
    → told (unless w refusal done) ≢ 0 → lent (unless w refusal done) ≡ b
lent_back w refusal done told lent b fine g = unless_both w refusal done (λ a. told a ≢ 0 → lent a ≡ b) (λ k n. g k) (λ f n. absurd (n fine))

block_refused : (out : List Float) (x : State) → refusal (block out) x ≢ 0 → after (block out) x ≡ with_session x (counted_by (refusal (block out) x) x.session)
unfolding block_of
block_refused out x =
    leaves {A = Answered ℕ × List Float} _ _ _ (λ z. code (says z.0.answer)) (λ z. with_session x z.0.session) x (λ k. refl) refl
    (block_other x.session x.queue x.capture x.pool out) (λ k. refl)

step_refused : (k : Call) (x : State) → refusal k x ≢ 0 → after k x ≡ with_session x (counted_by (refusal k x) x.session)
unfolding load_of retire_of submit_of taken transition_of block_of start_capture_of stop_capture_of replay_of snapshot_of apply_of metrics_of
step_refused (load samples kind rate) x =
    leaves {A = Answered Handle × List Float} _ _ _ (λ z. code (says z.0.answer)) (λ z. state z.0.session x.queue x.capture z.1) x (λ k. refl) refl
    (load_other x.session x.queue x.capture x.pool samples kind rate) (λ k. refl)
step_refused (retire h) x =
    leaves {A = Answered (Unit {0})} _ _ _ (λ z. code (says z.answer)) (λ z. with_session x z.session) x (λ k. refl) refl (retire_other x.session x.queue x.capture h) (λ k. refl)
step_refused (submit y at) x =
    counts {A = Answered ℕ × List ℕ × List ℕ} _ _ _ (λ z. code (says z.0.answer)) (λ z. state z.0.session z.1 z.2 x.pool) x (λ k. refl) refl
    (λ k. ap (with_session x) (turned_away_law k x.session))
step_refused (transition f at) x =
    counts {A = Answered ℕ × List ℕ × List ℕ} _ _ _ (λ z. code (says z.0.answer)) (λ z. state z.0.session z.1 z.2 x.pool) x (λ k. refl) refl
    (λ k. ap (with_session x) (turned_away_law k x.session))
step_refused (block out) x = block_refused out x
step_refused (pump f n) x = pump_step x f n (λ m y. m ≢ 0 → y ≡ with_session x (counted_by m x.session)) (λ out. block_refused out x) (λ m. refl)
step_refused start_capture x =
    leaves {A = Answered (Unit {0})} _ _ _ (λ z. code (says z.answer)) (λ z. with_session x z.session) x (λ k. refl) refl (only_other x.session x.queue x.capture) (λ k. refl)
step_refused (stop_capture list) x =
    leaves {A = Answered ℕ × List ℕ} _ _ _ (λ z. code (says z.0.answer)) (λ z. with_session x z.0.session) x (λ k. refl) refl
    (stop_other x.session x.queue x.capture list) (λ k. refl)
step_refused (replay list) x =
    leaves {A = Answered Report × List ℕ} _ _ _ (λ z. code (says z.0.answer)) (λ z. state z.0.session z.1 x.capture x.pool) x (λ k. refl) refl
    (only_other x.session x.queue x.capture) (λ k. refl)
step_refused snapshot x =
    leaves {A = Answered PerformanceSnapshot} _ _ _ (λ z. code (says z.answer)) (λ z. with_session x z.session) x (λ k. refl) refl
    (only_other x.session x.queue x.capture) (λ k. refl)
step_refused (apply y) x =
    leaves {A = Answered (Unit {0})} _ _ _ (λ z. code (says z.answer)) (λ z. with_session x z.session) x (λ k. refl) refl (apply_other x.session x.queue x.capture y) (λ k. refl)
step_refused metrics x =
    leaves {A = Answered PerformanceMetrics} _ _ _ (λ z. code (says z.answer)) (λ z. with_session x z.session) x (λ k. refl) refl
    (only_other x.session x.queue x.capture) (λ k. refl)

-- ---- what is not well formed is refused with 1

ones : {A : Type 0} (t : Bool) (rest : Result (Unit {0}) Refusal) (refusal : Refusal → A) (done : A) (told : A → ℕ) → t ≡ false → ((k : Refusal) → told (refusal k) ≡ number_of k)
    → told (unless (first (not t) Refusal.NotWellFormed rest) refusal done) ≡ 1
ones t rest refusal done told e says =
    ap told (unless_refused (first (not t) Refusal.NotWellFormed rest) refusal done Refusal.NotWellFormed (sym (stop (not t) Refusal.NotWellFormed rest (not_false e))))
    ∙ says Refusal.NotWellFormed

ill_formed : (k : Call) (x : State) → well_formed x.session x.queue x.capture ≡ false → refusal k x ≡ 1
unfolding load_of retire_of submit_of taken transition_of block_of pump_of start_capture_of stop_capture_of replay_of snapshot_of apply_of metrics_of weigh_load weigh_retire weigh_submit weigh_transition weigh_block weigh_pump weigh_only weigh_stop weigh_apply
ill_formed (load samples kind rate) x e = ones {A = Answered Handle × List Float} _ _ _ _ (λ z. code (says z.0.answer)) e (λ k. refl)
ill_formed (retire h) x e = ones {A = Answered (Unit {0})} _ _ _ _ (λ z. code (says z.answer)) e (λ k. refl)
ill_formed (submit y at) x e = ones {A = Answered ℕ × List ℕ × List ℕ} _ _ _ _ (λ z. code (says z.0.answer)) e (λ k. refl)
ill_formed (transition f at) x e = ones {A = Answered ℕ × List ℕ × List ℕ} _ _ _ _ (λ z. code (says z.0.answer)) e (λ k. refl)
ill_formed (block out) x e = ones {A = Answered ℕ × List Float} _ _ _ _ (λ z. code (says z.0.answer)) e (λ k. refl)
ill_formed (pump f n) x e = ones {A = Pumped × List Float} _ _ _ _ (λ z. code (says_pump z.0.answer)) e (λ k. refl)
ill_formed start_capture x e = ones {A = Answered (Unit {0})} _ _ _ _ (λ z. code (says z.answer)) e (λ k. refl)
ill_formed (stop_capture list) x e = ones {A = Answered ℕ × List ℕ} _ _ _ _ (λ z. code (says z.0.answer)) e (λ k. refl)
ill_formed (replay list) x e = ones {A = Answered Report × List ℕ} _ _ _ _ (λ z. code (says z.0.answer)) e (λ k. refl)
ill_formed snapshot x e = ones {A = Answered PerformanceSnapshot} _ _ _ _ (λ z. code (says z.answer)) e (λ k. refl)
ill_formed (apply y) x e = ones {A = Answered (Unit {0})} _ _ _ _ (λ z. code (says z.answer)) e (λ k. refl)
ill_formed metrics x e = ones {A = Answered PerformanceMetrics} _ _ _ _ (λ z. code (says z.answer)) e (λ k. refl)

-- ---- all of it

output_refused : (x : State) (out : List Float) → refusal (block out) x ≢ 0 → out_of x out ≡ out
unfolding block_of
output_refused x out = lent_back {A = Answered ℕ × List Float} _ _ _ (λ z. code (says z.0.answer)) (λ z. z.1) out refl (λ k. refl)

feed_refused : (x : State) (f : Feed) (n : ℕ) → refusal (pump f n) x ≢ 0 → feed_of x f n ≡ f
unfolding pump_of
feed_refused x f n =
    lent_back {A = Pumped × List Float} {B = Feed} _ _ _ (λ z. code (says_pump z.0.answer)) (λ z. record { ring = z.0.ring; store = z.1 }) f refl (λ k. refl)

list_refused : (x : State) (list : List ℕ) → refusal (stop_capture list) x ≢ 0 → list_of x list ≡ list
unfolding stop_capture_of
list_refused x list = lent_back {A = Answered ℕ × List ℕ} _ _ _ (λ z. code (says z.0.answer)) (λ z. z.1) list refl (λ k. refl)

open_left : (o : Opening) → (opened o).0 ≢ 0 → ◌≡◌ {A = Session × List Float} ((opened o).1.session, (opened o).1.pool) (no_session, o.pool)
unfolding open_of
open_left o = lent_back {A = Answered Handle × List Float} _ _ _ (λ z. code (says z.0.answer)) (λ z. (z.0.session, z.1)) (no_session, o.pool) refl (λ k. refl)

pub refused : Refused
refused =
    record {
      state = step_refused;
      output = output_refused;
      feed = feed_refused;
      list = list_refused;
      opening = λ o n. (
        refl,
        refl,
        ap (λ (z : Session × List Float). z.1) (open_left o n),
        λ k.
            ill_formed k (opened o).1 (ap (λ (z : Session × List Float). well_formed z.0 o.queue o.capture) (open_left o n) ∙ none_formed o.queue o.capture),
      );
    }

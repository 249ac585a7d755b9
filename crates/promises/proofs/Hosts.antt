-- What a host has reached stands for a reached state; each exported function does its call there, and a refused one changes nothing. Assumes nothing.
use mathlib.Core.Path.{◌≡◌, refl, sym, ap, ◌∙◌, subst}
use mathlib.Core.Logic.{◌⊎◌, inl, inr, ◌≢◌}
use mathlib.Core.Bool.{true, false}
use mathlib.Core.List.{List}
use Prim.Native.Nat.{ℕ, zero, suc, ◌+◌, ◌-◌, ◌^◌, min}
use native.Mathlib.Omega.{arith}
use borrow.Author.Tests.{ne_eqb}
use lib.Dec.{eqb}
use lib.Ieee.{Float}
use Rattle.counts.specs.declared.Handle.{Handle}
use Rattle.counts.proofs.Truth.{two_ways, never, cond_both}
use Rattle.session.specs.declared.Session.{Session}
use Rattle.session.specs.Refusal.{number_of}
use Rattle.session.specs.Answer.{Says}
use Rattle.session.proofs.Refuse.{unless_both}
use Rattle.block.specs.Block.{block_of}
use Rattle.ring.specs.declared.SampleRing.{SampleRing}
use Rattle.pump.specs.Pump.{pump_of}
use Rattle.session.specs.declared.Answered.{Answered}
use Rattle.clips.specs.Open.{no_session, open_of}
use Rattle.clips.specs.Load.{load_of}
use Rattle.clips.specs.Retire.{retire_of}
use Rattle.submission.specs.Submit.{taken, submit_of}
use Rattle.submission.specs.Transition.{transition_of}
use Rattle.submission.specs.Replay.{replay_of}
use Rattle.control.specs.Capture.{start_capture_of, stop_capture_of}
use Rattle.control.specs.Snapshot as control
use Rattle.control.specs.Metrics.{metrics_of}
use Rattle.submission.specs.declared.Report.{Report}
use Rattle.control.specs.declared.PerformanceSnapshot.{PerformanceSnapshot}
use Rattle.control.specs.declared.PerformanceMetrics.{PerformanceMetrics}
use Rattle.host.specs.declared.HostSession.{HostSession}
use Rattle.host.specs.declared.HostAnswered.{HostAnswered}
use Rattle.host.specs.declared.HostLoaded.{HostLoaded}
use Rattle.host.specs.declared.HostSubmitted.{HostSubmitted}
use Rattle.host.specs.declared.HostBlocked.{HostBlocked}
use Rattle.host.specs.declared.HostPumped.{HostPumped}
use Rattle.host.specs.declared.HostReplayed.{HostReplayed}
use Rattle.host.specs.declared.HostStopped.{HostStopped}
use Rattle.host.specs.declared.HostSnapped.{HostSnapped}
use Rattle.host.specs.declared.HostMetrics.{HostMetrics}
use Rattle.host.specs.Kept.{kinds_ok, is_session, host_of}
use Rattle.host.specs.Answers.{says_by, with_dropped, turned, weigh_host, unless as unless_host, refused as refused_host, answered_by, load_refused, loaded_by, opened_by, submit_refused, submitted_by, block_refused, blocked_by, pump_refused, pumped_by, replay_refused, replayed_by, stop_refused, stopped_by, snapshot_refused, snapped_by, metrics_refused, metered_by}
use Rattle.host.specs.Calls.{open_host, load_host, retire_host, submit_host, transition_host, replay_host, block_host, pump_host, start_capture_host, stop_capture_host, snapshot_host, apply_host, metrics_host}
use Rattle.host.proofs.Round.{names}
use Rattle.host.proofs.Refusals.{with_store, with_stores, turned_same, weighed_fine, weighed_unnamed, each_way, load_stays, retire_stays, submit_stays, transition_stays, replay_stays, block_stays, pump_stays, start_stays, stop_stays, snapshot_stays, apply_stays, metrics_stays}
use Rattle.host.proofs.Under.{open_under, load_under, retire_under, submit_under, transition_under, replay_under, block_under, pump_under, start_under, stop_under, snapshot_under, apply_under, metrics_under}
use Rattle.promises.specs.Calls.{State, state, with_session, code, Opening, opened, Reached, at_opening, after_call}
use Rattle.promises.specs.Hosts as hosts
use Rattle.promises.specs.Hosts.{HostState, HostCall, host_state, keeping, state_of, host_refusal, host_after, host_out, host_list, host_opened, named, call_of, HostReached, DoesItsCall, OpensAsCall, ForHosts, HostRefused}
use Rattle.promises.specs.Kept.{Good}
use Rattle.promises.proofs.Kept.{reached_good}
use Rattle.promises.proofs.Refused.{refused}

-- ---- a refused function

after_refused : (k : HostCall) (x : HostState) → host_refusal k x ≢ 0 → host_after k x ≡ keeping x (turned (host_refusal k x) x.session)
after_refused (hosts.load samples kind extent rate) x n =
    ap (λ (z : HostLoaded × List Float). host_state z.0.session x.queue x.capture z.1) (load_stays x.session x.queue x.capture x.pool samples kind extent rate n)
after_refused (hosts.retire h) x n = ap (λ (z : HostAnswered). keeping x z.session) (retire_stays x.session x.queue x.capture h n)
after_refused (hosts.submit y at) x n =
    ap (λ (z : HostSubmitted × List ℕ × List ℕ). host_state z.0.session z.1 z.2 x.pool) (submit_stays x.session x.queue x.capture y at n)
after_refused (hosts.transition f at) x n =
    ap (λ (z : HostSubmitted × List ℕ × List ℕ). host_state z.0.session z.1 z.2 x.pool) (transition_stays x.session x.queue x.capture f at n)
after_refused (hosts.block out) x n = ap (λ (z : HostBlocked × List Float). keeping x z.0.session) (block_stays x.session x.queue x.capture x.pool out n)
after_refused (hosts.pump f k) x n = ap (λ (z : HostPumped × List Float). keeping x z.0.session) (pump_stays x.session x.queue x.capture x.pool f.ring f.store k n)
after_refused hosts.start_capture x n = ap (λ (z : HostAnswered). keeping x z.session) (start_stays x.session x.queue x.capture n)
after_refused (hosts.stop_capture list) x n = ap (λ (z : HostStopped × List ℕ). keeping x z.0.session) (stop_stays x.session x.queue x.capture list n)
after_refused (hosts.replay list) x n =
    ap (λ (z : HostReplayed × List ℕ). host_state z.0.session z.1 x.capture x.pool) (replay_stays x.session x.queue x.capture list n)
after_refused hosts.snapshot x n = ap (λ (z : HostSnapped). keeping x z.session) (snapshot_stays x.session x.queue x.capture n)
after_refused (hosts.apply y) x n = ap (λ (z : HostAnswered). keeping x z.session) (apply_stays x.session x.queue x.capture y n)
after_refused hosts.metrics x n = ap (λ (z : HostMetrics). keeping x z.session) (metrics_stays x.session x.queue x.capture n)

-- ---- a function that names its cases

-- what a host reads says its number
code_by : {A : Type 0} (n : ℕ) (v : A) → n ≡ code (says_by n v)
code_by n v = go n
  where
    go : (n : ℕ) → n ≡ code (says_by n v)
    go zero = refl
    go (suc m) = rw (ne_eqb (suc m) 0 (λ (e : suc m ≡ 0). omega arith))

does : (k : HostCall) (x : HostState) → weigh_host x.session x.queue x.capture (named k) ≡ 0 → DoesItsCall k x
does (hosts.load samples kind extent rate) x w =
    let e = load_under x.session x.queue x.capture x.pool samples kind extent rate w in
    record {
      answer = ap (λ (z : (Says Handle × Session) × List Float). z.0.0) e;
      number = code_by _ _ ∙ ap (λ (z : (Says Handle × Session) × List Float). code z.0.0) e;
      state = ap (λ (z : (Says Handle × Session) × List Float). state z.0.1 x.queue x.capture z.1) e;
      output = refl;
    }
does (hosts.retire h) x w =
    let e = retire_under x.session x.queue x.capture h w in
    record { answer = ap (λ (z : Says (Unit {0}) × Session). z.0) e; number = code_by _ _ ∙ ap (λ (z : Says (Unit {0}) × Session). code z.0) e; state = ap (λ (z : Says (Unit {0}) × Session). with_session (state_of x) z.1) e; output = refl }
does (hosts.submit y at) x w =
    let e = submit_under x.session x.queue x.capture y at w in
    record {
      answer = ap (λ (z : (Says ℕ × Session) × List ℕ × List ℕ). z.0.0) e;
      number = code_by _ _ ∙ ap (λ (z : (Says ℕ × Session) × List ℕ × List ℕ). code z.0.0) e;
      state = ap (λ (z : (Says ℕ × Session) × List ℕ × List ℕ). state z.0.1 z.1 z.2 x.pool) e;
      output = refl;
    }
does (hosts.transition f at) x w =
    let e = transition_under x.session x.queue x.capture f at w in
    record {
      answer = ap (λ (z : (Says ℕ × Session) × List ℕ × List ℕ). z.0.0) e;
      number = code_by _ _ ∙ ap (λ (z : (Says ℕ × Session) × List ℕ × List ℕ). code z.0.0) e;
      state = ap (λ (z : (Says ℕ × Session) × List ℕ × List ℕ). state z.0.1 z.1 z.2 x.pool) e;
      output = refl;
    }
does (hosts.block out) x w =
    let e = block_under x.session x.queue x.capture x.pool out w in
    record {
      answer = ap (λ (z : (Says ℕ × Session) × List Float). z.0.0) e;
      number = code_by _ _ ∙ ap (λ (z : (Says ℕ × Session) × List Float). code z.0.0) e;
      state = ap (λ (z : (Says ℕ × Session) × List Float). with_session (state_of x) z.0.1) e;
      output = ap (λ (z : (Says ℕ × Session) × List Float). z.1) e;
    }
does (hosts.pump f n) x w =
    let e = pump_under x.session x.queue x.capture x.pool f.ring f.store n w in
    record {
      answer = (
        ap (λ (z : (Says (ℕ × ℕ) × Session × SampleRing) × List Float). z.0.0) e,
        ap (λ (z : (Says (ℕ × ℕ) × Session × SampleRing) × List Float). record { ring = z.0.2; store = z.1 }) e,
      );
      number = code_by _ _ ∙ ap (λ (z : (Says (ℕ × ℕ) × Session × SampleRing) × List Float). code z.0.0) e;
      state = ap (λ (z : (Says (ℕ × ℕ) × Session × SampleRing) × List Float). with_session (state_of x) z.0.1) e;
      output = refl;
    }
does hosts.start_capture x w =
    let e = start_under x.session x.queue x.capture w in
    record { answer = ap (λ (z : Says (Unit {0}) × Session). z.0) e; number = code_by _ _ ∙ ap (λ (z : Says (Unit {0}) × Session). code z.0) e; state = ap (λ (z : Says (Unit {0}) × Session). with_session (state_of x) z.1) e; output = refl }
does (hosts.stop_capture list) x w =
    let e = stop_under x.session x.queue x.capture list w in
    record {
      answer = (ap (λ (z : (Says ℕ × Session) × List ℕ). z.0.0) e, ap (λ (z : (Says ℕ × Session) × List ℕ). z.1) e);
      number = code_by _ _ ∙ ap (λ (z : (Says ℕ × Session) × List ℕ). code z.0.0) e;
      state = ap (λ (z : (Says ℕ × Session) × List ℕ). with_session (state_of x) z.0.1) e;
      output = refl;
    }
does (hosts.replay list) x w =
    let e = replay_under x.session x.queue x.capture list w in
    record {
      answer = ap (λ (z : (Says Report × Session) × List ℕ). z.0.0) e;
      number = code_by _ _ ∙ ap (λ (z : (Says Report × Session) × List ℕ). code z.0.0) e;
      state = ap (λ (z : (Says Report × Session) × List ℕ). state z.0.1 z.1 x.capture x.pool) e;
      output = refl;
    }
does hosts.snapshot x w =
    let e = snapshot_under x.session x.queue x.capture w in
    record {
      answer = ap (λ (z : Says PerformanceSnapshot × Session). z.0) e;
      number = code_by _ _ ∙ ap (λ (z : Says PerformanceSnapshot × Session). code z.0) e;
      state = ap (λ (z : Says PerformanceSnapshot × Session). with_session (state_of x) z.1) e;
      output = refl;
    }
does (hosts.apply y) x w =
    let e = apply_under x.session x.queue x.capture y w in
    record { answer = ap (λ (z : Says (Unit {0}) × Session). z.0) e; number = code_by _ _ ∙ ap (λ (z : Says (Unit {0}) × Session). code z.0) e; state = ap (λ (z : Says (Unit {0}) × Session). with_session (state_of x) z.1) e; output = refl }
does hosts.metrics x w =
    let e = metrics_under x.session x.queue x.capture w in
    record {
      answer = ap (λ (z : Says PerformanceMetrics × Session). z.0) e;
      number = code_by _ _ ∙ ap (λ (z : Says PerformanceMetrics × Session). code z.0) e;
      state = ap (λ (z : Says PerformanceMetrics × Session). with_session (state_of x) z.1) e;
      output = refl;
    }

-- ---- the numbers of what a host keeps

-- counting leaves them,
turned_names : (n : ℕ) (h : HostSession) → is_session h ≡ true → is_session (turned n h) ≡ true
unfolding turned is_session kinds_ok
turned_names n h e = cond_both (λ (t : HostSession). is_session t ≡ true) (eqb n 15) (with_dropped h (min (h.dropped + 1) (2 ^ 64 - 1))) h e e

-- and so does every function
names_after : (k : HostCall) (x : HostState) → is_session x.session ≡ true → is_session (host_after k x).session ≡ true
unfolding load_host load_of retire_host retire_of submit_host submit_of taken transition_host transition_of replay_host replay_of block_host block_of pump_host pump_of start_capture_host start_capture_of stop_capture_host stop_capture_of snapshot_host control.snapshot_of apply_host control.apply_of metrics_host metrics_of
names_after (hosts.load samples kind extent rate) x e =
    let h : HostSession = x.session in
    each_way (λ (z : HostLoaded × List Float). is_session z.0.session ≡ true) (λ n. (load_refused h n, x.pool)) (with_store (loaded_by h)) _ _ _ _
    (λ m. turned_names m h e) (λ k. turned_names (number_of k) h e) (names _)
names_after (hosts.retire c) x e =
    let h : HostSession = x.session in
    each_way (λ (z : HostAnswered). is_session z.session ≡ true) (refused_host h) (answered_by h) _ _ _ _ (λ m. turned_names m h e) (λ k. turned_names (number_of k) h e) (names _)
names_after (hosts.submit y at) x e =
    let h : HostSession = x.session in
    each_way (λ (z : HostSubmitted × List ℕ × List ℕ). is_session z.0.session ≡ true) (λ n. (submit_refused h n, x.queue, x.capture)) (with_stores (submitted_by h)) _ _ _ _
    (λ m. turned_names m h e) (λ k. turned_names (number_of k) h e) (names _)
names_after (hosts.transition f at) x e =
    let h : HostSession = x.session in
    each_way (λ (z : HostSubmitted × List ℕ × List ℕ). is_session z.0.session ≡ true) (λ n. (submit_refused h n, x.queue, x.capture)) (with_stores (submitted_by h)) _ _ _ _
    (λ m. turned_names m h e) (λ k. turned_names (number_of k) h e) (names _)
names_after (hosts.block out) x e =
    let h : HostSession = x.session in
    each_way (λ (z : HostBlocked × List Float). is_session z.0.session ≡ true) (λ n. (block_refused h n, out)) (with_store (blocked_by h)) _ _ _ _
    (λ m. turned_names m h e) (λ k. turned_names (number_of k) h e) (names _)
names_after (hosts.pump f n) x e =
    let h : HostSession = x.session in
    each_way (λ (z : HostPumped × List Float). is_session z.0.session ≡ true) (λ n. (pump_refused h f.ring n, f.store)) (with_store (pumped_by h)) _ _ _ _
    (λ m. turned_names m h e) (λ k. turned_names (number_of k) h e) (names _)
names_after hosts.start_capture x e =
    let h : HostSession = x.session in
    each_way (λ (z : HostAnswered). is_session z.session ≡ true) (refused_host h) (answered_by h) _ _ _ _ (λ m. turned_names m h e) (λ k. turned_names (number_of k) h e) (names _)
names_after (hosts.stop_capture list) x e =
    let h : HostSession = x.session in
    each_way (λ (z : HostStopped × List ℕ). is_session z.0.session ≡ true) (λ n. (stop_refused h n, list)) (with_store (stopped_by h)) _ _ _ _
    (λ m. turned_names m h e) (λ k. turned_names (number_of k) h e) (names _)
names_after (hosts.replay list) x e =
    let h : HostSession = x.session in
    each_way (λ (z : HostReplayed × List ℕ). is_session z.0.session ≡ true) (λ n. (replay_refused h n, x.queue)) (with_store (replayed_by h)) _ _ _ _
    (λ m. turned_names m h e) (λ k. turned_names (number_of k) h e) (names _)
names_after hosts.snapshot x e =
    let h : HostSession = x.session in
    each_way (λ (z : HostSnapped). is_session z.session ≡ true) (snapshot_refused h) (snapped_by h) _ _ _ _ (λ m. turned_names m h e) (λ k. turned_names (number_of k) h e) (names _)
names_after (hosts.apply y) x e =
    let h : HostSession = x.session in
    each_way (λ (z : HostAnswered). is_session z.session ≡ true) (refused_host h) (answered_by h) _ _ _ _ (λ m. turned_names m h e) (λ k. turned_names (number_of k) h e) (names _)
names_after hosts.metrics x e =
    let h : HostSession = x.session in
    each_way (λ (z : HostMetrics). is_session z.session ≡ true) (metrics_refused h) (metered_by h) _ _ _ _ (λ m. turned_names m h e) (λ k. turned_names (number_of k) h e) (names _)

-- what opening gives has them,
open_names : (o : Opening) → is_session (host_opened o).1.session ≡ true
unfolding open_host open_of
open_names o =
    unless_both {A = Answered Handle × List Float} _ _ _ (λ z. is_session (opened_by z.0).session ≡ true) (λ k. turned_names (number_of k) (host_of no_session) (names no_session))
    (λ fine. names _)

-- so whatever a host has reached names a case by each number
reached_names : (x : HostState) → HostReached x → is_session x.session ≡ true
reached_names x (hosts.at_opening o e) = open_names o
reached_names x (hosts.after_call {x = y} k g r) = names_after k y (reached_names y r)

-- ---- a function that does not name its cases

own : {B : Type 0} (number : B → ℕ) (n : ℕ) (give : ℕ → B) (done : B) → n ≡ 255 → number (give 255) ≡ 255 → number (unless_host n give done) ≡ 255
unfolding unless_host
own number n give done e told = rw e told

own_number : (k : HostCall) (x : HostState) → named k ≡ false → weigh_host x.session x.queue x.capture (named k) ≡ 255 → host_refusal k x ≡ 255
unfolding load_host submit_host transition_host apply_host
own_number (hosts.load samples kind extent rate) x f e = own (λ (z : HostLoaded × List Float). z.0.refusal) _ _ _ e refl
own_number (hosts.retire h) x f e = absurd (never f)
own_number (hosts.submit y at) x f e = own (λ (z : HostSubmitted × List ℕ × List ℕ). z.0.refusal) _ _ _ e refl
own_number (hosts.transition g at) x f e = own (λ (z : HostSubmitted × List ℕ × List ℕ). z.0.refusal) _ _ _ e refl
own_number (hosts.block out) x f e = absurd (never f)
own_number (hosts.pump g n) x f e = absurd (never f)
own_number hosts.start_capture x f e = absurd (never f)
own_number (hosts.stop_capture list) x f e = absurd (never f)
own_number (hosts.replay list) x f e = absurd (never f)
own_number hosts.snapshot x f e = absurd (never f)
own_number (hosts.apply y) x f e = own (λ (z : HostAnswered). z.refusal) _ _ _ e refl
own_number hosts.metrics x f e = absurd (never f)

-- it answers 255 where the session is well formed
without_case : (k : HostCall) (x : HostState) → is_session x.session ≡ true → Good (state_of x) → named k ≡ false → host_refusal k x ≡ 255
without_case k x e g f =
    own_number k x f (ap (weigh_host x.session x.queue x.capture) f ∙ weighed_unnamed x.session x.queue x.capture e g.formed)

-- and leaves everything
unmoved : (k : HostCall) (x : HostState) → host_refusal k x ≡ 255 → host_after k x ≡ x
unmoved k x e =
    after_refused k x (λ (z : host_refusal k x ≡ 0). omega (arith, e)) ∙ ap (keeping x) (turned_same (host_refusal k x) x.session (λ (z : host_refusal k x ≡ 15). omega (arith, e)))

-- ---- opening

open_does : (o : Opening) → OpensAsCall o
open_does o =
    let e = open_under o.settings o.queue o.capture o.pool o.samples o.rate o.extent in
    record {
      answer = ap (λ (z : (Says Handle × Session) × List Float). z.0.0) e;
      number = code_by _ _ ∙ ap (λ (z : (Says Handle × Session) × List Float). code z.0.0) e;
      state = ap (λ (z : (Says Handle × Session) × List Float). state z.0.1 o.queue o.capture z.1) e;
    }

-- ---- all of it

host_reached : (x : HostState) → HostReached x → Reached (state_of x)
host_reached x (hosts.at_opening o e) = subst Reached (sym (open_does o).state) (at_opening o (sym (open_does o).number ∙ e))
host_reached x (hosts.after_call {x = y} k g r) = go (two_ways (named k)) (host_reached y r)
  where
    go : (named k ≡ true) ⊎ (named k ≡ false) → Reached (state_of y) → Reached (state_of (host_after k y))
    go (inl e) before =
        subst Reached (sym (does k y (weighed_fine y.session y.queue y.capture (named k) (reached_names y r) e)).state) (after_call (call_of k) g before)
    go (inr e) before =
        subst (λ (z : HostState). Reached (state_of z)) (sym (unmoved k y (without_case k y (reached_names y r) (reached_good (state_of y) before) e))) before

-- a host's state stands for a reached one, where each function does its call
pub for_hosts : ForHosts
for_hosts =
    record {
      reached = host_reached;
      opening = open_does;
      calling = λ k x r e. does k x (weighed_fine x.session x.queue x.capture (named k) (reached_names x r) e);
      unnamed = λ k x r e. without_case k x (reached_names x r) (reached_good (state_of x) (host_reached x r)) e;
    }

-- and a refused one changes nothing
pub host_refused : HostRefused
host_refused =
    record {
      state = after_refused;
      output = λ x out n. ap (λ (z : HostBlocked × List Float). z.1) (block_stays x.session x.queue x.capture x.pool out n);
      feed = λ x f k n. ap (λ (z : HostPumped × List Float). record { ring = z.0.ring; store = z.1 }) (pump_stays x.session x.queue x.capture x.pool f.ring f.store k n);
      list = λ x list n. ap (λ (z : HostStopped × List ℕ). z.1) (stop_stays x.session x.queue x.capture list n);
      opening = λ o n. (refl, refl, ap (λ (x : State). x.pool) (open_does o).state ∙ (refused.opening o (λ (z : (opened o).0 ≡ 0). n ((open_does o).number ∙ z))).2);
    }

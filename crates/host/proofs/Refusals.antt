-- What a refused call hands back to a host: its number alone, with the very session that came but for 15's count, and every store. Assumes nothing.
use mathlib.Core.Path.{◌≡◌, refl, sym, ap, ◌∙◌}
use mathlib.Core.Bool.{Bool, true, false, cond}
use mathlib.Core.List.{List}
use mathlib.Core.Logic.{◌⊎◌, inl, inr}
use Prim.Native.Nat.{ℕ, zero, suc, ◌+◌, ◌-◌, ◌^◌, min}
use lib.Dec.{eqb}
use lib.Ieee.{Float}
use borrow.Author.Tests.{ne_eqb}
use Rattle.counts.specs.declared.SongFrame.{SongFrame}
use Rattle.counts.specs.declared.Handle.{Handle}
use Rattle.session.specs.declared.Refusal.{Refusal}
use Rattle.session.specs.Refusal.{number_of, unless}
use Rattle.session.specs.Session.{turned_away}
use Rattle.session.specs.WellFormed.{well_formed}
use Rattle.session.proofs.Refuse.{unless_both}
use Rattle.clips.specs.Load.{load_of}
use Rattle.clips.specs.Retire.{retire_of}
use Rattle.submission.specs.Submit.{taken, submit_of}
use Rattle.submission.specs.Transition.{transition_of}
use Rattle.submission.specs.Replay.{replay_of}
use Rattle.block.specs.Block.{block_of}
use Rattle.ring.specs.declared.SampleRing.{SampleRing}
use Rattle.pump.specs.Pump.{pump_of}
use Rattle.control.specs.Capture.{start_capture_of, stop_capture_of}
use Rattle.control.specs.Snapshot as control
use Rattle.control.specs.Metrics.{metrics_of}
use Rattle.host.specs.declared.HostSession.{HostSession}
use Rattle.host.specs.declared.HostCommand.{HostCommand}
use Rattle.host.specs.declared.HostAt.{HostAt}
use Rattle.host.specs.declared.HostSnapshot.{HostSnapshot}
use Rattle.host.specs.declared.HostAnswered.{HostAnswered}
use Rattle.host.specs.declared.HostLoaded.{HostLoaded}
use Rattle.host.specs.declared.HostSubmitted.{HostSubmitted}
use Rattle.host.specs.declared.HostBlocked.{HostBlocked}
use Rattle.host.specs.declared.HostPumped.{HostPumped}
use Rattle.host.specs.declared.HostReplayed.{HostReplayed}
use Rattle.host.specs.declared.HostStopped.{HostStopped}
use Rattle.host.specs.declared.HostSnapped.{HostSnapped}
use Rattle.host.specs.declared.HostMetrics.{HostMetrics}
use Rattle.host.specs.Kept.{is_session, session_of}
use Rattle.host.specs.Answers.{with_dropped, turned, weigh_host, unless as unless_host, refused, answered_by, load_refused, loaded_by, submit_refused, submitted_by, block_refused, blocked_by, pump_refused, pumped_by, replay_refused, replayed_by, stop_refused, stopped_by, snapshot_refused, snapped_by, metrics_refused, metered_by}
use Rattle.host.specs.Calls.{load_host, retire_host, submit_host, transition_host, replay_host, block_host, pump_host, start_capture_host, stop_capture_host, snapshot_host, apply_host, metrics_host}
use Rattle.std.specs.Prelude.{Result}

-- beside a lent store,
abbrev pub with_store : {A B S : Type 0} → (A → B) → A × S → B × S
with_store f z = (f z.0, z.1)

-- or two
abbrev pub with_stores : {A B S R : Type 0} → (A → B) → A × S × R → B × S × R
with_stores f z = (f z.0, z.1, z.2)

-- it matches the session turned away, with 15 counted in both,
pub turned_matches : (k : Refusal) (h : HostSession) → session_of (turned (number_of k) h) ≡ turned_away k (session_of h)
unfolding turned turned_away session_of
turned_matches k h = go (eqb (number_of k) 15)
  where
    counted : HostSession
    counted = with_dropped h (min (h.dropped + 1) (2 ^ 64 - 1))

    go : (b : Bool) → session_of (cond b counted h) ≡ cond b (session_of counted) (session_of h)
    go true = refl
    go false = refl

-- and with any other number it is the very session that came
pub turned_same : (n : ℕ) (h : HostSession) → (n ≡ 15 → ⊥) → turned n h ≡ h
unfolding turned
turned_same n h other = rw (ne_eqb n 15 other)

-- ---- the host's own numbers

module _ (h : HostSession) (q c : List ℕ) where
  -- where every number names a case nothing is refused,
  pub weighed_fine : (named : Bool) → is_session h ≡ true → named ≡ true → weigh_host h q c named ≡ 0
  unfolding weigh_host
  weighed_fine named e f = rw (e, f)

  -- where no session matches it is 1,
  pub weighed_none : (named : Bool) → is_session h ≡ false → weigh_host h q c named ≡ 1
  unfolding weigh_host
  weighed_none named e = rw e

  -- what names no case is 255 where the session is well formed,
  pub weighed_unnamed : is_session h ≡ true → well_formed (session_of h) q c ≡ true → weigh_host h q c false ≡ 255
  unfolding weigh_host
  weighed_unnamed e f = rw (e, f)

  -- and what is weighed is 0, 1 or 255
  pub weighed : (named : Bool) → (weigh_host h q c named ≡ 0) ⊎ (weigh_host h q c named ≡ 1) ⊎ (weigh_host h q c named ≡ 255)
  unfolding weigh_host
  weighed named = go (is_session h) named (well_formed (session_of h) q c)
    where
      go : (a b d : Bool) → let n : ℕ = cond a (cond b 0 (cond d 255 1)) 1 in (n ≡ 0) ⊎ (n ≡ 1) ⊎ (n ≡ 255)
      go true true d = inl refl
      go true false true = inr (inr refl)
      go true false false = inr (inl refl)
      go false b d = inr (inl refl)

-- ---- what is refused, by whichever number

-- what holds of every refusal, the host's own and the call's, and of what the call does, holds of what a host reads,
pub each_way : {A B : Type 0} (P : B → Type 0) (give : ℕ → B) (host : A → B) (n : ℕ) (w : Result (Unit {0}) Refusal) (refusal : Refusal → A) (done : A)
    → ((m : ℕ) → P (give m)) → ((k : Refusal) → P (host (refusal k))) → P (host done) → P (unless_host n give (host (unless w refusal done)))
unfolding unless_host
each_way P give host zero w refusal done own refuses does = unless_both w refusal done (λ a. P (host a)) refuses (λ fine. does)
each_way P give host (suc n) w refusal done own refuses does = own (suc n)

-- so where a host reads another number than 0, it has what is given for that number,
pub stays : {A B : Type 0} (number : B → ℕ) (give : ℕ → B) (host : A → B) (n : ℕ) (w : Result (Unit {0}) Refusal) (refusal : Refusal → A) (done : A)
    → ((m : ℕ) → number (give m) ≡ m) → ((k : Refusal) → host (refusal k) ≡ give (number_of k)) → number (host done) ≡ 0
    → let z : B = unless_host n give (host (unless w refusal done)) in (number z ≡ 0 → ⊥) → z ≡ give (number z)
stays {B} number give host n w refusal done told refuses does =
    each_way (λ z. (number z ≡ 0 → ⊥) → z ≡ give (number z)) give host n w refusal done
    (λ m other. ap give (sym (told m)))
    (λ k other. refuses k ∙ ap give (sym (ap number (refuses k) ∙ told (number_of k))))
    (λ other. absurd (other does))

-- which is the very session that came but for 15's count, no value, and every store as it was:
module _ (h : HostSession) (q c : List ℕ) where
  -- a load,
  pub load_stays : (pool samples : List Float) (kind : ℕ) (extent : SongFrame) (rate : ℕ)
      → let z : HostLoaded × List Float = load_host h q c pool samples kind extent rate in (z.0.refusal ≡ 0 → ⊥) → z ≡ (load_refused h z.0.refusal, pool)
  unfolding load_host load_of
  load_stays pool samples kind extent rate = stays (λ z. z.0.refusal) (λ n. (load_refused h n, pool)) (with_store (loaded_by h)) _ _ _ _ (λ m. refl) (λ k. refl) refl

  -- a retirement,
  pub retire_stays : (x : Handle) → let z : HostAnswered = retire_host h q c x in (z.refusal ≡ 0 → ⊥) → z ≡ refused h z.refusal
  unfolding retire_host retire_of
  retire_stays x = stays (λ z. z.refusal) (refused h) (answered_by h) _ _ _ _ (λ m. refl) (λ k. refl) refl

  -- a submission,
  pub submit_stays : (x : HostCommand) (at : HostAt) → let z : HostSubmitted × List ℕ × List ℕ = submit_host h q c x at in (z.0.refusal ≡ 0 → ⊥) → z ≡ (submit_refused h z.0.refusal, q, c)
  unfolding submit_host submit_of taken
  submit_stays x at = stays (λ z. z.0.refusal) (λ n. (submit_refused h n, q, c)) (with_stores (submitted_by h)) _ _ _ _ (λ m. refl) (λ k. refl) refl

  -- a transition,
  pub transition_stays : (f : SongFrame) (at : HostAt) → let z : HostSubmitted × List ℕ × List ℕ = transition_host h q c f at in (z.0.refusal ≡ 0 → ⊥) → z ≡ (submit_refused h z.0.refusal, q, c)
  unfolding transition_host transition_of taken
  transition_stays f at = stays (λ z. z.0.refusal) (λ n. (submit_refused h n, q, c)) (with_stores (submitted_by h)) _ _ _ _ (λ m. refl) (λ k. refl) refl

  -- a replay,
  pub replay_stays : (list : List ℕ) → let z : HostReplayed × List ℕ = replay_host h q c list in (z.0.refusal ≡ 0 → ⊥) → z ≡ (replay_refused h z.0.refusal, q)
  unfolding replay_host replay_of
  replay_stays list = stays (λ z. z.0.refusal) (λ n. (replay_refused h n, q)) (with_store (replayed_by h)) _ _ _ _ (λ m. refl) (λ k. refl) refl

  -- a block,
  pub block_stays : (pool out : List Float) → let z : HostBlocked × List Float = block_host h q c pool out in (z.0.refusal ≡ 0 → ⊥) → z ≡ (block_refused h z.0.refusal, out)
  unfolding block_host block_of
  block_stays pool out = stays (λ z. z.0.refusal) (λ n. (block_refused h n, out)) (with_store (blocked_by h)) _ _ _ _ (λ m. refl) (λ k. refl) refl

  -- a pump,
  pub pump_stays : (pool : List Float) (r : SampleRing) (store : List Float) (frames : ℕ)
      → let z : HostPumped × List Float = pump_host h q c pool r store frames in (z.0.refusal ≡ 0 → ⊥) → z ≡ (pump_refused h r z.0.refusal, store)
  unfolding pump_host pump_of
  pump_stays pool r store frames = stays (λ z. z.0.refusal) (λ n. (pump_refused h r n, store)) (with_store (pumped_by h)) _ _ _ _ (λ m. refl) (λ k. refl) refl

  -- starting capture,
  pub start_stays : let z : HostAnswered = start_capture_host h q c in (z.refusal ≡ 0 → ⊥) → z ≡ refused h z.refusal
  unfolding start_capture_host start_capture_of
  start_stays = stays (λ z. z.refusal) (refused h) (answered_by h) _ _ _ _ (λ m. refl) (λ k. refl) refl

  -- stopping it,
  pub stop_stays : (list : List ℕ) → let z : HostStopped × List ℕ = stop_capture_host h q c list in (z.0.refusal ≡ 0 → ⊥) → z ≡ (stop_refused h z.0.refusal, list)
  unfolding stop_capture_host stop_capture_of
  stop_stays list = stays (λ z. z.0.refusal) (λ n. (stop_refused h n, list)) (with_store (stopped_by h)) _ _ _ _ (λ m. refl) (λ k. refl) refl

  -- a snapshot,
  pub snapshot_stays : let z : HostSnapped = snapshot_host h q c in (z.refusal ≡ 0 → ⊥) → z ≡ snapshot_refused h z.refusal
  unfolding snapshot_host control.snapshot_of
  snapshot_stays = stays (λ z. z.refusal) (snapshot_refused h) (snapped_by h) _ _ _ _ (λ m. refl) (λ k. refl) refl

  -- applying one,
  pub apply_stays : (x : HostSnapshot) → let z : HostAnswered = apply_host h q c x in (z.refusal ≡ 0 → ⊥) → z ≡ refused h z.refusal
  unfolding apply_host control.apply_of
  apply_stays x = stays (λ z. z.refusal) (refused h) (answered_by h) _ _ _ _ (λ m. refl) (λ k. refl) refl

  -- and the metrics
  pub metrics_stays : let z : HostMetrics = metrics_host h q c in (z.refusal ≡ 0 → ⊥) → z ≡ metrics_refused h z.refusal
  unfolding metrics_host metrics_of
  metrics_stays = stays (λ z. z.refusal) (metrics_refused h) (metered_by h) _ _ _ _ (λ m. refl) (λ k. refl) refl

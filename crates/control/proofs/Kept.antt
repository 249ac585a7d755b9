-- Start and stop capture, snapshot, apply and metrics keep a session well formed, whether they are accepted or refused, and refused they leave
-- everything as it came. Assumes nothing.
use mathlib.Core.Path.{◌≡◌, refl, sym, ap, ◌∙◌}
use mathlib.Core.Bool.{Bool, true, false}
use mathlib.Core.List.{List}
use Prim.Native.Nat.{ℕ}
use native.Mathlib.Nat.{min-le_right}
use native.Mathlib.Omega.{arith}
use lib.Ieee.{le}
use borrow.Author.Tests.{le-leb, not-false}
use Rattle.std.specs.Prelude.{Option, Some, None}
use Rattle.counts.specs.declared.Claim.{Claim}
use Rattle.counts.specs.declared.Handle.{Handle}
use Rattle.counts.proofs.Truth.{and_true, and_r}
use Rattle.ramp.specs.Number.{zero32, two32, between}
use Rattle.ramp.proofs.Kept.{not_below_between}
use Rattle.timeline.proofs.WellFormed.{capture_none}
use Rattle.transport.specs.Transport.{loop_of}
use Rattle.transport.proofs.Fits.{loops, loop_fits_law}
use Rattle.stage.specs.declared.Tail.{Tail}
use Rattle.session.specs.declared.Session.{Session}
use Rattle.session.specs.declared.Answered.{Answered}
use Rattle.session.specs.Session.{with_stage, extent_now, captured_now}
use Rattle.session.specs.WellFormed.{held, tail_held, well_formed, weigh_only}
use Rattle.session.specs.Answer.{refused, gives, says}
use Rattle.session.proofs.Parts.{Parts, parts, whole}
use Rattle.session.proofs.Refuse.{passed, unless_fine, unless_both, refused_leaves, only_fine}
use Rattle.session.proofs.Typed.{Typed}
use Rattle.control.specs.declared.PerformanceSnapshot.{PerformanceSnapshot}
use Rattle.control.specs.Capture.{capturing, start_capture_of, stop_capture_of}
use Rattle.control.specs.Snapshot.{snapped, snapshot_of, weigh_apply, stage_by, apply_of}
use Rattle.control.specs.Metrics.{metered, metrics_of}
use Rattle.std.specs.Prelude.{Ok}
use Rattle.control.specs.declared.PerformanceMetrics.{PerformanceMetrics}

-- ---- what each of them does to a well formed session

no_record : (on : Bool) (s : Session) → captured_now (capturing on s).desk ≡ 0
no_record true s = refl
no_record false s = refl

-- a tail is held alike where the bank and the rate are the same
tail_same : (s r : Session) → ((h : Handle) → held s (Claim.Song h) ≡ held r (Claim.Song h)) → (t : Option Tail) → tail_held s t ≡ tail_held r t
tail_same s r e None = refl
tail_same s r e (Some t) = e t.song

module _ (s : Session) (q c : List ℕ) (formed : well_formed s q c ≡ true) where
  p : Parts s q c
  p = parts s q c formed

  -- capture on or off, with no record
  capturing_kept : (on : Bool) → well_formed (capturing on s) q c ≡ true
  capturing_kept on =
      let none : captured_now (capturing on s).desk ≡ 0 = no_record on s in
      whole (capturing on s) q c (
      record {
        settings = p.settings;
        clock = p.clock;
        queued = p.queued;
        captured = omega arith;
        voices = p.voices;
        queue_size = p.queue_size;
        capture_size = p.capture_size;
        bank = p.bank;
        queue = p.queue;
        capture = rw none (capture_none s.desk.number c);
        song = p.song;
        tail = tail_same (capturing on s) s (λ h. refl) s.stage.sound.fade.tail ∙ p.tail;
        voices_held = p.voices_held;
        queue_held = p.queue_held;
        capture_held = λ j l. absurd (omega arith);
        position = p.position;
        looped = p.looped;
        stinging = p.stinging;
        heads = p.heads;
        master = p.master;
        master_target = p.master_target;
        weight = p.weight;
        gains = p.gains;
        executed = p.executed;
        special = p.special;
      })

  -- a snapshot with a gain from 0 to 2
  stage_kept : (x : PerformanceSnapshot) → between zero32 two32 x.gain ≡ true → well_formed (with_stage s (stage_by (extent_now s) x s.stage) s.queued) q c ≡ true
  unfolding le
  stage_kept x ranged =
      let e : ℕ = extent_now s in
      let t = s.stage.playhead.transport in
      whole (with_stage s (stage_by e x s.stage) s.queued) q c (
      record {
        settings = p.settings;
        clock = p.clock;
        queued = p.queued;
        captured = p.captured;
        voices = p.voices;
        queue_size = p.queue_size;
        capture_size = p.capture_size;
        bank = p.bank;
        queue = p.queue;
        capture = p.capture;
        song = p.song;
        tail = tail_same (with_stage s (stage_by e x s.stage) s.queued) s (λ h. refl) s.stage.sound.fade.tail ∙ p.tail;
        voices_held = p.voices_held;
        queue_held = p.queue_held;
        capture_held = p.capture_held;
        position = min-le_right x.position.0 e;
        looped = loops e (loop_of e x.looped t) (loop_fits_law e t (and_true (le-leb t.position.0 e p.position) p.looped) x.looped);
        stinging = p.stinging;
        heads = p.heads;
        master = omega arith;
        master_target = not_below_between two32 x.gain refl (and_r (le zero32 x.gain) (le x.gain two32) ranged);
        weight = p.weight;
        gains = p.gains;
        executed = p.executed;
        special = p.special;
      })

-- ---- the calls

module _ (s : Session) (q c : List ℕ) where
  -- starting capture: well formed in, well formed out,
  pub start_kept : well_formed s q c ≡ true → well_formed (start_capture_of s q c).session q c ≡ true
  unfolding start_capture_of
  start_kept formed = unless_both {A = Answered (Unit {0})} _ _ _ (λ a. well_formed a.session q c ≡ true) (λ k. formed) (λ fine. capturing_kept s q c formed true)

  -- the numbers stay in their types,
  pub start_typed : Typed s → Typed (start_capture_of s q c).session
  unfolding start_capture_of
  start_typed t = unless_both {A = Answered (Unit {0})} _ _ _ (λ a. Typed a.session) (λ k. t) (λ fine. record { bank = t.bank; voices = t.voices })

  -- and refused it leaves the session
  pub start_refused : (n : ℕ) → says (start_capture_of s q c).answer ≡ refused n → (start_capture_of s q c).session ≡ s
  unfolding start_capture_of
  start_refused = refused_leaves {A = Answered (Unit {0})} _ _ _ (λ a. says a.answer) (λ a. a.session) tt s refl (λ k. refl)

  -- stopping capture: well formed in, well formed out,
  pub stop_kept : (list : List ℕ) → well_formed s q c ≡ true → well_formed (stop_capture_of s q c list).0.session q c ≡ true
  unfolding stop_capture_of
  stop_kept list formed =
      unless_both {A = Answered ℕ × List ℕ} _ _ _ (λ a. well_formed a.0.session q c ≡ true) (λ k. formed) (λ fine. capturing_kept s q c formed false)

  -- the numbers stay in their types,
  pub stop_typed : (list : List ℕ) → Typed s → Typed (stop_capture_of s q c list).0.session
  unfolding stop_capture_of
  stop_typed list t = unless_both {A = Answered ℕ × List ℕ} _ _ _ (λ a. Typed a.0.session) (λ k. t) (λ fine. record { bank = t.bank; voices = t.voices })

  -- and refused it leaves the session and the list
  pub stop_refused_law : (list : List ℕ) (n : ℕ) → says (stop_capture_of s q c list).0.answer ≡ refused n
      → ◌≡◌ {A = Session × List ℕ} ((stop_capture_of s q c list).0.session, (stop_capture_of s q c list).1) (s, list)
  unfolding stop_capture_of
  stop_refused_law list =
      refused_leaves {A = Answered ℕ × List ℕ} _ _ _ {B = Session × List ℕ} (λ a. says a.0.answer) (λ a. (a.0.session, a.1)) (captured_now s.desk) (s, list) refl
      (λ k. refl)

  -- taking a snapshot leaves the session,
  pub snapshot_leaves : (snapshot_of s q c).session ≡ s
  unfolding snapshot_of
  snapshot_leaves = unless_both {A = Answered PerformanceSnapshot} _ _ _ (λ a. a.session ≡ s) (λ k. refl) (λ fine. refl)

  -- and so does reading the metrics
  pub metrics_leave : (metrics_of s q c).session ≡ s
  unfolding metrics_of
  metrics_leave = unless_both {A = Answered PerformanceMetrics} _ _ _ (λ a. a.session ≡ s) (λ k. refl) (λ fine. refl)

  -- a well formed session gives its snapshot,
  pub snapshot_gives : well_formed s q c ≡ true → says (snapshot_of s q c).answer ≡ gives (snapped s)
  unfolding snapshot_of
  snapshot_gives formed = ap (λ (a : Answered PerformanceSnapshot). says a.answer) (unless_fine (weigh_only s q c) _ _ (only_fine s q c formed))

  -- and its metrics
  pub metrics_give : well_formed s q c ≡ true → says (metrics_of s q c).answer ≡ gives (metered s)
  unfolding metrics_of
  metrics_give formed = ap (λ (a : Answered PerformanceMetrics). says a.answer) (unless_fine (weigh_only s q c) _ _ (only_fine s q c formed))

  module _ (x : PerformanceSnapshot) where
    -- a snapshot that is not refused is for a well formed session,
    apply_found : weigh_apply s q c x ≡ Ok tt → well_formed s q c ≡ true
    unfolding weigh_apply
    apply_found fine = not-false _ (passed _ _ _ fine).0

    -- and has a gain from 0 to 2
    apply_gain : weigh_apply s q c x ≡ Ok tt → between zero32 two32 x.gain ≡ true
    unfolding weigh_apply
    apply_gain fine = let p1 = passed _ _ _ fine in not-false _ (passed _ _ _ p1.1).0

    -- applying one leaves a session as well formed as it was,
    apply_formed : well_formed (apply_of s q c x).session q c ≡ well_formed s q c
    unfolding apply_of
    apply_formed =
        unless_both {A = Answered (Unit {0})} _ _ _ (λ a. well_formed a.session q c ≡ well_formed s q c) (λ k. refl)
        (λ fine. stage_kept s q c (apply_found fine) x (apply_gain fine) ∙ sym (apply_found fine))

    -- well formed in, well formed out,
    pub apply_kept : well_formed s q c ≡ true → well_formed (apply_of s q c x).session q c ≡ true
    apply_kept formed = apply_formed ∙ formed

    -- so that the next one is weighed alike,
    pub apply_weighs : (y : PerformanceSnapshot) → weigh_apply (apply_of s q c x).session q c y ≡ weigh_apply s q c y
    unfolding weigh_apply
    apply_weighs y = rw apply_formed

    -- the numbers stay in their types,
    pub apply_typed : Typed s → Typed (apply_of s q c x).session
    unfolding apply_of
    apply_typed t = unless_both {A = Answered (Unit {0})} _ _ _ (λ a. Typed a.session) (λ k. t) (λ fine. record { bank = t.bank; voices = t.voices })

    -- and refused it leaves the session
    pub apply_refused : (n : ℕ) → says (apply_of s q c x).answer ≡ refused n → (apply_of s q c x).session ≡ s
    unfolding apply_of
    apply_refused = refused_leaves {A = Answered (Unit {0})} _ _ _ (λ a. says a.answer) (λ a. a.session) tt s refl (λ k. refl)

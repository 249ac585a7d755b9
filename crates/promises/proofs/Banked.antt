-- What each call does to bank and pool: nothing, a clip is placed, or a live one is retired. What follows for every handle whose serial was given. Assumes nothing.
use mathlib.Core.Path.{◌≡◌, refl, sym, ap, ◌∙◌}
use mathlib.Core.Logic.{◌⊎◌, inl, inr}
use mathlib.Core.Bool.{true, false}
use mathlib.Core.List.{List, [], ◌∷◌}
use Prim.Native.Nat.{ℕ, ◌*◌, ◌≤◌, ◌<◌}
use native.Mathlib.Omega.{arith}
use lib.ListN.{length}
use lib.Ieee.{Float}
use Rattle.counts.specs.declared.Handle.{Handle}
use Rattle.counts.proofs.Truth.{two_ways, never}
use Rattle.bank.specs.declared.Bank.{Bank}
use Rattle.bank.specs.declared.Clip.{Clip}
use Rattle.bank.specs.Sample.{is_pool}
use Rattle.bank.specs.Slots.{clip_of, live, spent, loaded_in, retired_from}
use Rattle.bank.specs.Room.{pasted}
use Rattle.bank.specs.Recording.{view_of}
use Rattle.bank.proofs.Kept.{Placed}
use Rattle.bank.proofs.Handles.{spent_stale, spent_is, load_keeps_clip, load_keeps_spent, retire_keeps_spent, retire_clip}
use Rattle.bank.proofs.Pool.{load_view, retire_view}
use Rattle.stage.specs.declared.Settings.{Settings}
use Rattle.stage.specs.declared.Stage.{Stage}
use Rattle.session.specs.declared.Session.{Session}
use Rattle.session.specs.declared.Answered.{Answered}
use Rattle.session.proofs.Refuse.{unless_both}
use Rattle.block.specs.Block.{block_of}
use Rattle.clips.specs.Load.{load_of}
use Rattle.clips.specs.Retire.{retire_of}
use Rattle.clips.proofs.Loaded.{load_placed}
use Rattle.clips.proofs.Loaded as load
use Rattle.clips.proofs.Retired as retire
use Rattle.control.specs.Snapshot.{apply_of}
use Rattle.control.proofs.Kept.{snapshot_leaves, metrics_leave}
use Rattle.promises.specs.Calls.{State, Call, load, retire, submit, transition, block, pump, start_capture, stop_capture, replay, snapshot, apply, metrics, state, with_session, after, after_all}
use Rattle.promises.specs.Kept.{Good}
use Rattle.promises.specs.Stale.{AllGiven}
use Rattle.promises.proofs.Pumping.{pump_step}
use Rattle.submission.proofs.Leaves.{heart, submit_leaves, transition_leaves, replay_leaves}
use Rattle.promises.proofs.Leaves.{start_leaves, stop_leaves}
use Rattle.promises.proofs.Kept.{types, keeps}

-- from one state to another
pub data Changes (x y : State) : Type 0 where
  none : y.session.bank ≡ x.session.bank → y.pool ≡ x.pool → Changes x y
  places : (slot : ℕ) (c : Clip) (samples : List Float) → Placed x.session.bank x.session.settings.pool slot c → c.frames * 2 ≡ length samples
      → y.session.bank ≡ loaded_in x.session.bank slot c → y.pool ≡ pasted x.pool (c.start * 2) samples → Changes x y
  retires : (h : Handle) → live x.session.bank h ≡ true → y.session.bank ≡ retired_from x.session.bank h → y.pool ≡ x.pool → Changes x y

heart_none : (x : State) (s : Session) (q c : List ℕ) → heart s ≡ heart x.session → Changes x (state s q c x.pool)
heart_none x s q c e = none (ap (λ (r : Settings × Bank × Stage). r.1) e) refl

block_changes : (out : List Float) (x : State) → Changes x (after (block out) x)
unfolding block_of
block_changes out x = unless_both {A = Answered ℕ × List Float} _ _ _ (λ a. Changes x (with_session x a.0.session)) (λ k. none refl refl) (λ fine. none refl refl)

-- every call
pub changes : (k : Call) (x : State) → Good x → Changes x (after k x)
unfolding load_of retire_of block_of apply_of
changes (load samples kind rate) x g =
    unless_both {A = Answered Handle × List Float} _ _ _ (λ a. Changes x (state a.0.session x.queue x.capture a.1)) (λ k. none refl refl)
    (λ fine. places _ _ samples (load_placed x.session x.queue x.capture x.pool samples kind rate fine (types x g))
    (load.accepted x.session x.queue x.capture x.pool samples kind rate fine).even refl refl)
changes (retire h) x g =
    unless_both {A = Answered (Unit {0})} _ _ _ (λ a. Changes x (with_session x a.session)) (λ k. none refl refl)
    (λ fine. retires h (retire.accepted x.session x.queue x.capture h fine).alive refl refl)
changes (submit y at) x g = heart_none x _ _ _ (submit_leaves x.session x.queue x.capture y at)
changes (transition f at) x g = heart_none x _ _ _ (transition_leaves x.session x.queue x.capture f at)
changes (block out) x g = block_changes out x
changes (pump f n) x g = pump_step x f n (λ m y. Changes x y) (λ out. block_changes out x) (none refl refl)
changes start_capture x g = heart_none x _ _ _ (start_leaves x.session x.queue x.capture)
changes (stop_capture list) x g = heart_none x _ _ _ (stop_leaves x.session x.queue x.capture list)
changes (replay list) x g = heart_none x _ _ _ (replay_leaves x.session x.queue x.capture list)
changes snapshot x g = none (ap (λ (s : Session). s.bank) (snapshot_leaves x.session x.queue x.capture)) refl
changes (apply y) x g = unless_both {A = Answered (Unit {0})} _ _ _ (λ a. Changes x (with_session x a.session)) (λ k. none refl refl) (λ fine. none refl refl)
changes metrics x g = none (ap (λ (s : Session). s.bank) (metrics_leave x.session x.queue x.capture)) refl

-- ---- spent: given, and live no more

module _ (x y : State) where
  -- it stays so,
  pub spent_stays : Changes x y → (h : Handle) → spent x.session.bank h ≡ true → spent y.session.bank h ≡ true
  spent_stays (none e f) h s = rw e s
  spent_stays (places slot c samples p n e f) h s = rw e (load_keeps_spent p h s)
  spent_stays (retires k l e f) h s = rw e (retire_keeps_spent x.session.bank k l h s)

  -- the last serial does not fall,
  pub last_rises : Changes x y → x.session.bank.last ≤ y.session.bank.last
  unfolding loaded_in retired_from
  last_rises (none e f) = let l : y.session.bank.last ≡ x.session.bank.last = ap (λ (b : Bank). b.last) e in omega arith
  last_rises (places slot c samples p n e f) =
      let l : y.session.bank.last ≡ c.serial = ap (λ (b : Bank). b.last) e in let m : x.session.bank.last < c.serial = p.new in omega arith
  last_rises (retires k a e f) = let l : y.session.bank.last ≡ x.session.bank.last = ap (λ (b : Bank). b.last) e in omega arith

  module _ (h : Handle) (one : 1 ≤ h.serial) (given : h.serial ≤ x.session.bank.last) where
    -- what is live was live before,
    pub live_before : Changes x y → live y.session.bank h ≡ true → live x.session.bank h ≡ true
    live_before d e = go (two_ways (live x.session.bank h))
      where
        go : (live x.session.bank h ≡ true) ⊎ (live x.session.bank h ≡ false) → live x.session.bank h ≡ true
        go (inl l) = l
        go (inr l) = absurd (never (sym e ∙ spent_stale y.session.bank h (spent_stays d h (spent_is x.session.bank h one given l))))

  -- and what was live stands for the clip that it stood for
  module _ (g : is_pool x.pool x.session.settings.pool ≡ true) (h : Handle) (l : live x.session.bank h ≡ true) where
    pub view_stays : Changes x y → view_of y.pool y.session.bank h ≡ view_of x.pool x.session.bank h
    view_stays (none e f) = rw (e, f)
    view_stays (places slot c samples p n e f) = rw (e, f) (load_view p x.pool samples g n h l)
    view_stays (retires k a e f) = rw (e, f) (ap (λ v. v h) (retire_view x.pool x.session.bank k))

    pub clip_stays : Changes x y → clip_of y.session.bank h ≡ clip_of x.session.bank h
    clip_stays (none e f) = rw e
    clip_stays (places slot c samples p n e f) = rw e (load_keeps_clip p h l)
    clip_stays (retires k a e f) = rw e (retire_clip x.session.bank k h)

-- what each change keeps, any calls keep
pub kept_by_all : (P : State → Type 0) → ((x y : State) → Good x → Changes x y → P x → P y) → (ks : List Call) (x : State) → Good x → AllGiven ks → P x → P (after_all ks x)
kept_by_all P step [] x g a p = p
kept_by_all P step (k ∷ ks) x g a p = kept_by_all P step ks (after k x) (keeps k x a.0 g) a.1 (step x (after k x) g (changes k x g) p)

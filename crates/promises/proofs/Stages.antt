-- What holds of a stage as opening leaves it, and what each frame, each executed command, each applied snapshot and each change of the bank keeps of it in a
-- well formed session, holds of the stage of every session reached from opening, and of the one in which its next frame is made. Assumes nothing.
use mathlib.Core.Path.{◌≡◌, refl, ap}
use mathlib.Core.Bool.{true}
use mathlib.Core.List.{List}
use Prim.Native.Nat.{ℕ}
use lib.ListN.{length}
use lib.Ieee.{Float}
use Rattle.laws.specs.Block.{drain}
use Rattle.counts.specs.declared.SongFrame.{SongFrame}
use Rattle.counts.specs.declared.Handle.{Handle}
use Rattle.timeline.specs.declared.Command.{Command}
use Rattle.timeline.specs.declared.QueueRecord.{QueueRecord}
use Rattle.timeline.specs.Queue.{queue}
use Rattle.bank.specs.declared.Kind.{Kind}
use Rattle.bank.specs.declared.Bank.{Bank}
use Rattle.bank.specs.Sample.{frames_of}
use Rattle.bank.specs.Recording.{view_of}
use Rattle.stage.specs.declared.Stage.{Stage}
use Rattle.stage.specs.declared.Settings.{Settings}
use Rattle.stage.specs.Stage.{frame_of, execute_of}
use Rattle.stage.specs.Machine.{machine_of}
use Rattle.session.specs.declared.Session.{Session}
use Rattle.session.specs.declared.Answered.{Answered}
use Rattle.session.specs.Session.{with_stage, extent_now}
use Rattle.session.specs.WellFormed.{well_formed}
use Rattle.session.proofs.Refuse.{unless_both}
use Rattle.block.specs.Block.{block_of}
use Rattle.block.proofs.Weigh.{accepted}
use Rattle.block.proofs.Kept.{drain_holds, block_holds}
use Rattle.clips.specs.Open.{stage_at, open_of}
use Rattle.clips.specs.Load.{load_of}
use Rattle.clips.specs.Retire.{retire_of}
use Rattle.control.specs.declared.PerformanceSnapshot.{PerformanceSnapshot}
use Rattle.control.specs.Snapshot.{stage_by, apply_of}
use Rattle.control.proofs.Kept.{snapshot_leaves, metrics_leave}
use Rattle.promises.specs.Calls.{State, Call, load, retire, submit, transition, block, pump, start_capture, stop_capture, replay, snapshot, apply, metrics, after, Reached, at_opening, after_call}
use Rattle.promises.specs.Kept.{Good}
use Rattle.promises.specs.Together.{next_stage}
use Rattle.promises.proofs.Pumping.{pump_step}
use Rattle.submission.proofs.Leaves.{submit_leaves, transition_leaves, replay_leaves}
use Rattle.promises.proofs.Leaves.{start_leaves, stop_leaves}
use Rattle.promises.proofs.Kept.{settings_stay, reached_good}
use Rattle.promises.proofs.Banked.{Changes, changes}

-- loading and retiring leave the stage
load_stage : (s : Session) (q c : List ℕ) (pool samples : List Float) (kind : Kind) (rate : ℕ) → (load_of s q c pool samples kind rate).0.session.stage ≡ s.stage
unfolding load_of
load_stage s q c pool samples kind rate = unless_both {A = Answered Handle × List Float} _ _ _ (λ z. z.0.session.stage ≡ s.stage) (λ k. refl) (λ fine. refl)

retire_stage : (s : Session) (q c : List ℕ) (h : Handle) → (retire_of s q c h).session.stage ≡ s.stage
unfolding retire_of
retire_stage s q c h = unless_both {A = Answered (Unit {0})} _ _ _ (λ z. z.session.stage ≡ s.stage) (λ k. refl) (λ fine. refl)

abbrev heart_stage : Settings × Bank × Stage → Stage
heart_stage r = r.2

-- of a stage, under the settings and over the bank
module _ (P : Settings → Bank → Stage → Type 0) where
  abbrev Has : Session → Type 0
  Has s = P s.settings s.bank s.stage

  -- and of another stage of the same session
  abbrev HasAt : Session → Stage → Type 0
  HasAt s x = P s.settings s.bank x

  pub record Stays : Type 0 where
    pub opens : (x : Settings) (b : Bank) (h : Handle) → P x b (stage_at h)
    pub frames : (s : Session) (q c : List ℕ) (pool : List Float) → well_formed s q c ≡ true → Has s → HasAt s (frame_of s.settings (view_of pool s.bank) s.stage).stage
    pub execs : (s : Session) (q c : List ℕ) (d : Command) → well_formed s q c ≡ true → Has s → HasAt s (execute_of s.settings (extent_now s) d s.stage)
    pub applies : (s : Session) (y : PerformanceSnapshot) → Has s → HasAt s (stage_by (extent_now s) y s.stage)
    pub banks : (x y : State) → Good x → Changes x y → Has x.session → P x.session.settings y.session.bank x.session.stage

  module _ (stays : Stays) where
    -- what leaves the stage leaves it so,
    left_has : (k : Call) (x : State) → Good x → (after k x).session.stage ≡ x.session.stage → Has x.session → Has (after k x).session
    left_has k x g e p = rw (settings_stay k x, e) (stays.banks x (after k x) g (changes k x g) p)

    module _ (s : Session) (q c : List ℕ) (p : Has s) where
      -- applying keeps it,
      apply_has : (y : PerformanceSnapshot) → Has (apply_of s q c y).session
      unfolding apply_of
      apply_has y = unless_both {A = Answered (Unit {0})} _ _ _ (λ z. Has z.session) (λ k. p) (λ fine. stays.applies s y p)

      -- and a block's frames and commands do
      module _ (w : well_formed s q c ≡ true) (places : length s.stage.sound.voices.table ≡ 16) (pool : List Float) where
        framed : (k : ℕ) (x : Stage) → well_formed (with_stage s x k) q c ≡ true → HasAt s x → HasAt s (frame_of s.settings (view_of pool s.bank) x).stage
        framed k x = stays.frames (with_stage s x k) q c pool

        executed : (k : ℕ) (d : QueueRecord) (x : Stage) → well_formed (with_stage s x k) q c ≡ true → HasAt s x
            → HasAt s (execute_of s.settings (view_of pool s.bank x.playhead.song).extent d.command x)
        unfolding view_of
        executed k d x = stays.execs (with_stage s x k) q c d.command

        block_has : (out : List Float) → Has (block_of s q c pool out).0.session
        unfolding block_of
        block_has out =
            unless_both {A = Answered ℕ × List Float} _ _ _ (λ z. Has z.0.session) (λ k. p)
            (λ fine. block_holds s q c pool w places (HasAt s) framed executed (frames_of out) (accepted s q c pool out fine).clock p)

        drain_has : HasAt s (drain (machine_of s.settings (view_of pool s.bank)) s.stage (queue q s.queued)).at.core
        drain_has = drain_holds s q c pool w places (HasAt s) framed executed p

    -- so every call
    after_has : (k : Call) (x : State) → Good x → Has x.session → Has (after k x).session
    after_has (load samples kind rate) x g p = left_has (load samples kind rate) x g (load_stage x.session x.queue x.capture x.pool samples kind rate) p
    after_has (retire h) x g p = left_has (retire h) x g (retire_stage x.session x.queue x.capture h) p
    after_has (submit y at) x g p = left_has (submit y at) x g (ap heart_stage (submit_leaves x.session x.queue x.capture y at)) p
    after_has (transition f at) x g p = left_has (transition f at) x g (ap heart_stage (transition_leaves x.session x.queue x.capture f at)) p
    after_has (block out) x g p = block_has x.session x.queue x.capture p g.formed g.voices x.pool out
    after_has (pump f n) x g p = pump_step x f n (λ m y. Has y.session) (λ out. block_has x.session x.queue x.capture p g.formed g.voices x.pool out) p
    after_has start_capture x g p = left_has start_capture x g (ap heart_stage (start_leaves x.session x.queue x.capture)) p
    after_has (stop_capture list) x g p = left_has (stop_capture list) x g (ap heart_stage (stop_leaves x.session x.queue x.capture list)) p
    after_has (replay list) x g p = left_has (replay list) x g (ap heart_stage (replay_leaves x.session x.queue x.capture list)) p
    after_has snapshot x g p = left_has snapshot x g (ap (λ (s : Session). s.stage) (snapshot_leaves x.session x.queue x.capture)) p
    after_has (apply y) x g p = apply_has x.session x.queue x.capture p y
    after_has metrics x g p = left_has metrics x g (ap (λ (s : Session). s.stage) (metrics_leave x.session x.queue x.capture)) p

    open_has : (x : Settings) (q c : List ℕ) (pool samples : List Float) (rate : ℕ) (extent : SongFrame) → Has (open_of x q c pool samples rate extent).0.session
    unfolding open_of
    open_has x q c pool samples rate extent = unless_both {A = Answered Handle × List Float} _ _ _ (λ z. Has z.0.session) (λ k. stays.opens _ _ _) (λ fine. stays.opens _ _ _)

    pub reached_has : (x : State) → Reached x → P x.session.settings x.session.bank x.session.stage
    reached_has x (at_opening o e) = open_has o.settings o.queue o.capture o.pool o.samples o.rate o.extent
    reached_has x (after_call {x = y} k g r) = after_has k y (reached_good y r) (reached_has y r)

    -- its next frame is made when every command that is due has been executed
    pub next_has : (x : State) → Reached x → P x.session.settings x.session.bank (next_stage x)
    next_has x r = let g = reached_good x r in drain_has x.session x.queue x.capture (reached_has x r) g.formed g.voices x.pool

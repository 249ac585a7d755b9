-- What a session's block does and tells, its laps told too. Assumes nothing.
use mathlib.Core.Path.{◌≡◌, refl, sym, ap, ◌∙◌}
use mathlib.Core.List.{List, map-id}
use Prim.Native.Nat.{ℕ, ◌+◌}
use lib.Ieee.{Float}
use Rattle.laws.specs.Block.{Machine, At, stand, after, block}
use Rattle.laws.specs.Queue.{Clocked}
use Rattle.laws.specs.Alike.{Maps}
use Rattle.laws.proofs.Lists.{each_all}
use Rattle.laws.proofs.Mapped.{block_part}
use Rattle.laws.proofs.Cut.{cut}
use Rattle.timeline.specs.declared.QueueRecord.{QueueRecord}
use Rattle.timeline.specs.Queue.{queue}
use Rattle.bank.specs.Recording.{View, view_of}
use Rattle.stage.specs.declared.Settings.{Settings}
use Rattle.stage.specs.declared.Stage.{Stage}
use Rattle.stage.specs.Machine.{FrameMade, machine_of}
use Rattle.stage.proofs.Clock.{clocked}
use Rattle.session.specs.declared.Session.{Session}
use Rattle.block.specs.Block.{ran_of}
use Rattle.block.proofs.Queue.{queue_ran}
use Rattle.block.proofs.Cut.{left_by}
use Rattle.leaps.specs.Laps.{Lapped, lapped_machine, lapped_ran, SameButLaps}

-- its clock goes as the stage's
pub lapped_clocked : (x : Settings) (view : View) → Clocked (lapped_machine x view)
lapped_clocked x view = let k : Clocked (machine_of x view) = clocked x view in record { ticks = k.ticks; stays = k.stays }

-- it does what the stage does, and tells what the stage tells
unlaps : (x : Settings) (view : View)
    → Maps (λ (s : Stage). s) (λ (a : FrameMade). a) (λ (l : Lapped). l.told) (λ (s : Stage). Unit {0}) (λ (d d' : QueueRecord). d' ≡ d) (lapped_machine x view) (machine_of x view)
unlaps x view =
    record {
      clocks = λ c p. refl;
      execs = λ d d' c p e. rw e;
      tells = λ d d' c p e. rw e;
      nexts = λ c p. refl;
      makes = λ c p. refl;
      keeps = λ d d' c p e. tt;
      goes = λ c p. tt;
    }

-- THE SAME WITHOUT THE LAPS
pub same_but_laps : SameButLaps
unfolding lapped_ran ran_of
same_but_laps s q pool n =
    let view : View = view_of pool s.bank in
    let at : At Stage QueueRecord = stand s.stage (queue q s.queued) in
    sym
    (block_part (λ (s : Stage). s) (λ (a : FrameMade). a) (λ (l : Lapped). l.told) (λ (s : Stage). Unit {0}) (λ (d d' : QueueRecord). d' ≡ d) (lapped_machine s.settings view)
    (machine_of s.settings view) (unlaps s.settings view) (lapped_clocked s.settings view) n at tt
    (each_all _ (λ d. (refl, λ l. refl)) (queue q s.queued))
    ∙ simp map-id)

module _ (s : Session) (q : List ℕ) (pool : List Float) where
  -- it comes to where the session's own block comes,
  pub lapped_at : (n : ℕ) → (lapped_ran s q pool n).at ≡ (ran_of s q pool n).at
  lapped_at n = ap (λ r. r.at) (same_but_laps s q pool n)

  -- and in two pieces goes on from there
  pub lapped_cut : (a b : ℕ) → lapped_ran s q pool (a + b) ≡ after (lapped_ran s q pool a) (lapped_ran (left_by s q pool a) q pool b)
  unfolding lapped_ran
  lapped_cut a b =
      let m : Machine Stage QueueRecord FrameMade Lapped = lapped_machine s.settings (view_of pool s.bank) in
      let x : At Stage QueueRecord = stand s.stage (queue q s.queued) in
      cut m a b x ∙ ap (λ y. after (block m a x) (block m b y)) (lapped_at a ∙ ap (stand (ran_of s q pool a).at.core) (sym (queue_ran s q pool a)))

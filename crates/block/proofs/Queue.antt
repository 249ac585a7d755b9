-- The queue after a block: it is what the block did not execute, and no command for a frame below the clock is in it. Assumes nothing.
use mathlib.Core.Path.{◌≡◌, sym, ap, ◌∙◌}
use mathlib.Core.Bool.{true}
use mathlib.Core.List.{List}
use Prim.Native.Nat.{ℕ, ◌+◌, ◌≤◌, ◌<◌}
use native.Mathlib.Omega.{arith}
use lib.ListN.{length, drop}
use lib.Ieee.{Float}
use Rattle.laws.specs.Block.{Machine, At, stand, block}
use Rattle.laws.specs.Queue.{Each}
use Rattle.laws.proofs.Queue.{block_left, told_and_left, none_below}
use Rattle.laws.proofs.Sorted.{ordered_sorted}
use Rattle.timeline.specs.declared.QueueRecord.{QueueRecord}
use Rattle.timeline.specs.Queue.{queue, frame, queue_ok}
use Rattle.timeline.proofs.Queue.{queue_left, length_queue}
use Rattle.timeline.proofs.WellFormed.{queue_ordered}
use Rattle.bank.specs.Sample.{frames_of}
use Rattle.bank.specs.Recording.{view_of}
use Rattle.stage.specs.declared.Stage.{Stage}
use Rattle.stage.specs.Machine.{Told, FrameMade, machine_of}
use Rattle.stage.proofs.Clock.{clocked}
use Rattle.session.specs.declared.Session.{Session}
use Rattle.session.proofs.Parts.{parts}
use Rattle.block.specs.Block.{ran_of, block_of}
use Rattle.block.proofs.Weigh.{Accepted, block_done_law}

-- a list from a store in which k of all are gone is the store's first n
shorter : (q : List ℕ) (n k all : ℕ) → n + k ≡ all → drop k (queue q all) ≡ queue q n
shorter q n k all e = ap (λ (t : ℕ). drop k (queue q t)) (sym e) ∙ queue_left q n k

module _ (s : Session) (q : List ℕ) (pool : List Float) (n : ℕ) where
  -- no more commands are left than were queued,
  pub ran_fewer : length (ran_of s q pool n).at.queue ≤ s.queued
  unfolding ran_of
  ran_fewer =
      let m : Machine Stage QueueRecord FrameMade Told = machine_of s.settings (view_of pool s.bank) in
      omega (arith, told_and_left m n (stand s.stage (queue q s.queued)), length_queue q s.queued)

  -- and those of the count that a block leaves are those that it did not execute, in the store as before
  pub queue_ran : queue q (length (ran_of s q pool n).at.queue) ≡ (ran_of s q pool n).at.queue
  unfolding ran_of
  queue_ran =
      let m : Machine Stage QueueRecord FrameMade Told = machine_of s.settings (view_of pool s.bank) in
      let x : At Stage QueueRecord = stand s.stage (queue q s.queued) in
      let e : length (block m n x).at.queue + length (block m n x).told ≡ s.queued =
      omega (arith, told_and_left m n x, length_queue q s.queued) in
      sym (block_left m n x ∙ shorter q (length (block m n x).at.queue) (length (block m n x).told) s.queued e)

  -- after n > 0 frames no command for a frame below the clock remains
  pub none_behind : (last : ℕ) → queue_ok last q s.queued ≡ true → 0 < n
      → Each (λ r. (ran_of s q pool n).at.core.clock.0 ≤ frame r) (ran_of s q pool n).at.queue
  unfolding ran_of
  none_behind last ok pos =
      let m : Machine Stage QueueRecord FrameMade Told = machine_of s.settings (view_of pool s.bank) in
      none_below m (clocked s.settings (view_of pool s.bank)) n (stand s.stage (queue q s.queued)) pos
      (ordered_sorted m (λ r. r.number) (queue q s.queued) (queue_ordered last q s.queued ok))

-- and so at the call: the queue of the session that it leaves is for the clock's frame and later ones
pub block_none_behind : (s : Session) (q c : List ℕ) (pool out : List Float) → Accepted s q c pool out → 0 < frames_of out
    → Each (λ r. (block_of s q c pool out).0.session.stage.clock.0 ≤ frame r) (queue q (block_of s q c pool out).0.session.queued)
block_none_behind s q c pool out a pos =
    rw (block_done_law s q c pool out a, queue_ran s q pool (frames_of out))
    (none_behind s q pool (frames_of out) s.desk.number (parts s q c a.formed).queue pos)

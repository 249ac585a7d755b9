-- A command for a frame past a block's end may be queued before the block or after it. Assumes nothing.
use mathlib.Core.Path.{◌≡◌, sym, ap, ◌∙◌}
use mathlib.Core.Bool.{true}
use mathlib.Core.List.{List}
use Prim.Native.Nat.{ℕ, suc, ◌+◌, ◌*◌, ◌≤◌, ◌<◌}
use native.Mathlib.Omega.{arith}
use lib.ListN.{length}
use lib.Ieee.{Float}
use Rattle.laws.specs.Block.{Machine, stand, block}
use Rattle.laws.specs.Order.{insert_by}
use Rattle.laws.specs.Queue.{insert_ran}
use Rattle.laws.proofs.Clock.{block_insert}
use Rattle.laws.proofs.Sorted.{length_insert}
use Rattle.timeline.specs.declared.QueueRecord.{QueueRecord}
use Rattle.timeline.specs.Command.{typed}
use Rattle.timeline.specs.Record.{row_of}
use Rattle.timeline.specs.Store.{inserted}
use Rattle.timeline.specs.Queue.{queue, frame}
use Rattle.timeline.proofs.Queue.{queue_inserted}
use Rattle.bank.specs.Sample.{frames_of}
use Rattle.bank.specs.Recording.{view_of}
use Rattle.stage.specs.declared.Stage.{Stage}
use Rattle.stage.specs.Machine.{Told, FrameMade, machine_of}
use Rattle.stage.proofs.Clock.{clocked}
use Rattle.session.specs.declared.Desk.{Desk}
use Rattle.session.specs.declared.Session.{Session}
use Rattle.session.specs.Session.{with_queue}
use Rattle.session.specs.Answer.{answered}
use Rattle.block.specs.Block.{ran_of, block_done, block_of}
use Rattle.block.proofs.Weigh.{Accepted, block_done_law}
use Rattle.block.proofs.Queue.{ran_fewer, queue_ran}
use Rattle.block.proofs.Cut.{left_by}

-- the session with one command more queued, under a desk that counts it
abbrev pub with_one : Session → Desk → Session
with_one s desk = with_queue s (suc s.queued) desk

-- the queue's store with the record in its place
abbrev pub store_with : List ℕ → Session → QueueRecord → List ℕ
store_with q s r = inserted q s.queued (row_of r)

module _ (s : Session) (q : List ℕ) (pool : List Float) (n : ℕ) (r : QueueRecord) (desk : Desk)
    (room : s.queued * 5 + 5 ≤ length q) (e : typed r.command ≡ true) (later : s.stage.clock.0 + n < frame r) where
  -- the frames with it queued are those without it, and it stays queued in its place
  pub ran_later : ran_of (with_one s desk) (store_with q s r) pool n ≡ insert_ran (machine_of s.settings (view_of pool s.bank)) r (ran_of s q pool n)
  unfolding ran_of
  ran_later =
      let m : Machine Stage QueueRecord FrameMade Told = machine_of s.settings (view_of pool s.bank) in
      ap (λ (l : List QueueRecord). block m n (stand s.stage l)) (queue_inserted q s.queued r room e)
      ∙ block_insert m (clocked s.settings (view_of pool s.bank)) r n (stand s.stage (queue q s.queued)) later

  -- so the samples are the same, and the session is that without it, with one command more queued,
  pub done_later : block_done (with_one s desk) (ran_of (with_one s desk) (store_with q s r) pool n)
      ≡ (answered (block_done s (ran_of s q pool n)).0.answer (with_one (left_by s q pool n) desk), (block_done s (ran_of s q pool n)).1)
  done_later = rw (ran_later, length_insert frame r (ran_of s q pool n).at.queue)

  -- and the records that are live then are those of the store into which it comes after the block
  pub queue_later : queue (store_with q s r) (suc (left_by s q pool n).queued) ≡ queue (store_with q (left_by s q pool n) r) (suc (left_by s q pool n).queued)
  queue_later =
      let l : List QueueRecord = (ran_of s q pool n).at.queue in
      let a : queue (store_with q s r) (suc (length l)) ≡ insert_by frame r l =
      rw (ran_later, length_insert frame r l) at (queue_ran (with_one s desk) (store_with q s r) pool n) in
      let b : queue (store_with q (left_by s q pool n) r) (suc (length l)) ≡ insert_by frame r l =
      queue_inserted q (length l) r (omega (arith, ran_fewer s q pool n)) e ∙ ap (insert_by frame r) (queue_ran s q pool n) in
      a ∙ sym b

-- and so at the call, where both blocks are accepted
pub block_later : (s : Session) (q c : List ℕ) (pool out : List Float) (r : QueueRecord) (desk : Desk) → typed r.command ≡ true
    → s.queued * 5 + 5 ≤ length q → s.stage.clock.0 + frames_of out < frame r
    → Accepted s q c pool out → Accepted (with_one s desk) (store_with q s r) c pool out
    → block_of (with_one s desk) (store_with q s r) c pool out
    ≡ (answered (block_of s q c pool out).0.answer (with_one (block_of s q c pool out).0.session desk), (block_of s q c pool out).1)
block_later s q c pool out r desk e room later a b =
    rw (block_done_law s q c pool out a, block_done_law (with_one s desk) (store_with q s r) c pool out b)
    (done_later s q pool (frames_of out) r desk room e later)

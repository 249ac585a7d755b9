-- Order is free: a submission for a named clock frame past a block's end, accepted both before and after that block, gives the same samples and session
-- but for the deepest queue seen. Assumes nothing.
use mathlib.Core.Path.{◌≡◌, sym, ap, ◌∙◌}
use mathlib.Core.Bool.{true}
use mathlib.Core.List.{List}
use Prim.Native.Nat.{ℕ, ◌+◌, ◌<◌}
use native.Mathlib.Omega.{arith}
use native.Mathlib.Numerals.{add-one}
use lib.ListN.{length, drop}
use Rattle.laws.specs.Block.{Machine, Ran, stand, block}
use Rattle.laws.specs.Queue.{insert_ran, insert_at}
use Rattle.laws.specs.Order.{insert_by}
use Rattle.laws.proofs.Clock.{block_insert}
use Rattle.laws.proofs.Queue.{block_left, told_and_left}
use Rattle.laws.proofs.Sorted.{length_insert}
use Rattle.counts.specs.declared.ClockFrame.{ClockFrame}
use Rattle.timeline.specs.declared.Submission.{Submission}
use Rattle.timeline.specs.declared.QueueRecord.{QueueRecord}
use Rattle.timeline.specs.Command.{command_of, typed}
use Rattle.timeline.specs.Queue.{queue, frame}
use Rattle.timeline.proofs.Queue.{queue_left, length_queue}
use Rattle.transport.specs.declared.At.{At}
use Rattle.bank.specs.Recording.{View}
use Rattle.stage.specs.declared.Stage.{Stage}
use Rattle.stage.specs.Machine.{Told, FrameMade, machine_of}
use Rattle.stage.proofs.Clock.{clocked}
use Rattle.session.specs.declared.Session.{Session}
use Rattle.session.specs.Session.{with_stage}
use Rattle.session.specs.declared.Answered.{Answered}
use Rattle.submission.specs.Submit.{submit_of}
use Rattle.submission.specs.Order.{accepted, waiting, then_block, AlikeButDeepest}
use Rattle.submission.proofs.Left.{record_for, submit_session, submit_takes}

module _ (s : Session) (q c : List ℕ) (x : Submission) (t : typed (command_of x) ≡ true) (f : ClockFrame)
    (before : accepted (submit_of s q c x (At.Frame f)).0.answer ≡ true) where
  abbrev r : QueueRecord
  r = record_for s (command_of x) (At.Frame f)

  abbrev z : Answered ℕ × List ℕ × List ℕ
  z = submit_of s q c x (At.Frame f)

  -- a block that takes the first k commands and leaves m, with the new one among them or not
  on_both_sides : (stage : Stage) (m k : ℕ) → accepted (submit_of (with_stage s stage m) q c x (At.Frame f)).0.answer ≡ true → s.queued ≡ m + k
      → drop k (insert_by frame r (waiting s q)) ≡ insert_by frame r (queue q m)
      → AlikeButDeepest (then_block z stage (m + 1)) (submit_of (with_stage s stage m) q c x (At.Frame f))
  on_both_sides stage m k after n left =
      let s' : Session = with_stage s stage m in
      let a = submit_takes s q c x (At.Frame f) before t in
      let b = submit_takes s' q c x (At.Frame f) after t in
      let depth : z.0.session.queued ≡ m + 1 + k = ap (λ y. y.queued) (submit_session s q c x (At.Frame f) before) ∙ omega arith in
      record {
        answer = a.answer ∙ sym b.answer;
        session = rw (submit_session s q c x (At.Frame f) before, submit_session s' q c x (At.Frame f) after);
        queue = sym (queue_left z.1 (m + 1) k) ∙ ap (drop k) (rw depth at a.waits) ∙ left ∙ sym b.waits;
        capture = a.records ∙ sym b.records;
      }

  module _ (view : View) (n : ℕ) (past : s.stage.clock.0 + n < f.0) where
    abbrev stages : Machine Stage QueueRecord FrameMade Told
    stages = machine_of s.settings view

    -- the block with the submission after it, and with the submission before it
    abbrev alone : Ran Stage QueueRecord FrameMade Told
    alone = block stages n (stand s.stage (waiting s q))

    abbrev joined : Ran Stage QueueRecord FrameMade Told
    joined = block stages n (stand z.0.session.stage (waiting z.0.session z.1))

    later : block stages n (insert_at stages r (stand s.stage (waiting s q))) ≡ insert_ran stages r alone
    later = block_insert stages (clocked s.settings view) r n (stand s.stage (waiting s q)) past

    -- a block makes the same with a command for later, and leaves it queued
    pub block_later : joined ≡ insert_ran stages r alone
    block_later =
        rw ((submit_takes s q c x (At.Frame f) before t).waits, ap (λ y. y.stage) (submit_session s q c x (At.Frame f) before))
        later

    -- and the session is the same but for the deepest queue seen
    pub either_side : accepted (submit_of (with_stage s alone.at.core (length alone.at.queue)) q c x (At.Frame f)).0.answer ≡ true
        → AlikeButDeepest (then_block z joined.at.core (length joined.at.queue))
        (submit_of (with_stage s alone.at.core (length alone.at.queue)) q c x (At.Frame f))
    either_side after =
        let at = stand s.stage (waiting s q) in
        let m : ℕ = length alone.at.queue in
        let k : ℕ = length alone.told in
        let depth : s.queued ≡ m + k = omega (arith, told_and_left stages n at, length_queue q s.queued) in
        let front : alone.at.queue ≡ queue q m = block_left stages n at ∙ ap (λ j. drop k (queue q j)) depth ∙ queue_left q m k in
        let left = rw later at (block_left stages n (insert_at stages r at)) in
        let one : length (insert_by frame r alone.at.queue) ≡ m + 1 = length_insert frame r alone.at.queue ∙ sym (add-one m) in
        rw (block_later, one) (on_both_sides alone.at.core m k after depth (sym left ∙ ap (insert_by frame r) front))

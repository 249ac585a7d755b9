-- A well formed session is well formed after a block, over any pool: each frame and each executed command keeps it so, and what was not executed stays queued. Assumes nothing.
use mathlib.Core.Path.{◌≡◌, refl, sym, ap, ◌∙◌, subst}
use mathlib.Core.Bool.{true}
use mathlib.Core.List.{List, [], ◌∷◌}
use Prim.Native.Nat.{ℕ, zero, suc, ◌+◌, ◌^◌, ◌≤◌}
use native.Mathlib.Omega.{arith}
use lib.ListN.{length, length-append}
use lib.Ieee.{Float}
use borrow.Author.Tests.{ltb-false}
use Rattle.laws.specs.Block.{At, Ran, Machine, stand, still, after, executing, framing, drain, run}
use Rattle.laws.proofs.Clock.{run_clock, block_length}
use Rattle.laws.proofs.Stepwise.{Commandwise, Stepwise, drain_commandwise, run_keeps, block_stepwise}
use Rattle.timeline.specs.declared.QueueRecord.{QueueRecord}
use Rattle.timeline.specs.Record.{record_of}
use Rattle.timeline.specs.Store.{row_at}
use Rattle.timeline.specs.Queue.{queue}
use Rattle.timeline.proofs.Queue.{length_queue}
use Rattle.bank.specs.Sample.{frames_of}
use Rattle.bank.specs.Recording.{view_of}
use Rattle.stage.specs.declared.Stage.{Stage}
use Rattle.stage.specs.Machine.{Told, FrameMade, machine_of}
use Rattle.stage.proofs.Keeps.{frame_clock, exec_clock}
use Rattle.stage.proofs.Clock.{clocked}
use Rattle.session.specs.declared.Session.{Session}
use Rattle.session.specs.Session.{with_stage}
use Rattle.session.specs.WellFormed.{well_formed}
use Rattle.session.proofs.Refuse.{passed, unless_both}
use Rattle.session.proofs.Kept.{frame_keeps, frame_table, exec_keeps, exec_table}
use Rattle.session.specs.Answer.{answered}
use Rattle.block.specs.Block.{weigh_block, ran_of, block_done, block_of}
use Rattle.std.specs.Prelude.{Err}

module _ (s : Session) (q c : List ℕ) where
  -- the session is well formed at a stage with k records queued, which are the queue, and the table has its 16 places
  pub record Standing (k : ℕ) (x : At Stage QueueRecord) : Type 0 where
    pub queued : x.queue ≡ queue q k
    pub formed : well_formed (with_stage s x.core k) q c ≡ true
    pub places : length x.core.sound.voices.table ≡ 16

  -- so it stands where it came to, with `left` of k records queued, and the clock has risen by the frames made
  pub record Came (k : ℕ) (x : At Stage QueueRecord) (r : Ran Stage QueueRecord FrameMade Told) : Type 0 where
    pub left : ℕ
    pub fewer : left ≤ k
    pub stands : Standing left r.at
    pub clock : r.at.core.clock.0 ≡ x.core.clock.0 + length r.made

  module _ (pool : List Float) where
    abbrev machine : Machine Stage QueueRecord FrameMade Told
    machine = machine_of s.settings (view_of pool s.bank)

    -- a frame keeps it so,
    pub framed : (k : ℕ) (x : Stage) (l : List QueueRecord) → Standing k (stand x l) → x.clock.0 + 1 ≤ 2 ^ 62 → Standing k (stand (machine.next x) l)
    framed k x l p h =
        let y : Session = with_stage s x k in
        record { queued = p.queued; formed = frame_keeps y q c p.formed pool h; places = frame_table y q c p.formed pool p.places }

    -- so do n of them,
    pub run_stands : (k n : ℕ) (x : Stage) (l : List QueueRecord) → Standing k (stand x l) → x.clock.0 + n ≤ 2 ^ 62
        → Standing k (stand (run machine n (stand x [])).at.core l)
    run_stands k n x l p h =
        run_keeps machine (λ y. y.clock.0 ≤ 2 ^ 62 → Standing k (stand y l))
        (λ y p m.
        let t : suc y.clock.0 ≤ 2 ^ 62 = omega (arith, (clocked s.settings (view_of pool s.bank)).ticks y) in
        framed k y l (p (omega arith)) (omega arith))
        n x (λ m. p) (omega (arith, run_clock machine (clocked s.settings (view_of pool s.bank)) n (stand x [])))

    -- and so does the first command, executed
    pub executed : (k : ℕ) (d : QueueRecord) (x : Stage) (l : List QueueRecord) → Standing (suc k) (stand x (d ∷ l)) → Standing k (stand (machine.exec d x) l)
    unfolding view_of
    executed k d x l p =
        let e : d ≡ record_of (row_at q k) = cc p.queued in
        let y : Session = with_stage s x (suc k) in
        record {
          queued = cc p.queued;
          formed = subst (λ (d : QueueRecord). well_formed (with_stage s (machine.exec d x) k) q c ≡ true) (sym e) (exec_keeps y q c p.formed k refl p.places);
          places = subst (λ (d : QueueRecord). length (machine.exec d x).sound.voices.table ≡ 16) (sym e) (exec_table y q c p.formed k refl p.places);
        }

    abbrev Comes : At Stage QueueRecord → Ran Stage QueueRecord FrameMade Told → Type 0
    Comes x r = (k : ℕ) → Standing k x → x.core.clock.0 + length r.made ≤ 2 ^ 62 → Came k x r

    stays : (x : At Stage QueueRecord) → Comes x (still x)
    stays x k p h = record { left = k; fewer = omega arith; stands = p; clock = omega arith }

    joins : (x : At Stage QueueRecord) (r t : Ran Stage QueueRecord FrameMade Told) → Comes x r → Comes r.at t → Comes x (after r t)
    joins x r t a b k p h =
        let l = length-append r.made t.made in
        let y = a k p (omega arith) in
        let z = b y.left y.stands (omega arith) in
        record { left = z.left; fewer = omega arith; stands = z.stands; clock = omega arith }

    executes : (d : QueueRecord) (x : Stage) (l : List QueueRecord) → Comes (stand x (d ∷ l)) (executing machine d x l)
    executes d x l zero p h = absurd (omega (arith, ap length p.queued))
    executes d x l (suc k) p h =
        record {
          left = k;
          fewer = omega arith;
          stands = executed k d x l p;
          clock = rw (exec_clock s.settings (view_of pool s.bank x.playhead.song).extent d.command x) (omega arith);
        }

    frames : (x : Stage) (l : List QueueRecord) → Comes (stand x l) (framing machine x l)
    frames x l k p h = record { left = k; fewer = omega arith; stands = framed k x l p h; clock = frame_clock s.settings (view_of pool s.bank) x }

    steps : Stepwise machine Comes
    steps = record { commands = record { stays = stays; joins = joins; executes = λ d x l e. executes d x l }; frames = frames }

    module _ (w : well_formed s q c ≡ true) (places : length s.stage.sound.voices.table ≡ 16) where
      abbrev start : At Stage QueueRecord
      start = stand s.stage (queue q s.queued)

      starts : Standing s.queued start
      starts = record { queued = refl; formed = w; places = places }

      -- n frames within clock 2^62: the session stands well formed, some of its records still queued, the clock n further
      pub block_came : (n : ℕ) → s.stage.clock.0 + n ≤ 2 ^ 62 → Came s.queued start (ran_of s q pool n)
      unfolding ran_of
      block_came n h = block_stepwise machine Comes steps n start s.queued starts (rw (block_length machine n start) h)

      -- what each frame and each command keeps of a stage of the well formed session,
      module _ (P : Stage → Type 0)
          (next : (k : ℕ) (x : Stage) → well_formed (with_stage s x k) q c ≡ true → P x → P (machine.next x))
          (exec : (k : ℕ) (d : QueueRecord) (x : Stage) → well_formed (with_stage s x k) q c ≡ true → P x → P (machine.exec d x)) where
        -- the commands that are due keep,
        abbrev Drained : At Stage QueueRecord → Ran Stage QueueRecord FrameMade Told → Type 0
        Drained x r = (k : ℕ) → Standing k x → P x.core → (left : ℕ) × Standing left r.at × P r.at.core

        drained : (d : QueueRecord) (x : Stage) (l : List QueueRecord) → Drained (stand x (d ∷ l)) (executing machine d x l)
        drained d x l zero p v = absurd (omega (arith, ap length p.queued))
        drained d x l (suc k) p v = (k, executed k d x l p, exec (suc k) d x p.formed v)

        drains : Commandwise machine Drained
        drains = record { stays = λ x k p v. (k, p, v); joins = λ x r t a b k p v. let y = a k p v in b y.0 y.1 y.2; executes = λ d x l e. drained d x l }

        pub drain_holds : P s.stage → P (drain machine s.stage (queue q s.queued)).at.core
        drain_holds v = (drain_commandwise machine Drained drains s.stage (queue q s.queued) s.queued starts v).2

        -- and so does a block
        abbrev Holds : At Stage QueueRecord → Ran Stage QueueRecord FrameMade Told → Type 0
        Holds x r = Comes x r × ((k : ℕ) → Standing k x → x.core.clock.0 + length r.made ≤ 2 ^ 62 → P x.core → P r.at.core)

        holds_on : (x : At Stage QueueRecord) (r t : Ran Stage QueueRecord FrameMade Told) → Holds x r → Holds r.at t → Holds x (after r t)
        holds_on x r t a b = (
          joins x r t a.0 b.0,
          λ k p h v.
              let l = length-append r.made t.made in
              let y = a.0 k p (omega arith) in
              b.1 y.left y.stands (omega (arith, y.clock)) (a.1 k p (omega arith) v),
        )

        holds : Stepwise machine Holds
        holds =
            record {
              commands =
                  record { stays = λ x. (stays x, λ k p h v. v); joins = holds_on; executes = λ d x l e. (executes d x l, λ k p h v. exec k d x p.formed v) };
              frames = λ x l. (frames x l, λ k p h v. next k x p.formed v);
            }

        pub block_holds : (n : ℕ) → s.stage.clock.0 + n ≤ 2 ^ 62 → P s.stage → P (ran_of s q pool n).at.core
        unfolding ran_of
        block_holds n h = (block_stepwise machine Holds holds n start).1 s.queued starts (rw (block_length machine n start) h)

      -- a block of n frames leaves the session well formed
      pub block_keeps : (n : ℕ) → s.stage.clock.0 + n ≤ 2 ^ 62 → well_formed (block_done s (ran_of s q pool n)).0.session q c ≡ true
      block_keeps n h =
          let b = block_came n h in
          let e : length (ran_of s q pool n).at.queue ≡ b.left = ap length b.stands.queued ∙ length_queue q b.left in
          rw e b.stands.formed

      -- the call leaves the session well formed, whatever it answers
      pub call_keeps : (out : List Float) → well_formed (block_of s q c pool out).0.session q c ≡ true
      unfolding block_of weigh_block
      call_keeps out =
          unless_both (weigh_block s q c pool out) (λ k. (answered (Err k) s, out))
          (block_done s (ran_of s q pool (frames_of out))) (λ z. well_formed z.0.session q c ≡ true) (λ k. w)
          (λ f. let fine = (passed _ _ _ (passed _ _ _ (passed _ _ _ (passed _ _ _ f).1).1).1).0 in
          block_keeps (frames_of out) (ltb-false (2 ^ 62) (s.stage.clock.0 + frames_of out) fine))

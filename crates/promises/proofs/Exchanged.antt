-- Other numbers on queued records change no later sample: two submissions for different clock frames sound alike in either order, whatever blocks come after.
-- Assumes nothing.
use mathlib.Core.Path.{◌≡◌, refl, sym, ap, ap₂, ◌∙◌}
use mathlib.Core.Bool.{true}
use mathlib.Core.List.{List, [], ◌∷◌, ◌++◌, map, map-id}
use Prim.Native.Nat.{ℕ}
use lib.ListN.{length, length-map}
use lib.Ieee.{Float}
use Rattle.laws.specs.Block.{Machine, Ran, stand, ran, block as block_from}
use Rattle.laws.proofs.Lists.{each_all, pairwise_images, drop_map}
use Rattle.laws.proofs.Queue.{block_left}
use Rattle.laws.proofs.Mapped.{block_mapped}
use Rattle.timeline.specs.declared.QueueRecord.{QueueRecord}
use Rattle.timeline.specs.declared.Submission.{Submission}
use Rattle.timeline.specs.Queue.{queue}
use Rattle.transport.specs.declared.At.{At}
use Rattle.bank.specs.Sample.{frames_of}
use Rattle.bank.specs.Recording.{View, view_of}
use Rattle.stage.specs.declared.Settings.{Settings}
use Rattle.stage.specs.declared.Stage.{Stage}
use Rattle.stage.specs.Machine.{Told, FrameMade, machine_of}
use Rattle.stage.proofs.Clock.{clocked}
use Rattle.session.specs.declared.Session.{Session}
use Rattle.session.specs.WellFormed.{well_formed}
use Rattle.session.proofs.Refuse.{unless_both}
use Rattle.session.specs.declared.Answered.{Answered}
use Rattle.block.specs.Block.{weigh_block, ran_of, block_done, block_of, reported}
use Rattle.block.proofs.Queue.{queue_ran}
use Rattle.submission.specs.Submit.{submit_of}
use Rattle.submission.specs.Order.{accepted, waiting, recorded, exchanged, last_exchanged}
use Rattle.submission.proofs.Order.{either_order}
use Rattle.promises.specs.Calls.{State, submit, block, refusal, after}
use Rattle.promises.specs.Kept.{Good}
use Rattle.promises.specs.Exchanged.{Exchanged, SoundAlike, LaterBlocks, EitherOrder}
use Rattle.promises.proofs.Fine.{accepts}
use Rattle.promises.proofs.Kept.{keeps}

-- ---- a block

module _ (a b : ℕ) where
  -- what is told of a record under its exchanged number
  abbrev told_by : Told → Told
  told_by t = record { command = exchanged a b t.command; clock = t.clock; before = t.before; after = t.after }

  -- a stage's block over the exchanged records is the block, with what it leaves queued exchanged
  stage_exchanged : (x : Settings) (view : View) (n : ℕ) (s : Stage) (l : List QueueRecord)
      → let m : Machine Stage QueueRecord FrameMade Told = machine_of x view in
      let r : Ran Stage QueueRecord FrameMade Told = block_from m n (stand s l) in
      block_from m n (stand s (map (exchanged a b) l)) ≡ ran (stand r.at.core (map (exchanged a b) r.at.queue)) r.made (map told_by r.told)
  stage_exchanged x view n s l =
      let m : Machine Stage QueueRecord FrameMade Told = machine_of x view in
      block_mapped (λ c. c) (λ p. p) told_by (λ c. Unit {0}) (λ d d'. d' ≡ exchanged a b d) m m
      (record {
        clocks = λ c p. refl;
        execs = λ d d' c p h. rw h;
        tells = λ d d' c p h. rw h;
        nexts = λ c p. refl;
        makes = λ c p. refl;
        keeps = λ d d' c p h. tt;
        goes = λ c p. tt;
      })
      (clocked x view) n s l (map (exchanged a b) l) tt (pairwise_images _ (exchanged a b) l (each_all _ (λ d. (refl, λ h. refl)) l))
      ∙ simp (map-id, drop_map, block_left m n (stand s l))

  module _ (s : Session) (q r c d : List ℕ) (pool : List Float) (e : waiting s q ≡ map (exchanged a b) (waiting s r)) where
    -- n frames over two stores whose records are so exchanged
    ran_exchanged : (n : ℕ) → let z : Ran Stage QueueRecord FrameMade Told = ran_of s r pool n in
        ran_of s q pool n ≡ ran (stand z.at.core (map (exchanged a b) z.at.queue)) z.made (map told_by z.told)
    unfolding ran_of
    ran_exchanged n =
        let view : View = view_of pool s.bank in
        ap (λ (l : List QueueRecord). block_from (machine_of s.settings view) n (stand s.stage l)) e
        ∙ stage_exchanged s.settings view n s.stage (queue r s.queued)

    -- make the same and leave the same,
    done_exchanged : (n : ℕ) → block_done s (ran_of s q pool n) ≡ block_done s (ran_of s r pool n)
    done_exchanged n = rw (ran_exchanged n, length-map)

    -- so the calls give the same,
    block_exchanged : well_formed s q c ≡ true → well_formed s r d ≡ true → (out : List Float) → block_of s q c pool out ≡ block_of s r d pool out
    unfolding block_of weigh_block
    block_exchanged f g out = rw (f, g, done_exchanged (frames_of out))

    -- and what is then queued is so exchanged again,
    queue_exchanged : (out : List Float)
        → let z : Session = (block_of s r d pool out).0.session in waiting z q ≡ map (exchanged a b) (waiting z r)
    unfolding block_of
    queue_exchanged out =
        unless_both {A = Answered ℕ × List Float} _ _ _ (λ z. waiting z.0.session q ≡ map (exchanged a b) (waiting z.0.session r)) (λ k. e) (λ fine. left (frames_of out))
      where
        left : (n : ℕ) → queue q (length (ran_of s r pool n).at.queue) ≡ map (exchanged a b) (queue r (length (ran_of s r pool n).at.queue))
        left n = rw (ran_exchanged n, length-map) at (queue_ran s q pool n) ∙ ap (map (exchanged a b)) (sym (queue_ran s r pool n))

  -- as is what is captured
  capture_exchanged : (s : Session) (r c d : List ℕ) (pool : List Float) → recorded s c ≡ last_exchanged (map (exchanged a b) (recorded s d)) → (out : List Float)
      → let z : Session = (block_of s r d pool out).0.session in recorded z c ≡ last_exchanged (map (exchanged a b) (recorded z d))
  unfolding block_of
  capture_exchanged s r c d pool e out =
      unless_both {A = Answered ℕ × List Float} _ _ _ (λ z. recorded z.0.session c ≡ last_exchanged (map (exchanged a b) (recorded z.0.session d))) (λ k. e) (λ fine. e)

  -- ---- later blocks

  module _ (x y : State) (f : Good x) (g : Good y) (e : Exchanged a b x y) (out : List Float) where
    formed : well_formed y.session x.queue x.capture ≡ true
    formed = rw e.session at f.formed

    waits : waiting y.session x.queue ≡ map (exchanged a b) (waiting y.session y.queue)
    waits = rw e.session at e.queue

    records : recorded y.session x.capture ≡ last_exchanged (map (exchanged a b) (recorded y.session y.capture))
    records = rw e.session at e.capture

    -- one block gives the same of both,
    step_same : block_of x.session x.queue x.capture x.pool out ≡ block_of y.session y.queue y.capture y.pool out
    step_same = rw (e.session, e.pool) (block_exchanged y.session x.queue y.queue x.capture y.capture y.pool waits formed g.formed out)

    -- and leaves them so exchanged
    step_exchanged : Exchanged a b (after (block out) x) (after (block out) y)
    step_exchanged =
        record {
          session = ap (λ (z : Answered ℕ × List Float). z.0.session) step_same;
          pool = e.pool;
          queue = rw step_same (queue_exchanged y.session x.queue y.queue x.capture y.capture y.pool waits out);
          capture = rw step_same (capture_exchanged y.session y.queue x.capture y.capture y.pool records out);
        }

-- blocks after blocks
pub later_blocks : LaterBlocks
later_blocks a b x y f g e [] = (refl, refl, e)
later_blocks a b x y f g e (out ∷ outs) =
    let r : SoundAlike a b outs (after (block out) x) (after (block out) y) =
    later_blocks a b (after (block out) x) (after (block out) y) (keeps (block out) x tt f) (keeps (block out) y tt g) (step_exchanged a b x y f g e out) outs in
    let s = step_same a b x y f g e out in
    (ap₂ ◌++◌ (ap (λ (z : Answered ℕ × List Float). z.1) s) r.0, ap₂ ◌∷◌ (ap (λ (z : Answered ℕ × List Float). reported z.0.answer) s) r.1, r.2)

-- ---- either order

-- a submission that is not refused is accepted
pub submit_accepts : (x : State) (y : Submission) (at : At) → refusal (submit y at) x ≡ 0 → accepted (submit_of x.session x.queue x.capture y at).0.answer ≡ true
submit_accepts x y at = accepts (submit_of x.session x.queue x.capture y at).0.answer

-- two submissions for different clock frames sound alike in either order
pub either_order_sounds : EitherOrder
either_order_sounds x y z at bt g ty tz apart y1 z2 z1 y2 outs =
    let o = either_order x.session x.queue x.capture y z at bt ty tz apart (submit_accepts x y at y1) (submit_accepts (after (submit y at) x) z bt z2) (submit_accepts x z bt z1) (submit_accepts (after (submit z bt) x) y at y2) in
    later_blocks _ _ (after (submit z bt) (after (submit y at) x)) (after (submit y at) (after (submit z bt) x))
    (keeps (submit z bt) (after (submit y at) x) tz (keeps (submit y at) x ty g)) (keeps (submit y at) (after (submit z bt) x) ty (keeps (submit z bt) x tz g))
    (record { session = o.session; pool = refl; queue = o.queue; capture = o.capture }) outs

-- A submission for a named clock frame past a block's end, before the block and after it, at the calls. Assumes nothing.
use mathlib.Core.Path.{◌≡◌, refl, sym, ap, ap₂, ◌∙◌, subst}
use mathlib.Core.Bool.{true}
use mathlib.Core.List.{List, [], ◌∷◌, ◌++◌}
use Prim.Native.Nat.{ℕ, ◌+◌, ◌<◌}
use lib.ListN.{length}
use lib.Ieee.{Float}
use Rattle.laws.specs.Block.{Ran, stand, block as block_from}
use Rattle.laws.specs.Queue.{insert_ran}
use Rattle.counts.specs.declared.ClockFrame.{ClockFrame}
use Rattle.timeline.specs.declared.QueueRecord.{QueueRecord}
use Rattle.timeline.specs.declared.Submission.{Submission}
use Rattle.timeline.specs.Command.{command_of, typed}
use Rattle.timeline.specs.Queue.{queue}
use Rattle.transport.specs.declared.At.{At}
use Rattle.bank.specs.declared.Bank.{Bank}
use Rattle.bank.specs.Sample.{frames_of}
use Rattle.bank.specs.Recording.{View, view_of}
use Rattle.stage.specs.declared.Settings.{Settings}
use Rattle.stage.specs.declared.Stage.{Stage}
use Rattle.stage.specs.Machine.{Told, FrameMade, machine_of, output_of, passes_of}
use Rattle.session.specs.declared.Session.{Session}
use Rattle.session.specs.declared.Refusal.{Refusal}
use Rattle.session.specs.Refusal.{unless}
use Rattle.session.specs.Session.{with_stage}
use Rattle.session.specs.declared.Answered.{Answered}
use Rattle.session.specs.Answer.{answered}
use Rattle.block.specs.Block.{weigh_block, ran_of, block_done, block_of, reported}
use Rattle.block.proofs.Weigh.{Accepted, block_done_law}
use Rattle.block.proofs.Queue.{queue_ran}
use Rattle.submission.specs.Submit.{submit_of}
use Rattle.submission.specs.Order.{waiting, shallow, then_block, AlikeButDeepest}
use Rattle.submission.proofs.Later.{either_side}
use Rattle.submission.proofs.Later as submission
use Rattle.submission.proofs.Left.{record_for}
use Rattle.promises.specs.Calls.{State, submit, block, with_session, refusal, after, out_of, report_of}
use Rattle.promises.specs.Kept.{Good}
use Rattle.promises.specs.Later.{SameButDeepest, SoundSame, SoundOn, Later}
use Rattle.submission.proofs.Leaves.{heart, submit_leaves}
use Rattle.promises.proofs.Fine.{both, block_accepts, block_says_law}
use Rattle.promises.proofs.Exchanged.{submit_accepts}
use Rattle.promises.proofs.Kept.{keeps}
use Rattle.std.specs.Prelude.{Result, Err}

-- ---- later blocks

module _ (x y : State) (f : Good x) (g : Good y) (e : SameButDeepest x y) where
  settings : x.session.settings ≡ y.session.settings
  settings = ap (λ (s : Session). s.settings) e.session

  bank : x.session.bank ≡ y.session.bank
  bank = ap (λ (s : Session). s.bank) e.session

  stage : x.session.stage ≡ y.session.stage
  stage = ap (λ (s : Session). s.stage) e.session

  -- the frames are the same,
  ran_same : (n : ℕ) → ran_of x.session x.queue x.pool n ≡ ran_of y.session y.queue y.pool n
  unfolding ran_of
  ran_same n = rw (settings, bank, stage, e.pool, e.queue)

  -- and what is weighed,
  weighs_same : (out : List Float) → weigh_block x.session x.queue x.capture x.pool out ≡ weigh_block y.session y.queue y.capture y.pool out
  unfolding weigh_block
  weighs_same out = rw (f.formed, g.formed, settings, stage, e.pool)

  -- so a block makes the same of both and leaves them the same but for the deepest depth
  abbrev Same : Answered ℕ × List Float → Answered ℕ × List Float → Type 0
  Same a b = (a.1 ≡ b.1) × (reported a.0.answer ≡ reported b.0.answer) × SameButDeepest (with_session x a.0.session) (with_session y b.0.session)

  step_same : (out : List Float) → Same (block_of x.session x.queue x.capture x.pool out) (block_of y.session y.queue y.capture y.pool out)
  unfolding block_of
  step_same out =
      subst (λ (w : Result (Unit {0}) Refusal). Same (unless w (refused x.session) (block_done x.session a)) (unless (weigh_block y.session y.queue y.capture y.pool out) (refused y.session) (block_done y.session b)))
      (sym (weighs_same out))
      (both (weigh_block y.session y.queue y.capture y.pool out) (refused x.session) (block_done x.session a) (refused y.session) (block_done y.session b) Same
      (λ k. (refl, refl, e)) (made, passes, record { session = sessions; pool = e.pool; queue = queues; capture = e.capture }))
    where
      n : ℕ
      n = frames_of out

      refused : Session → Refusal → Answered ℕ × List Float
      refused s k = (answered (Err k) s, out)

      a : Ran Stage QueueRecord FrameMade Told
      a = ran_of x.session x.queue x.pool n

      b : Ran Stage QueueRecord FrameMade Told
      b = ran_of y.session y.queue y.pool n

      made : (block_done x.session a).1 ≡ (block_done y.session b).1
      made = rw (ran_same n)

      passes : reported (block_done x.session a).0.answer ≡ reported (block_done y.session b).0.answer
      passes = rw (ran_same n)

      sessions : shallow (with_stage x.session a.at.core (length a.at.queue)) ≡ shallow (with_stage y.session b.at.core (length b.at.queue))
      sessions = rw (ran_same n) (ap (λ (s : Session). with_stage s b.at.core (length b.at.queue)) e.session)

      queues : queue x.queue (length a.at.queue) ≡ queue y.queue (length b.at.queue)
      queues =
          queue_ran x.session x.queue x.pool n ∙ ap (λ (r : Ran Stage QueueRecord FrameMade Told). r.at.queue) (ran_same n)
          ∙ sym (queue_ran y.session y.queue y.pool n)

-- blocks after blocks
pub sound_on : SoundOn
sound_on x y f g e [] = (refl, refl, e)
sound_on x y f g e (out ∷ outs) =
    let s = step_same x y f g e out in
    let r : SoundSame outs (after (block out) x) (after (block out) y) =
    sound_on (after (block out) x) (after (block out) y) (keeps (block out) x tt f) (keeps (block out) y tt g) s.2 outs in
    (ap₂ ◌++◌ s.0 r.0, ap₂ ◌∷◌ s.1 r.1, r.2)

-- ---- before and after

module _ (x : State) (y : Submission) (f : ClockFrame) (out : List Float) (g : Good x) (t : typed (command_of y) ≡ true)
    (past : x.session.stage.clock.0 + frames_of out < f.0) (b : refusal (block out) x ≡ 0) (first : refusal (submit y (At.Frame f)) x ≡ 0)
    (then : refusal (submit y (At.Frame f)) (after (block out) x) ≡ 0) where
  abbrev s : Session
  s = x.session

  abbrev z : Answered ℕ × List ℕ × List ℕ
  z = submit_of s x.queue x.capture y (At.Frame f)

  abbrev view : View
  view = view_of x.pool s.bank

  abbrev alone : Ran Stage QueueRecord FrameMade Told
  alone = ran_of s x.queue x.pool (frames_of out)

  abbrev joined : Ran Stage QueueRecord FrameMade Told
  joined = ran_of z.0.session z.1 x.pool (frames_of out)

  kept : heart z.0.session ≡ heart s
  kept = submit_leaves s x.queue x.capture y (At.Frame f)

  settings_kept : z.0.session.settings ≡ s.settings
  settings_kept = ap (λ (r : Settings × Bank × Stage). r.0) kept

  bank_kept : z.0.session.bank ≡ s.bank
  bank_kept = ap (λ (r : Settings × Bank × Stage). r.1) kept

  stage_kept : z.0.session.stage ≡ s.stage
  stage_kept = ap (λ (r : Settings × Bank × Stage). r.2) kept

  good : Good (after (submit y (At.Frame f)) x)
  good = keeps (submit y (At.Frame f)) x t g

  a : Accepted s x.queue x.capture x.pool out
  a = block_accepts x out b

  -- the block is accepted after the submission too,
  c : Accepted z.0.session z.1 z.2 x.pool out
  c = record { formed = good.formed; lent = good.pooled; even = a.even; clock = rw stage_kept a.clock }

  -- its frames are those of the stage and the queue that the submission left,
  joined_is : joined ≡ block_from (machine_of s.settings view) (frames_of out) (stand z.0.session.stage (waiting z.0.session z.1))
  unfolding ran_of
  joined_is = rw (settings_kept, bank_kept)

  -- which make the same, and leave the command queued
  ran_joined : joined ≡ insert_ran (machine_of s.settings view) (record_for s (command_of y) (At.Frame f)) alone
  unfolding ran_of
  ran_joined = joined_is ∙ submission.block_later s x.queue x.capture y t f (submit_accepts x y (At.Frame f) first) view (frames_of out) past

  same_samples : out_of (after (submit y (At.Frame f)) x) out ≡ out_of x out
  same_samples =
      ap (λ (r : Answered ℕ × List Float). r.1) (block_done_law z.0.session z.1 z.2 x.pool out c)
      ∙ ap (λ (r : Ran Stage QueueRecord FrameMade Told). output_of r.made) ran_joined
      ∙ sym (ap (λ (r : Answered ℕ × List Float). r.1) (block_done_law s x.queue x.capture x.pool out a))

  same_passes : report_of (after (submit y (At.Frame f)) x) out ≡ report_of x out
  same_passes =
      ap (λ (r : Answered ℕ × List Float). reported r.0.answer) (block_done_law z.0.session z.1 z.2 x.pool out c)
      ∙ ap (λ (r : Ran Stage QueueRecord FrameMade Told). passes_of r.made) ran_joined
      ∙ sym (ap (λ (r : Answered ℕ × List Float). reported r.0.answer) (block_done_law s x.queue x.capture x.pool out a))

  -- the two sides
  sides : AlikeButDeepest (then_block z joined.at.core (length joined.at.queue))
      (submit_of (with_stage s alone.at.core (length alone.at.queue)) x.queue x.capture y (At.Frame f))
  unfolding ran_of
  sides =
      subst (λ (r : Ran Stage QueueRecord FrameMade Told). AlikeButDeepest (then_block z r.at.core (length r.at.queue)) (submit_of (with_stage s alone.at.core (length alone.at.queue)) x.queue x.capture y (At.Frame f)))
      (sym joined_is)
      (either_side s x.queue x.capture y t f (submit_accepts x y (At.Frame f) first) view (frames_of out) past
      (rw (block_done_law s x.queue x.capture x.pool out a) at (submit_accepts (after (block out) x) y (At.Frame f) then)))

-- accepted before the block and after it, it gives the same but for the deepest depth
pub later : Later
later x y f out g t past b first then =
    let one = sides x y f out g t past b first then in
    let p : State = after (block out) (after (submit y (At.Frame f)) x) in
    let q : State = after (submit y (At.Frame f)) (after (block out) x) in
    let e = block_done_law x.session x.queue x.capture x.pool out (a x y f out g t past b first then) in
    let d = block_done_law _ _ _ x.pool out (c x y f out g t past b first then) in
    record {
      accepted = block_says_law (after (submit y (At.Frame f)) x) out (c x y f out g t past b first then);
      samples = same_samples x y f out g t past b first then;
      passes = same_passes x y f out g t past b first then;
      answer = rw e one.answer;
      later = sound_on p q (keeps (block out) (after (submit y (At.Frame f)) x) tt (keeps (submit y (At.Frame f)) x t g)) (keeps (submit y (At.Frame f)) (after (block out) x) t (keeps (block out) x tt g))
          (record { session = rw (d, e) one.session; pool = refl; queue = rw (d, e) one.queue; capture = rw (d, e) one.capture });
    }

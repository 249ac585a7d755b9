-- 'A command other than a transition, for a named clock frame past a block's end and accepted both before and after that block, gives the same samples and
-- session but for the deepest queue seen.' Definitions only.
use Rattle.std.specs.Prelude.{ℕ, ◌≡◌, List, map, ◌+◌, ◌<◌, Float, Result}
use Rattle.counts.specs.declared.ClockFrame.{ClockFrame}
use Rattle.timeline.specs.declared.Submission.{Submission}
use Rattle.transport.specs.declared.At.{At}
use Rattle.bank.specs.Sample.{frames_of}
use Rattle.submission.specs.Submit.{submit_of}
use Rattle.submission.specs.Order.{waiting, recorded, shallow}
use Rattle.promises.specs.Calls.{State, submit, block, refusal, after, after_all, out_of, report_of, heard_all, reports, Given}
use Rattle.promises.specs.Kept.{Good}
use Rattle.session.specs.declared.Refusal.{Refusal}

-- the same but for the deepest depth; of the stores the records count, not the words behind them
pub record SameButDeepest (x y : State) : Type 0 where
  pub session : shallow x.session ≡ shallow y.session
  pub pool : x.pool ≡ y.pool
  pub queue : waiting x.session x.queue ≡ waiting y.session y.queue
  pub capture : recorded x.session x.capture ≡ recorded y.session y.capture

-- what a submission answers: its number, or its refusal
abbrev pub answer_of : Submission → At → State → Result ℕ Refusal
answer_of y at x = (submit_of x.session x.queue x.capture y at).0.answer

-- blocks make the same samples of both, report the same passes, and leave them the same but for that
abbrev pub SoundSame : List (List Float) → State → State → Type 0
SoundSame outs x y =
    (heard_all (map block outs) x ≡ heard_all (map block outs) y) × (reports outs x ≡ reports outs y)
    × SameButDeepest (after_all (map block outs) x) (after_all (map block outs) y)

-- of any two such states
abbrev pub SoundOn : Type 0
SoundOn = (x y : State) → Good x → Good y → SameButDeepest x y → (outs : List (List Float)) → SoundSame outs x y

-- a submission before a block and after it
pub record EitherSide (y : Submission) (f : ClockFrame) (out : List Float) (x : State) : Type 0 where
  -- the block is accepted after it too,
  pub accepted : refusal (block out) (after (submit y (At.Frame f)) x) ≡ 0
  -- with the same samples and passes,
  pub samples : out_of (after (submit y (At.Frame f)) x) out ≡ out_of x out
  pub passes : report_of (after (submit y (At.Frame f)) x) out ≡ report_of x out
  -- the submission is given the same number,
  pub answer : answer_of y (At.Frame f) x ≡ answer_of y (At.Frame f) (after (block out) x)
  -- and the states are the same but for the deepest depth, now and after any later blocks
  pub later : (outs : List (List Float)) → SoundSame outs (after (block out) (after (submit y (At.Frame f)) x)) (after (submit y (At.Frame f)) (after (block out) x))

abbrev pub Later : Type 0
Later =
    (x : State) (y : Submission) (f : ClockFrame) (out : List Float) → Good x → Given (submit y (At.Frame f)) → x.session.stage.clock.0 + frames_of out < f.0
    → refusal (block out) x ≡ 0 → refusal (submit y (At.Frame f)) x ≡ 0 → refusal (submit y (At.Frame f)) (after (block out) x) ≡ 0
    → EitherSide y f out x

-- 'The session keeps laps since the loop was set, and a block reports the passes made in it, resets aside.' How the two hang together in every session
-- reached from opening. Definitions only.
use Rattle.std.specs.Prelude.{◌≡◌, Bool, true, false, List, ◌+◌, ◌-◌, ◌^◌, min, Float, None}
use Rattle.laws.specs.Queue.{Each}
use Rattle.timeline.specs.declared.Command.{Command}
use Rattle.bank.specs.Sample.{frames_of}
use Rattle.stage.specs.Machine.{Told}
use Rattle.session.specs.Reading.{loop_range_of, laps_of}
use Rattle.block.specs.Block.{ran_of}
use Rattle.promises.specs.Calls.{State, block, refusal, after, report_of, Reached}

-- setting or clearing a loop and a swap can make the laps 0
abbrev pub sets_back : Command → Bool
sets_back Command.Play = false
sets_back Command.Pause = false
sets_back Command.Stop = false
sets_back (Command.Seek f) = false
sets_back (Command.Transition f) = false
sets_back (Command.Loop a e) = true
sets_back Command.ClearLoop = true
sets_back (Command.Gain g) = false
sets_back (Command.Swap h) = true
sets_back (Command.Stinger h g) = false

-- what a block executes
abbrev pub executed_in : State → List Float → List Told
executed_in x out = (ran_of x.session x.queue x.pool (frames_of out)).told

pub record Laps : Type 0 where
  -- without a loop there are no laps,
  pub none : (x : State) → Reached x → loop_range_of x.session ≡ None → laps_of x.session ≡ 0
  -- and a block that executes nothing of the kind raises them by the passes that it reports; they stop at 2^64 - 1
  pub rise : (x : State) (out : List Float) → Reached x → refusal (block out) x ≡ 0 → Each (λ t. sets_back t.command.command ≡ false) (executed_in x out)
      → laps_of (after (block out) x).session ≡ min (laps_of x.session + report_of x out) (2 ^ 64 - 1)

-- The block. Definitions only.
use Rattle.std.specs.Prelude.{ℕ, ◌+◌, ◌^◌, not, List, [], ◌∷◌, ◌++◌, ltb, length, Float, Result, Ok, Err}
use Rattle.laws.specs.Block.{Ran, stand, block}
use Rattle.timeline.specs.declared.QueueRecord.{QueueRecord}
use Rattle.timeline.specs.Queue.{queue}
use Rattle.bank.specs.Sample.{frames_of, is_pool, is_odd}
use Rattle.bank.specs.declared.Bank.{Bank}
use Rattle.bank.specs.Recording.{view_of}
use Rattle.stage.specs.declared.Settings.{Settings}
use Rattle.stage.specs.declared.Stage.{Stage}
use Rattle.stage.specs.Machine.{Told, FrameMade, machine_of, output_of, passes_of}
use Rattle.session.specs.declared.Desk.{Desk}
use Rattle.session.specs.declared.Session.{Session}
use Rattle.session.specs.declared.Refusal.{Refusal}
use Rattle.session.specs.Refusal.{first, unless}
use Rattle.session.specs.Session.{with_stage}
use Rattle.session.specs.WellFormed.{well_formed}
use Rattle.session.specs.Answer.{answered}
use Rattle.session.specs.declared.Answered.{Answered}

-- the session of its parts
abbrev pub of_parts : Settings → Bank → Stage → ℕ → Desk → Session
of_parts x b t n d = record { settings = x; bank = b; stage = t; queued = n; desk = d }

-- 1, 2, 3, 4
unfoldable pub weigh_block : Session → List ℕ → List ℕ → List Float → List Float → Result (Unit {0}) Refusal
weigh_block s q c pool out =
    first (not (well_formed s q c)) Refusal.NotWellFormed
    (first (not (is_pool pool s.settings.pool)) Refusal.PoolLength
    (first (is_odd out) Refusal.OddSamples (first (ltb (2 ^ 62) (s.stage.clock.0 + frames_of out)) Refusal.ClockSpent (Ok tt))))

-- n frames of the stage, over the bank's clips in the pool and the queue's records
unfoldable pub ran_of : Session → List ℕ → List Float → ℕ → Ran Stage QueueRecord FrameMade Told
ran_of s q pool n = block (machine_of s.settings (view_of pool s.bank)) n (stand s.stage (queue q s.queued))

-- it answers the passes made in it, whatever set the laps back; the stage is where the block came to, and what it did not execute stays queued; the
-- output is what its frames made
abbrev pub block_done : Session → Ran Stage QueueRecord FrameMade Told → Answered ℕ × List Float
block_done s r = (answered (Ok (passes_of r.made)) (with_stage s r.at.core (length r.at.queue)), output_of r.made)

-- answer and session; output
unfoldable pub block_of : Session → List ℕ → List ℕ → List Float → List Float → Answered ℕ × List Float
block_of s q c pool out =
    unless (weigh_block s q c pool out) (λ k. (answered (Err k) s, out)) (block_done s (ran_of s q pool (frames_of out)))

-- the passes that an answer reports; a refused block makes none
abbrev pub reported : Result ℕ Refusal → ℕ
reported (Ok n) = n
reported (Err k) = 0

-- blocks one after the other, each on the session that the one before it left: the last session, the passes added up, and the outputs joined
abbrev pub blocks_of : Session → List ℕ → List ℕ → List Float → List (List Float) → Session × ℕ × List Float
blocks_of s q c pool [] = (s, 0, [])
blocks_of s q c pool (out ∷ outs) =
    let x : Answered ℕ × List Float = block_of s q c pool out in
    let y : Session × ℕ × List Float = blocks_of x.0.session q c pool outs in
    (y.0, reported x.0.answer + y.1, x.1 ++ y.2)

-- one output of all their frames
abbrev pub joined : List (List Float) → List Float
joined [] = []
joined (out ∷ outs) = out ++ joined outs

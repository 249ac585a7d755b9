-- The parts of a pump, over a session's parts. Definitions only.
use Rattle.std.specs.Prelude.{ℕ, ◌+◌, ◌^◌, ◌≤◌, ◌≡◌, true, List, Float, Result, Ok}
use Rattle.bank.specs.Sample.{is_pool}
use Rattle.bank.specs.declared.Bank.{Bank}
use Rattle.stage.specs.declared.Settings.{Settings}
use Rattle.stage.specs.declared.Stage.{Stage}
use Rattle.session.specs.declared.Desk.{Desk}
use Rattle.session.specs.declared.Answered.{Answered}
use Rattle.block.specs.declared.Made.{Made}
use Rattle.session.specs.Answer.{answered}
use Rattle.block.specs.Block.{of_parts, reported}
use Rattle.block.specs.Fill.{Going}
use Rattle.pump.specs.Pump.{block_into}
use Rattle.session.specs.declared.Refusal.{Refusal}

-- so many frames can be made, over a pool of its length, before the clock's end
pub record Pumpable (x : Settings) (b : Bank) (t : Stage) (n : ℕ) (q : List ℕ) (pool : List Float) (frames : ℕ) : Type 0 where
  pub going : Going x b t n q
  pub lent : is_pool pool x.pool ≡ true
  pub clock : t.clock.0 + frames ≤ 2 ^ 62

-- so many frames are made into a store from a place on, whatever the desk: what they make, and the store after them
abbrev pub MadeInto : Settings → Bank → Stage → ℕ → List ℕ → List Float → List Float → ℕ → ℕ → Made → List Float → Type 0
MadeInto x b t n q pool store at frames m after =
    (desk : Desk) → ◌≡◌ {A = Answered ℕ × List Float} (answered m.answer (of_parts x b m.stage m.queued desk), after) (block_into (of_parts x b t n desk) q pool store at frames)

-- what frames make after others: the passes of all
abbrev pub made_after : Result ℕ Refusal → Made → Made
made_after before m = record { answer = Ok (reported before + reported m.answer); stage = m.stage; queued = m.queued }

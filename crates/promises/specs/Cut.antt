-- 'An accepted block cut between frames, with no call between, gives the same samples and final session', and 'a cut block's reported laps add up'.
-- Definitions only.
use Rattle.std.specs.Prelude.{◌≡◌, false, List, [], ◌∷◌, map, ℕ, ◌+◌, Float}
use Rattle.laws.specs.Queue.{Each}
use Rattle.bank.specs.Sample.{is_odd}
use Rattle.block.specs.Block.{joined}
use Rattle.promises.specs.Calls.{State, block, refusal, after, after_all, out_of, report_of, heard_all, reports}
use Rattle.promises.specs.Kept.{Good}

-- each block is accepted, on the state that the one before it left
abbrev pub AllAccepted : List (List Float) → State → Type 0
AllAccepted [] x = Unit {0}
AllAccepted (out ∷ outs) x = (refusal (block out) x ≡ 0) × AllAccepted outs (after (block out) x)

-- added up
abbrev pub sum : List ℕ → ℕ
sum [] = 0
sum (n ∷ ns) = n + sum ns

-- a block in pieces
pub record InPieces (outs : List (List Float)) (x : State) : Type 0 where
  pub accepted : AllAccepted outs x
  pub samples : heard_all (map block outs) x ≡ out_of x (joined outs)
  pub passes : sum (reports outs x) ≡ report_of x (joined outs)
  pub state : after_all (map block outs) x ≡ after (block (joined outs)) x

-- each a whole number of frames, 0 included
abbrev pub Cut : Type 0
Cut = (x : State) (outs : List (List Float)) → Good x → refusal (block (joined outs)) x ≡ 0 → Each (λ out. is_odd out ≡ false) outs → InPieces outs x

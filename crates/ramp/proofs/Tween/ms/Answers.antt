-- `ramp::Tween::ms` meets its contract: what is past 2^32 - 1 is held there. Assumes nothing.
use Rattle.std.proofs.Common.{◌≡◌, ℕ, ◌-◌, ◌^◌, ◌<◌, ◌≤◌, min, Result, Ok, Err, ap, ◌∙◌, arith}
use Rattle.std.specs.Result.{OkIff, result_unwrap_or}
use Rattle.counts.proofs.Truth.{lt_or_le}
use mathlib.Core.Logic.{⊎_elim}
use Rattle.ramp.specs.Ramp.{ms_tween, tween_of}
use Rattle.ramp.proofs.Tween.ms.Goals as goal

-- a number that has 32 bits, or else the greatest one that has
held : {E : Type 0} (r : Result ℕ E) (x : ℕ) → OkIff r (x < 2 ^ 32) x → result_unwrap_or r (2 ^ 32 - 1) ≡ min x (2 ^ 32 - 1)
held (Ok y) x (p, e) = omega arith
held (Err d) x n = ⊎_elim (λ (p : x < 2 ^ 32). absurd (n p)) (λ (p : 2 ^ 32 ≤ x). omega arith) (lt_or_le x (2 ^ 32))

pub returns : goal.returns
unfolding ms_tween
returns c = ap tween_of (c.unwrap_or.ensures ∙ held _ _ c.try_from.ensures)

-- `bank::bank_ok` meets its contract: what is asked of a slot held at every slot passed, and of each lower one beside it. Assumes nothing.
use Rattle.std.proofs.Common.{◌≡◌, ℕ, ◌<◌, true}
use Rattle.bank.specs.WellFormed.{beside_ok, slot_ok}
use Rattle.bank.proofs.bank_ok.Given as goal

abbrev pub invariant-loop-j : goal.invariant-loop-j
invariant-loop-j l = (k : ℕ) → k < l.j → beside_ok l.b l.c k ≡ true

abbrev pub invariant-loop-i : goal.invariant-loop-i
invariant-loop-i l = (k : ℕ) → k < l.i → slot_ok l.b l.room k ≡ true

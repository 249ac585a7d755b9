-- `bank::first_fit` meets its contract: the lowest start of the slots passed. Assumes nothing.
use Rattle.std.proofs.Common.{◌≡◌}
use Rattle.bank.specs.Room.{start_at}
use Rattle.bank.proofs.Candidates.{best_of}
use Rattle.bank.proofs.first_fit.Given as goal

abbrev pub invariant-loop-i : goal.invariant-loop-i
invariant-loop-i l = l.best ≡ start_at (best_of l.b l.room l.n l.i)

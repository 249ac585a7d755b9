-- `runs::voices_ahead` meets its contract. Assumes nothing.
use Rattle.runs.proofs.Looking.{Looking}
use Rattle.runs.proofs.voices_ahead.Given as goal

abbrev pub invariant-loop-i : goal.invariant-loop-i
invariant-loop-i l = Looking l.pool l.bank l.most l.voices l.least l.i

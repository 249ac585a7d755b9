-- `run_end` meets its contract.
use mathlib.Core.Path.{◌≡◌}
use lib.ListN.{length}
use Rattle.remains.specs.Steps.{run_end}
use Rattle.remains.proofs.run_end.Given as goal

abbrev pub invariant-loop-at : goal.invariant-loop-at
invariant-loop-at l = run_end (length l.file) l.file (record { at = l.at; count = l.p.count; last = l.p.last }) ≡ run_end (length l.file) l.file l.p

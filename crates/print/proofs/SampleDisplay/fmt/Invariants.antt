use Rattle.std.proofs.Common.{◌<◌}
use Rattle.print.proofs.SampleDisplay.fmt.Given as goal

abbrev pub invariant-loop : goal.invariant-loop
invariant-loop g l = l.rest < 16777216

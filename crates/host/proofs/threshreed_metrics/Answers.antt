-- `threshreed_metrics` meets its contract: its session matched, then called.
use mathlib.Core.Bool.{true}
use Rattle.host.specs.Calls.{metrics_host}
use Rattle.host.proofs.Named.{named_is, named_not, call_unmatched, call_matched}
use Rattle.host.proofs.threshreed_metrics.Goals as goal

pub returns-in_default : goal.returns-in_default
unfolding metrics_host
returns-in_default c = call_unmatched c.args.h _ _ _ _ true (named_not _ _ _ c.in_default.ensures) (rw c.metrics_refused.ensures)

pub returns : goal.returns
unfolding metrics_host
returns c = let fine = named_is _ _ _ c.in-Ok.ensures in call_matched c.args.h _ _ _ _ fine.0 (rw (c.metered.ensures, ← fine.1, ← c.metrics-r.ensures))

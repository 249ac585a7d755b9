-- `threshreed_stop_capture` meets its contract: its session matched, then called.
use mathlib.Core.Bool.{true}
use Rattle.host.specs.Calls.{stop_capture_host}
use Rattle.host.proofs.Named.{named_is, named_not, call_unmatched, call_matched}
use Rattle.host.proofs.threshreed_stop_capture.Goals as goal

pub returns-in_default : goal.returns-in_default
unfolding stop_capture_host
returns-in_default c = call_unmatched c.args.h _ _ _ _ true (named_not _ _ _ c.in_default.ensures) (rw c.stop_refused.ensures)

pub returns : goal.returns
unfolding stop_capture_host
returns c = let fine = named_is _ _ _ c.in-Ok.ensures in call_matched c.args.h _ _ _ _ fine.0 (rw (c.stopped.ensures, ← fine.1, ← c.stop_capture-r.ensures))

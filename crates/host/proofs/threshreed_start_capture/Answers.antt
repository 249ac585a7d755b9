-- `threshreed_start_capture` meets its contract: its session matched, then called.
use mathlib.Core.Bool.{true}
use Rattle.host.specs.Calls.{start_capture_host}
use Rattle.host.proofs.Named.{named_is, named_not, call_unmatched, call_matched}
use Rattle.host.proofs.threshreed_start_capture.Goals as goal

pub returns-in_default : goal.returns-in_default
unfolding start_capture_host
returns-in_default c = call_unmatched c.args.h _ _ _ _ true (named_not _ _ _ c.in_default.ensures) (rw c.refused.ensures)

pub returns : goal.returns
unfolding start_capture_host
returns c = let fine = named_is _ _ _ c.in-Ok.ensures in call_matched c.args.h _ _ _ _ fine.0 (rw (c.answered.ensures, ← fine.1, ← c.start_capture-r.ensures))

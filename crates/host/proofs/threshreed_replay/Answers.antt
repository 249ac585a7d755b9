-- `threshreed_replay` meets its contract: its session matched, then called.
use mathlib.Core.Bool.{true}
use Rattle.host.specs.Calls.{replay_host}
use Rattle.host.proofs.Named.{named_is, named_not, call_unmatched, call_matched}
use Rattle.host.proofs.threshreed_replay.Goals as goal

pub returns-in_default : goal.returns-in_default
unfolding replay_host
returns-in_default c = call_unmatched c.args.h _ _ _ _ true (named_not _ _ _ c.in_default.ensures) (rw c.replay_refused.ensures)

pub returns : goal.returns
unfolding replay_host
returns c = let fine = named_is _ _ _ c.in-Ok.ensures in call_matched c.args.h _ _ _ _ fine.0 (rw (c.replayed.ensures, ← fine.1, ← c.replay-r.ensures))

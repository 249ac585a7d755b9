-- `threshreed_apply_snapshot` meets its contract: its session matched and its argument admitted, then called.
use mathlib.Core.Path.{sym}
use Rattle.host.specs.Calls.{apply_host}
use Rattle.host.proofs.Named.{named_is, named_not, call_unmatched, call_stays, call_does}
use Rattle.host.proofs.threshreed_apply_snapshot.Goals as goal

pub returns-in_default : goal.returns-in_default
unfolding apply_host
returns-in_default c = call_unmatched c.args.h _ _ _ _ _ (named_not _ _ _ c.in_default.ensures) (rw c.refused.ensures)

pub returns-in-Err : goal.returns-in-Err
unfolding apply_host
returns-in-Err c = let fine = named_is _ _ _ c.in-Ok.ensures in call_stays c.args.h _ _ _ _ _ c.try_into.ensures _ _ _ (sym (c.in-Err.ensures c.args.h fine.0 fine.1)) (rw c.refused-in-Err.ensures)

pub returns-in-Ok-admit : goal.returns-in-Ok-admit
unfolding apply_host
returns-in-Ok-admit c = let fine = named_is _ _ _ c.in-Ok.ensures in call_does c.args.h _ _ _ _ _ c.try_into.ensures _ _ _ _ (sym (c.in-Ok-admit.ensures c.args.h fine.0 fine.1)) (λ e d. rw (c.answered.ensures, ← e, ← d, ← c.apply_snapshot-r.ensures))

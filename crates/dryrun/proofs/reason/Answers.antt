-- `reason` meets its contract.
use mathlib.Core.Path.{sym, ap, ◌∙◌}
use Rattle.dryrun.specs.Replay.{reason_in}
use Rattle.dryrun.proofs.reason.Goals as goal

pub returns-in-Ok : goal.returns-in-Ok
returns-in-Ok c = ap reason_in (sym c.in-Ok.is ∙ c.weigh_replayed-weighed.ensures)

pub returns-in-Err : goal.returns-in-Err
returns-in-Err c = c.number.ensures ∙ ap reason_in (sym c.in-Err.is ∙ c.weigh_replayed-weighed.ensures)

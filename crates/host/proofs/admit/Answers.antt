-- `admit` meets its contract: each return is past the tests before it.
use mathlib.Core.Path.{sym, ◌∙◌}
use Rattle.host.proofs.Named.{admit_fine, admit_unnamed, admit_ill}
use Rattle.host.proofs.admit.Goals as goal

pub returns-in-Ok : goal.returns-in-Ok
returns-in-Ok g c h e f = rw c.in-Ok.is (sym (admit_fine h _ _ _ _ e f))

pub returns-then-well_formed : goal.returns-then-well_formed
returns-then-well_formed g c h e f = rw c.in-Err.is (sym (admit_unnamed h _ _ _ e (rw (← f) (sym c.well_formed-in-Err.ensures ∙ c.if-well_formed.true))))

pub returns-else-well_formed : goal.returns-else-well_formed
returns-else-well_formed g c h e f = rw c.in-Err.is (sym (admit_ill h _ _ _ e (rw (← f) (sym c.well_formed-in-Err.ensures ∙ c.if-well_formed.false))))

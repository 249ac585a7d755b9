-- `slot_of` meets its contract, one answer for each case.
use mathlib.Core.Path.{sym, ◌∙◌}
use Rattle.host.proofs.Named.{named_is, named_not, slot_is, slot_not, slot_free, kind_else}
use Rattle.host.proofs.slot_of.Goals as goal

pub returns-then-is_used : goal.returns-then-is_used
returns-then-is_used c = rw (slot_not _ _ _ (sym c.is_used.ensures ∙ c.if-is_used.true) (named_not _ _ _ c.in-Err.ensures))

pub returns-in-Ok : goal.returns-in-Ok
returns-in-Ok c = let fine = named_is _ _ _ c.in-Ok.ensures in rw (slot_is _ _ _ fine.0, fine.1)

pub returns-else-is_used : goal.returns-else-is_used
returns-else-is_used c = rw (slot_free _ _ _ (sym c.is_used.ensures ∙ c.if-is_used.false), ← kind_else c.args.c.kind c.args.c.extent (named_not _ _ _ c.in-Err.ensures))

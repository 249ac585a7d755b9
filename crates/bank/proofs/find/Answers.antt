-- `bank::find` meets its contract. Assumes nothing.
use mathlib.Core.Path.{sym, ◌∙◌}
use Rattle.bank.proofs.Clauses.{live_has}
use Rattle.bank.proofs.find.Goals as goal

pub clip_of-requires : goal.clip_of-requires
clip_of-requires c = (live_has _ _ (sym c.is_live.ensures ∙ c.if-not-is_live.false)).among

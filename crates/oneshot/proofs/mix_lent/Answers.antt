-- `oneshot::mix_lent` meets its contract: at most 16 voices are the table's frame, and more are refused. Assumes nothing.
use mathlib.Core.Path.{sym, ap, ◌∙◌}
use Rattle.oneshot.specs.Lent.{lent_mixed}
use Rattle.oneshot.proofs.Lent.{lent_few, lent_many}
use Rattle.oneshot.proofs.mix_lent.Goals as goal

pub returns-then-voices-gt-VOICES : goal.returns-then-voices-gt-VOICES
returns-then-voices-gt-VOICES c = sym (lent_many _ _ c.if-voices-gt-VOICES.true)

pub returns : goal.returns
returns c = ap lent_mixed c.mix_all.ensures ∙ sym (lent_few _ _ c.if-voices-gt-VOICES.false)

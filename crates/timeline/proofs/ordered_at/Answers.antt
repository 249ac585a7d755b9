-- `ordered_at` meets its contract: the last record has none below it.
use mathlib.Core.Path.{refl, sym}
use borrow.Author.Tests.{eq-eqb, ne_eqb}
use Rattle.timeline.specs.Queue.{ordered_at}
use Rattle.timeline.proofs.ordered_at.Goals as goal

pub returns-then-j-eq0 : goal.returns-then-j-eq0
unfolding ordered_at
returns-then-j-eq0 c = rw (eq-eqb _ _ c.if-j-eq0.true) refl

pub returns : goal.returns
unfolding ordered_at
returns c = rw (ne_eqb _ _ c.if-j-eq0.false, sym c.row_at.ensures, sym c.row_at-2.ensures) c.sooner.ensures

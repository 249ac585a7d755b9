-- `rising_at` meets its contract: the first record has none before it.
use mathlib.Core.Path.{refl, sym}
use borrow.Author.Tests.{eq-eqb, ne_eqb}
use Rattle.timeline.specs.Queue.{rising_at}
use Rattle.timeline.proofs.rising_at.Goals as goal

pub returns-then-j-eq0 : goal.returns-then-j-eq0
unfolding rising_at
returns-then-j-eq0 c = rw (eq-eqb _ _ c.if-j-eq0.true) refl

pub returns : goal.returns
unfolding rising_at
returns c = rw (ne_eqb _ _ c.if-j-eq0.false, sym c.row_at-x.ensures, sym c.row_at-y.ensures) refl

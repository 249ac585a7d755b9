-- `behind` meets its contract.
use mathlib.Core.Path.{refl}
use borrow.Author.Tests.{eq-eqb, ne_eqb}
use Rattle.tourfile.specs.Reader.{behind}
use Rattle.tourfile.proofs.behind.Goals as goal

pub returns-then-tag-eq2 : goal.returns-then-tag-eq2
unfolding behind
returns-then-tag-eq2 c = rw (← c.byte-tag.ensures, eq-eqb _ _ c.if-tag-eq2.true) (cc)

pub returns : goal.returns
unfolding behind
returns c = rw (← c.byte-tag.ensures, ne_eqb _ _ c.if-tag-eq2.false) refl

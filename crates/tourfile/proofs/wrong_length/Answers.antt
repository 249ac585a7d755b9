-- `wrong_length` meets its contract.
use borrow.Author.Tests.{eq-eqb, ne_eqb}
use Rattle.tourfile.specs.Reader.{wrong_length}
use Rattle.tourfile.proofs.wrong_length.Goals as goal

pub returns-then-tag-eq2 : goal.returns-then-tag-eq2
unfolding wrong_length
returns-then-tag-eq2 c = rw (← c.byte-tag.ensures, eq-eqb _ _ c.if-tag-eq2.true) (cc)

pub returns : goal.returns
unfolding wrong_length
returns c = rw (← c.byte-tag.ensures, ne_eqb _ _ c.if-tag-eq2.false) (cc)

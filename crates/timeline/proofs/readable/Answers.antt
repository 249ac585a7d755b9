-- `readable` meets its contract: the kinds 8 and 10 have a gain, the others are tested by the kind alone.
use mathlib.Core.Path.{refl, sym}
use mathlib.Core.Bool.{and-true}
use borrow.Author.Tests.{ne_eqb}
use Rattle.timeline.specs.Record.{readable}
use Rattle.timeline.proofs.readable.Goals as goal

pub returns-in-8 : goal.returns-in-8
unfolding readable
returns-in-8 c = rw c.in-8.is refl

pub returns-in-10 : goal.returns-in-10
unfolding readable
returns-in-10 c = rw c.in-10.is refl

pub returns-in_default : goal.returns-in_default
unfolding readable
returns-in_default c = simp (ne_eqb _ _ c.in_default.in_default-own.rest.1, ne_eqb _ _ c.in_default.in_default-own.rest.0.1) (sym (and-true _))

-- `second_part` meets its contract, one answer for each kind that has one.
use mathlib.Core.Path.{refl}
use borrow.Author.Tests.{ne_eqb}
use Rattle.fields.specs.Field.{second_part}
use Rattle.fields.proofs.second_part.Goals as goal

pub returns-in-6 : goal.returns-in-6
unfolding second_part
returns-in-6 c = rw c.in-6.is refl

pub returns-in-10 : goal.returns-in-10
unfolding second_part
returns-in-10 c = rw c.in-10.is refl

pub returns-in_default : goal.returns-in_default
unfolding second_part
returns-in_default c = simp (ne_eqb _ _ c.in_default.in_default-own.rest.1, ne_eqb _ _ c.in_default.in_default-own.rest.0.1)

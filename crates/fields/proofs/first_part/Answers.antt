-- `first_part` meets its contract, one answer for each kind that has one.
use mathlib.Core.Path.{refl}
use borrow.Author.Tests.{ne_eqb}
use Rattle.fields.specs.Field.{first_part}
use Rattle.fields.proofs.first_part.Goals as goal

pub returns-in-4 : goal.returns-in-4
unfolding first_part
returns-in-4 c = rw c.in-4.is refl

pub returns-in-5 : goal.returns-in-5
unfolding first_part
returns-in-5 c = rw c.in-5.is refl

pub returns-in-6 : goal.returns-in-6
unfolding first_part
returns-in-6 c = rw c.in-6.is refl

pub returns-in-8 : goal.returns-in-8
unfolding first_part
returns-in-8 c = rw c.in-8.is refl

pub returns-in-9 : goal.returns-in-9
unfolding first_part
returns-in-9 c = rw c.in-9.is refl

pub returns-in-10 : goal.returns-in-10
unfolding first_part
returns-in-10 c = rw c.in-10.is refl

pub returns-in_default : goal.returns-in_default
unfolding first_part
returns-in_default c =
    let r = c.in_default.in_default-own.rest in
    simp (ne_eqb _ _ r.1, ne_eqb _ _ r.0.1, ne_eqb _ _ r.0.0.1, ne_eqb _ _ r.0.0.0.1, ne_eqb _ _ r.0.0.0.0.1, ne_eqb _ _ r.0.0.0.0.0.1)

-- `reads` meets its contract: a Gain by its word, a Stinger by one test after the other, any other row by its kind alone.
use mathlib.Core.Path.{refl, sym, ◌∙◌}
use mathlib.Core.Bool.{and-true}
use borrow.Author.Tests.{ne_eqb}
use Rattle.timeline.specs.Record.{readable, read_of}
use Rattle.timeline.proofs.Gains.{no_gain}
use Rattle.timeline.proofs.reads.Goals as goal

pub returns-in-8 : goal.returns-in-8
unfolding readable read_of
returns-in-8 c = rw (c.in-8.is, sym c.finite_word.ensures) refl

pub returns-in_default : goal.returns-in_default
unfolding readable
returns-in_default c = simp (no_gain c.args.x (ne_eqb _ _ c.in_default.in_default-own.rest.0.1) (ne_eqb _ _ c.in_default.in_default-own.rest.1), ne_eqb _ _ c.in_default.in_default-own.rest.1, ne_eqb _ _ c.in_default.in_default-own.rest.0.1) (sym (and-true _ ∙ and-true _))

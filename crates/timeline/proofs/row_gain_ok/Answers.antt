-- `row_gain_ok` meets its contract: a readable Gain or Stinger is tested, any other row has no gain.
use mathlib.Core.Path.{sym, ◌∙◌}
use borrow.Author.Tests.{ne_eqb, ltb-true}
use Rattle.timeline.specs.Record.{readable, read_of}
use Rattle.timeline.proofs.Gains.{no_gain}
use Rattle.timeline.proofs.row_gain_ok.Goals as goal

pub gain_of-requires : goal.gain_of-requires
unfolding readable
gain_of-requires c = (ltb-true _ _ (rw c.in-10.is at c.requires), sym c.finite_word-in-10.ensures ∙ c.if-finite_word.true)

pub returns-in-8 : goal.returns-in-8
unfolding read_of
returns-in-8 c = rw c.in-8.is c.finite_word.ensures

pub returns-then-finite_word : goal.returns-then-finite_word
unfolding read_of
returns-then-finite_word c = rw (c.in-10.is, sym c.gain_of.ensures) c.stinger_gain_ok.ensures

pub returns-else-finite_word : goal.returns-else-finite_word
unfolding read_of
returns-else-finite_word c = rw (c.in-10.is, sym c.finite_word-in-10.ensures ∙ c.if-finite_word.false) c.if-finite_word.false

pub returns-in_default : goal.returns-in_default
returns-in_default c = sym (no_gain c.args.x (ne_eqb _ _ c.in_default.in_default-own.rest.0.1) (ne_eqb _ _ c.in_default.in_default-own.rest.1))

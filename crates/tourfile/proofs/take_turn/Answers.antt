-- `take_turn` meets its contract.
use mathlib.Core.Path.{refl, sym, ap, ◌∙◌}
use borrow.Author.Tests.{eq-eqb, ne_eqb}
use Rattle.std.proofs.Common.{Continue}
use Rattle.tourfile.specs.Reader.{turn_of, settled}
use Rattle.tourfile.proofs.take_turn.Goals as goal

pub returns-in-Err : goal.returns-in-Err
unfolding turn_of settled
returns-in-Err c = rw (sym c.judge.ensures ∙ c.in-Err.is, c.at.ensures) refl

pub returns-then-byte-eq3 : goal.returns-then-byte-eq3
unfolding turn_of settled
returns-then-byte-eq3 c = rw (sym c.judge.ensures ∙ c.in_default.is, ← c.byte.ensures, eq-eqb _ _ c.if-byte-eq3.true) refl

pub returns : goal.returns
unfolding turn_of settled
returns c = rw (sym c.judge.ensures ∙ c.in_default.is, ← c.byte.ensures, ne_eqb _ _ c.if-byte-eq3.false) (ap Continue c.behind.ensures)

-- `read_command` meets its contract, one answer for each kind.
use mathlib.Core.Path.{refl}
use borrow.Author.Tests.{ne_eqb, ltb-true}
use Rattle.counts.proofs.Truth.{and_l}
use Rattle.timeline.specs.Record.{readable, read_of}
use Rattle.timeline.proofs.read_command.Goals as goal

pub gain_of-requires : goal.gain_of-requires
unfolding readable read_of
gain_of-requires c = (ltb-true _ _ (rw c.in-8.is at c.requires.0), rw c.in-8.is at c.requires.1)

pub gain_of-requires-in-10 : goal.gain_of-requires-in-10
unfolding readable read_of
gain_of-requires-in-10 c = (ltb-true _ _ (rw c.in-10.is at c.requires.0), and_l _ _ (rw c.in-10.is at c.requires.1))

pub returns-in-2 : goal.returns-in-2
unfolding read_of
returns-in-2 c = rw c.in-2.is refl

pub returns-in-3 : goal.returns-in-3
unfolding read_of
returns-in-3 c = rw c.in-3.is refl

pub returns-in-4 : goal.returns-in-4
unfolding read_of
returns-in-4 c = rw c.in-4.is refl

pub returns-in-5 : goal.returns-in-5
unfolding read_of
returns-in-5 c = rw c.in-5.is refl

pub returns-in-6 : goal.returns-in-6
unfolding read_of
returns-in-6 c = rw c.in-6.is refl

pub returns-in-7 : goal.returns-in-7
unfolding read_of
returns-in-7 c = rw c.in-7.is refl

pub returns-in-8 : goal.returns-in-8
unfolding read_of
returns-in-8 c = rw (c.in-8.is, c.gain_of.ensures) refl

pub returns-in-9 : goal.returns-in-9
unfolding read_of
returns-in-9 c = rw (c.in-9.is, c.handle_of.ensures) refl

pub returns-in-10 : goal.returns-in-10
unfolding read_of
returns-in-10 c = rw (c.in-10.is, c.gain_of-in-10.ensures, c.handle_of-in-10.ensures) refl

pub returns-in_default : goal.returns-in_default
unfolding read_of
returns-in_default c = simp (ne_eqb _ _ c.in_default.in_default-own.rest.1, ne_eqb _ _ c.in_default.in_default-own.rest.0.1, ne_eqb _ _ c.in_default.in_default-own.rest.0.0.1, ne_eqb _ _ c.in_default.in_default-own.rest.0.0.0.1, ne_eqb _ _ c.in_default.in_default-own.rest.0.0.0.0.1, ne_eqb _ _ c.in_default.in_default-own.rest.0.0.0.0.0.1, ne_eqb _ _ c.in_default.in_default-own.rest.0.0.0.0.0.0.1, ne_eqb _ _ c.in_default.in_default-own.rest.0.0.0.0.0.0.0.1, ne_eqb _ _ c.in_default.in_default-own.rest.0.0.0.0.0.0.0.0.1)

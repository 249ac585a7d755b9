-- `weigh_apply` meets its contract: the gain, whose bounds are written as floats.
use mathlib.Core.Path.{refl, sym, ap, ◌∙◌}
use mathlib.Core.Bool.{not}
use lib.Ieee.{of_bits}
use Rattle.session.proofs.Refuse.{stop, skip}
use Rattle.control.specs.Snapshot.{weigh_apply}
use Rattle.control.proofs.weigh_apply.Goals as goal

pub returns-then-not-is_between : goal.returns-then-not-is_between
unfolding weigh_apply of_bits
returns-then-not-is_between c =
    skip _ _ _ _ (ap not (sym c.well_formed-2.ensures ∙ c.if-not-well_formed.false))
    (stop _ _ _ (ap not (sym c.is_between.ensures ∙ c.if-not-is_between.true)))

pub returns : goal.returns
unfolding weigh_apply of_bits
returns c =
    skip _ _ _ _ (ap not (sym c.well_formed-2.ensures ∙ c.if-not-well_formed.false))
    (skip _ _ _ _ (ap not (sym c.is_between.ensures ∙ c.if-not-is_between.false)) refl)

-- `judge_record` meets its contract.
use mathlib.Core.Path.{refl, sym, ap, ◌∙◌}
use mathlib.Core.Bool.{not}
use Rattle.tourfile.specs.Writer.{record_judged_of}
use Rattle.tourfile.proofs.Judging.{stop, skip}
use Rattle.tourfile.proofs.judge_record.Goals as goal

pub returns-then-not-readable : goal.returns-then-not-readable
unfolding record_judged_of
returns-then-not-readable c = stop _ _ _ (ap not (sym c.readable.ensures ∙ c.if-not-readable.true))

pub returns-then-is_unlisted : goal.returns-then-is_unlisted
unfolding record_judged_of
returns-then-is_unlisted c =
    skip _ _ _ _ (ap not (sym c.readable.ensures ∙ c.if-not-readable.false))
    (stop _ _ _ (sym c.is_unlisted.ensures ∙ c.if-is_unlisted.true))

pub returns-then-is_late : goal.returns-then-is_late
unfolding record_judged_of
returns-then-is_late c =
    skip _ _ _ _ (ap not (sym c.readable.ensures ∙ c.if-not-readable.false))
    (skip _ _ _ _ (sym c.is_unlisted.ensures ∙ c.if-is_unlisted.false)
    (stop _ _ _ (sym c.is_late.ensures ∙ c.if-is_late.true)))

pub returns : goal.returns
unfolding record_judged_of
returns c =
    skip _ _ _ _ (ap not (sym c.readable.ensures ∙ c.if-not-readable.false))
    (skip _ _ _ _ (sym c.is_unlisted.ensures ∙ c.if-is_unlisted.false)
    (skip _ _ _ _ (sym c.is_late.ensures ∙ c.if-is_late.false) refl))

-- `judge` meets its contract: each return has passed the tests before it.
use mathlib.Core.Path.{refl, sym, ap, ◌∙◌}
use mathlib.Core.Bool.{not}
use Rattle.tourfile.specs.Reader.{judged_of}
use Rattle.tourfile.proofs.Judging.{stop, skip}
use Rattle.tourfile.proofs.judge.Goals as goal

pub returns-then-not-is_whole : goal.returns-then-not-is_whole
unfolding judged_of
returns-then-not-is_whole c = stop _ _ _ (ap not (sym c.is_whole.ensures ∙ c.if-not-is_whole.true))

pub returns-then-wrong_first : goal.returns-then-wrong_first
unfolding judged_of
returns-then-wrong_first c =
    skip _ _ _ _ (ap not (sym c.is_whole.ensures ∙ c.if-not-is_whole.false))
    (stop _ _ _ (sym c.wrong_first.ensures ∙ c.if-wrong_first.true))

pub returns-then-unknown_tag : goal.returns-then-unknown_tag
unfolding judged_of
returns-then-unknown_tag c =
    skip _ _ _ _ (ap not (sym c.is_whole.ensures ∙ c.if-not-is_whole.false))
    (skip _ _ _ _ (sym c.wrong_first.ensures ∙ c.if-wrong_first.false)
    (stop _ _ _ (sym c.unknown_tag.ensures ∙ c.if-unknown_tag.true)))

pub returns-then-wrong_length : goal.returns-then-wrong_length
unfolding judged_of
returns-then-wrong_length c =
    skip _ _ _ _ (ap not (sym c.is_whole.ensures ∙ c.if-not-is_whole.false))
    (skip _ _ _ _ (sym c.wrong_first.ensures ∙ c.if-wrong_first.false)
    (skip _ _ _ _ (sym c.unknown_tag.ensures ∙ c.if-unknown_tag.false)
    (stop _ _ _ (sym c.wrong_length.ensures ∙ c.if-wrong_length.true))))

pub returns-then-other_version : goal.returns-then-other_version
unfolding judged_of
returns-then-other_version c =
    skip _ _ _ _ (ap not (sym c.is_whole.ensures ∙ c.if-not-is_whole.false))
    (skip _ _ _ _ (sym c.wrong_first.ensures ∙ c.if-wrong_first.false)
    (skip _ _ _ _ (sym c.unknown_tag.ensures ∙ c.if-unknown_tag.false)
    (skip _ _ _ _ (sym c.wrong_length.ensures ∙ c.if-wrong_length.false)
    (stop _ _ _ (sym c.other_version.ensures ∙ c.if-other_version.true)))))

pub returns-then-unknown_kind : goal.returns-then-unknown_kind
unfolding judged_of
returns-then-unknown_kind c =
    skip _ _ _ _ (ap not (sym c.is_whole.ensures ∙ c.if-not-is_whole.false))
    (skip _ _ _ _ (sym c.wrong_first.ensures ∙ c.if-wrong_first.false)
    (skip _ _ _ _ (sym c.unknown_tag.ensures ∙ c.if-unknown_tag.false)
    (skip _ _ _ _ (sym c.wrong_length.ensures ∙ c.if-wrong_length.false)
    (skip _ _ _ _ (sym c.other_version.ensures ∙ c.if-other_version.false)
    (stop _ _ _ (sym c.unknown_kind.ensures ∙ c.if-unknown_kind.true))))))

pub returns-then-not_listed : goal.returns-then-not_listed
unfolding judged_of
returns-then-not_listed c =
    skip _ _ _ _ (ap not (sym c.is_whole.ensures ∙ c.if-not-is_whole.false))
    (skip _ _ _ _ (sym c.wrong_first.ensures ∙ c.if-wrong_first.false)
    (skip _ _ _ _ (sym c.unknown_tag.ensures ∙ c.if-unknown_tag.false)
    (skip _ _ _ _ (sym c.wrong_length.ensures ∙ c.if-wrong_length.false)
    (skip _ _ _ _ (sym c.other_version.ensures ∙ c.if-other_version.false)
    (skip _ _ _ _ (sym c.unknown_kind.ensures ∙ c.if-unknown_kind.false)
    (stop _ _ _ (sym c.not_listed.ensures ∙ c.if-not_listed.true)))))))

pub returns-then-not_rising : goal.returns-then-not_rising
unfolding judged_of
returns-then-not_rising c =
    skip _ _ _ _ (ap not (sym c.is_whole.ensures ∙ c.if-not-is_whole.false))
    (skip _ _ _ _ (sym c.wrong_first.ensures ∙ c.if-wrong_first.false)
    (skip _ _ _ _ (sym c.unknown_tag.ensures ∙ c.if-unknown_tag.false)
    (skip _ _ _ _ (sym c.wrong_length.ensures ∙ c.if-wrong_length.false)
    (skip _ _ _ _ (sym c.other_version.ensures ∙ c.if-other_version.false)
    (skip _ _ _ _ (sym c.unknown_kind.ensures ∙ c.if-unknown_kind.false)
    (skip _ _ _ _ (sym c.not_listed.ensures ∙ c.if-not_listed.false)
    (stop _ _ _ (sym c.not_rising.ensures ∙ c.if-not_rising.true))))))))

pub returns-then-too_many : goal.returns-then-too_many
unfolding judged_of
returns-then-too_many c =
    skip _ _ _ _ (ap not (sym c.is_whole.ensures ∙ c.if-not-is_whole.false))
    (skip _ _ _ _ (sym c.wrong_first.ensures ∙ c.if-wrong_first.false)
    (skip _ _ _ _ (sym c.unknown_tag.ensures ∙ c.if-unknown_tag.false)
    (skip _ _ _ _ (sym c.wrong_length.ensures ∙ c.if-wrong_length.false)
    (skip _ _ _ _ (sym c.other_version.ensures ∙ c.if-other_version.false)
    (skip _ _ _ _ (sym c.unknown_kind.ensures ∙ c.if-unknown_kind.false)
    (skip _ _ _ _ (sym c.not_listed.ensures ∙ c.if-not_listed.false)
    (skip _ _ _ _ (sym c.not_rising.ensures ∙ c.if-not_rising.false)
    (stop _ _ _ (sym c.too_many.ensures ∙ c.if-too_many.true)))))))))

pub returns-then-wrong_count : goal.returns-then-wrong_count
unfolding judged_of
returns-then-wrong_count c =
    skip _ _ _ _ (ap not (sym c.is_whole.ensures ∙ c.if-not-is_whole.false))
    (skip _ _ _ _ (sym c.wrong_first.ensures ∙ c.if-wrong_first.false)
    (skip _ _ _ _ (sym c.unknown_tag.ensures ∙ c.if-unknown_tag.false)
    (skip _ _ _ _ (sym c.wrong_length.ensures ∙ c.if-wrong_length.false)
    (skip _ _ _ _ (sym c.other_version.ensures ∙ c.if-other_version.false)
    (skip _ _ _ _ (sym c.unknown_kind.ensures ∙ c.if-unknown_kind.false)
    (skip _ _ _ _ (sym c.not_listed.ensures ∙ c.if-not_listed.false)
    (skip _ _ _ _ (sym c.not_rising.ensures ∙ c.if-not_rising.false)
    (skip _ _ _ _ (sym c.too_many.ensures ∙ c.if-too_many.false)
    (stop _ _ _ (sym c.wrong_count.ensures ∙ c.if-wrong_count.true))))))))))

pub returns-then-bytes_after : goal.returns-then-bytes_after
unfolding judged_of
returns-then-bytes_after c =
    skip _ _ _ _ (ap not (sym c.is_whole.ensures ∙ c.if-not-is_whole.false))
    (skip _ _ _ _ (sym c.wrong_first.ensures ∙ c.if-wrong_first.false)
    (skip _ _ _ _ (sym c.unknown_tag.ensures ∙ c.if-unknown_tag.false)
    (skip _ _ _ _ (sym c.wrong_length.ensures ∙ c.if-wrong_length.false)
    (skip _ _ _ _ (sym c.other_version.ensures ∙ c.if-other_version.false)
    (skip _ _ _ _ (sym c.unknown_kind.ensures ∙ c.if-unknown_kind.false)
    (skip _ _ _ _ (sym c.not_listed.ensures ∙ c.if-not_listed.false)
    (skip _ _ _ _ (sym c.not_rising.ensures ∙ c.if-not_rising.false)
    (skip _ _ _ _ (sym c.too_many.ensures ∙ c.if-too_many.false)
    (skip _ _ _ _ (sym c.wrong_count.ensures ∙ c.if-wrong_count.false)
    (stop _ _ _ (sym c.bytes_after.ensures ∙ c.if-bytes_after.true)))))))))))

pub returns : goal.returns
unfolding judged_of
returns c =
    skip _ _ _ _ (ap not (sym c.is_whole.ensures ∙ c.if-not-is_whole.false))
    (skip _ _ _ _ (sym c.wrong_first.ensures ∙ c.if-wrong_first.false)
    (skip _ _ _ _ (sym c.unknown_tag.ensures ∙ c.if-unknown_tag.false)
    (skip _ _ _ _ (sym c.wrong_length.ensures ∙ c.if-wrong_length.false)
    (skip _ _ _ _ (sym c.other_version.ensures ∙ c.if-other_version.false)
    (skip _ _ _ _ (sym c.unknown_kind.ensures ∙ c.if-unknown_kind.false)
    (skip _ _ _ _ (sym c.not_listed.ensures ∙ c.if-not_listed.false)
    (skip _ _ _ _ (sym c.not_rising.ensures ∙ c.if-not_rising.false)
    (skip _ _ _ _ (sym c.too_many.ensures ∙ c.if-too_many.false)
    (skip _ _ _ _ (sym c.wrong_count.ensures ∙ c.if-wrong_count.false)
    (skip _ _ _ _ (sym c.bytes_after.ensures ∙ c.if-bytes_after.false) refl))))))))))

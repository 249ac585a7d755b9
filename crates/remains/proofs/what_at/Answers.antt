-- `what_at` meets its contract.
use mathlib.Core.Path.{sym, ap, ◌∙◌}
use mathlib.Core.Bool.{not}
use borrow.Author.Tests.{not-false}
use lib.Seq.{length-take-le}
use Rattle.counts.proofs.Truth.{not_true}
use Rattle.fields.proofs.Fields.{piece_within}
use Rattle.remains.proofs.Runs.{what_invalid, what_rises, what_other, what_none, piece_at}
use Rattle.remains.proofs.what_at.Goals as goal

pub slice_bounds-f-end : goal.slice_bounds-f-end
slice_bounds-f-end c = sym (length-take-le _ _ (rw c.piece_size-n.ensures (piece_within _)))

pub returns-then-not-is_valid : goal.returns-then-not-is_valid
returns-then-not-is_valid c =
    let a = c.args in
    let f = piece_at a.file.now a.p.at c.piece_size-n.result c.piece_size-n.ensures in
    sym (what_invalid a.file.now a.p _ f (not_true _ (ap not (sym c.is_valid.ensures ∙ c.if-not-is_valid.true))))

pub returns-then-rises : goal.returns-then-rises
returns-then-rises c =
    let a = c.args in
    let f = piece_at a.file.now a.p.at c.piece_size-n.result c.piece_size-n.ensures in
    sym (what_rises a.file.now a.p _ f (not-false _ (ap not (sym c.is_valid.ensures ∙ c.if-not-is_valid.false))) (sym c.rises.ensures ∙ c.if-rises.true))

pub returns-then-is_other : goal.returns-then-is_other
returns-then-is_other c =
    let a = c.args in
    let f = piece_at a.file.now a.p.at c.piece_size-n.result c.piece_size-n.ensures in
    sym (what_other a.file.now a.p _ f (not-false _ (ap not (sym c.is_valid.ensures ∙ c.if-not-is_valid.false)))
    (sym c.rises.ensures ∙ c.if-rises.false) (sym c.is_other.ensures ∙ c.if-is_other.true))

pub returns : goal.returns
returns c =
    let a = c.args in
    let f = piece_at a.file.now a.p.at c.piece_size-n.result c.piece_size-n.ensures in
    sym (what_none a.file.now a.p _ f (not-false _ (ap not (sym c.is_valid.ensures ∙ c.if-not-is_valid.false)))
    (sym c.rises.ensures ∙ c.if-rises.false) (sym c.is_other.ensures ∙ c.if-is_other.false))

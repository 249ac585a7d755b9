-- `next_place` meets its contract.
use mathlib.Core.Path.{sym, ap, ◌∙◌}
use native.Mathlib.Omega.{arith}
use lib.Seq.{length-take-le}
use Rattle.fields.proofs.Fields.{piece_within}
use Rattle.tourfile.specs.Reader.{behind}
use Rattle.remains.proofs.Runs.{field_within, piece_at, next_run, next_field}
use Rattle.remains.proofs.next_place.Goals as goal

pub returns-in-Dropped : goal.returns-in-Dropped
returns-in-Dropped c =
    let a = c.args in
    rw c.run_end.ensures (sym (next_run a.file.now a.p (sym c.requires.2 ∙ c.in-Dropped.is)))

pub slice_bounds-f-end : goal.slice_bounds-f-end
slice_bounds-f-end c = sym (length-take-le _ _ (rw c.piece_size-n.ensures (piece_within _)))

pub behind-requires : goal.behind-requires
behind-requires c =
    let a = c.args in
    let h = c.requires.1 in
    let f = piece_at a.file.now a.p.at c.piece_size-n.result c.piece_size-n.ensures in
    let w = field_within a.file.now a.p.at h in
    let l = w.1 in
    (c.requires.0, rw f (omega arith), rw f w.0)

pub returns : goal.returns
returns c =
    let a = c.args in
    let f = piece_at a.file.now a.p.at c.piece_size-n.result c.piece_size-n.ensures in
    let n = c.in_default.not-Dropped in
    c.behind.ensures ∙ ap (behind a.p) f ∙ sym (next_field a.file.now a.p (λ z. n (c.requires.2 ∙ z)))

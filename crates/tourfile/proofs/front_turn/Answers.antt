-- `front_turn` meets its contract.
use mathlib.Core.Path.{sym, ◌∙◌}
use native.Mathlib.Omega.{arith}
use lib.Seq.{length-take-le}
use Rattle.fields.proofs.Fields.{piece_within, n_some, n_within, n_length}
use Rattle.tourfile.proofs.Turns.{front_is}
use Rattle.tourfile.proofs.front_turn.Goals as goal

pub slice_bounds-f-end : goal.slice_bounds-f-end
slice_bounds-f-end c = sym (length-take-le _ _ (rw c.piece_size-n.ensures (piece_within _)))

pub take_turn-requires : goal.take_turn-requires
take_turn-requires c =
    let a = c.args in
    let h = c.requires.1 in
    let e = c.piece_size-n.ensures in
    let l = n_length a.file.now a.p.at c.piece_size-n.result h e in
    let w = n_within a.file.now a.p.at c.piece_size-n.result h e in
    let s = n_some a.file.now a.p.at c.piece_size-n.result h e in
    (c.requires.0, omega arith, omega arith)

pub returns : goal.returns
returns c =
    let a = c.args in
    c.take_turn.ensures ∙ front_is a.clips.now a.file.now a.p c.piece_size-n.result c.requires.1 c.piece_size-n.ensures

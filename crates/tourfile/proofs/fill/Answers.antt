-- `fill` meets its contract.
use mathlib.Core.Path.{◌≡◌, sym, ◌∙◌}
use native.Mathlib.Omega.{arith}
use lib.ListN.{length, drop, length-drop}
use lib.Seq.{length-take-le}
use Rattle.tourfile.specs.Reader.{rows_in, put_rows}
use Rattle.fields.proofs.Fields.{piece_within, n_some, n_within, fields_none}
use Rattle.tourfile.proofs.Turns.{rows_command, rows_other}
use borrow.Author.Rules.{rules}
use Rattle.tourfile.proofs.fill.Goals as goal
use Rattle.tourfile.proofs.fill.Goals.{then-byte-eq2, else-byte-eq2}

pub slice_bounds-f-end : goal.slice_bounds-f-end
slice_bounds-f-end c = sym (length-take-le _ _ (rw c.piece_size-n.ensures (piece_within _)))

pub put_row-requires : goal.put_row-requires
put_row-requires c =
    let a = c.args in
    let l = c.loop-at in
    let h = c.loop-at-test.true in
    let n = c.piece_size-n.result in
    let e = c.piece_size-n.ensures in
    let r = rows_command a.clips.now a.file.now l.at n h e (sym c.byte.ensures ∙ c.if-byte-eq2.true) in
    let q = rw r at l.invariant.2 in
    omega arith

pub overflow_add-k : goal.overflow_add-k
overflow_add-k c =
    let a = c.args in
    let l = c.loop-at in
    let h = c.loop-at-test.true in
    let n = c.piece_size-n.result in
    let e = c.piece_size-n.ensures in
    let r = rows_command a.clips.now a.file.now l.at n h e (sym c.byte.ensures ∙ c.if-byte-eq2.true) in
    let q = rw r at l.invariant.2 in
    omega arith

pub overflow_add-at : goal.overflow_add-at
overflow_add-at c =
    let a = c.args in
    let l = c.loop-at in
    let h = c.loop-at-test.true in
    let n = c.piece_size-n.result in
    let e = c.piece_size-n.ensures in
    let w = n_within a.file.now l.at n h e in
    omega arith

pub loop-at-smaller : goal.loop-at-smaller
loop-at-smaller c =
    let a = c.args in
    let l = c.loop-at in
    let h = c.loop-at-test.true in
    let n = c.piece_size-n.result in
    let e = c.piece_size-n.ensures in
    let w = n_within a.file.now l.at n h e in
    let s = n_some a.file.now l.at n h e in
    omega arith

pub loop-at-preserved : goal.loop-at-preserved
unfolding put_rows
loop-at-preserved c =
    let a = c.args in
    let l = c.loop-at in
    let h = c.loop-at-test.true in
    let n = c.piece_size-n.result in
    let e = c.piece_size-n.ensures in
    elim c.if-byte-eq2.branch [
      | then-byte-eq2 w ↦
          let r = rows_command a.clips.now a.file.now l.at n h e (sym c.byte.ensures ∙ w.if-byte-eq2.true) in
          let q = rw r at l.invariant.2 in
          let k = w.k-is in
          (n_within a.file.now l.at n h e, search rules, omega arith, rw (w.list-is, w.k-is, w.put_row.ensures, w.row_in.ensures) (rw r at l.invariant.3))
      | else-byte-eq2 w ↦
          let r = rows_other a.clips.now a.file.now l.at n h e (λ z. w.if-byte-eq2.false (c.byte.ensures ∙ z)) in
          rw (w.list-is, w.k-is) (n_within a.file.now l.at n h e, l.invariant.1, rw r at l.invariant.2, rw r at l.invariant.3)
    ]

pub returns : goal.returns
unfolding put_rows rows_in
returns c =
    let l = c.loop-at in
    let z : length (drop l.at c.args.file.now) ≡ 0 = simp length-drop (omega arith) in
    rw (fields_none (drop l.at c.args.file.now) z) at l.invariant.3

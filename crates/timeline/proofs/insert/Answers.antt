-- `insert` meets its contract: what is left to do is the same at every turn.
use mathlib.Core.Path.{◌≡◌, sym, ◌∙◌}
use Rattle.timeline.specs.Store.{inserted}
use Rattle.timeline.proofs.Steps.{inserted_here, inserted_on}
use borrow.Author.Rules.{rules}
use native.Mathlib.Omega.{arith}
use Rattle.timeline.proofs.insert.Goals as goal

pub loop-i-preserved : goal.loop-i-preserved
loop-i-preserved c =
    let a = c.args in
    let l = c.loop-i in
    let x = c.row_at-y.ensures in
    let e = inserted_on l.store a.x l.i c.loop-i-test.true (rw x at c.if-y-x.true) in
    (search rules, search rules, rw (c.put_row.ensures, x) (sym e ∙ l.invariant.2))

pub returns-else-y-x : goal.returns-else-y-x
returns-else-y-x c =
    let a = c.args in
    let l = c.loop-i in
    let x = c.row_at-y.ensures in
    let e = inserted_here l.store a.x l.i c.loop-i-test.true (rw x at c.if-y-x.false) in
    c.put_row-else-y-x.ensures ∙ sym e ∙ l.invariant.2

pub returns : goal.returns
unfolding inserted
returns c =
    let l = c.loop-i in
    let e : l.i ≡ 0 = omega arith in
    c.put_row-2.ensures ∙ (rw e at l.invariant.2)

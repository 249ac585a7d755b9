-- `drop_rows` meets its contract: the records passed are kept or dropped as the definition says.
use Rattle.std.proofs.Common.{length, refl, sym, ap, ◌∙◌, arith}
use Rattle.timeline.specs.Store.{kept}
use Rattle.timeline.proofs.Rows.{length_put}
use Rattle.timeline.proofs.Steps.{kept_out, kept_in}
use Rattle.timeline.proofs.drop_rows.Goals.{then-not-test, else-not-test}
use Rattle.timeline.proofs.drop_rows.Goals as goal

pub loop-j-init : goal.loop-j-init
unfolding kept
loop-j-init g c = (omega arith, refl, λ p a. (refl, refl))

pub loop-j-preserved : goal.loop-j-preserved
loop-j-preserved g c =
    let l = c.loop-j in
    let x = c.row_at-x.ensures in
    elim c.if-not-test.branch [
      | then-not-test w ↦ (
        omega (arith, w.k-is),
        ap length (w.store-is ∙ w.put_row.ensures) ∙ length_put l.store l.k _ ∙ l.invariant.1,
        λ p a.
            let i = l.invariant.2 p a in
            let e = kept_in p c.args.store.now l.j (rw (x, i.0) at (sym (a _ _ c.test.ensures) ∙ w.if-not-test.true)) in
            (w.store-is ∙ rw e (rw (x, i.0, i.1) at w.put_row.ensures), w.k-is ∙ rw (e, i.1) refl),
      )
      | else-not-test w ↦ (
        omega (arith, w.k-is),
        ap length w.store-is ∙ l.invariant.1,
        λ p a.
            let i = l.invariant.2 p a in
            let e = kept_out p c.args.store.now l.j (rw (x, i.0) at (sym (a _ _ c.test.ensures) ∙ w.if-not-test.false)) in
            (w.store-is ∙ rw e i.0, w.k-is ∙ rw e i.1),
      )
    ]

-- `oneshot::mix_all` meets its contract, by the walk of `proofs/Walk.antt`. Assumes nothing.
use Rattle.oneshot.specs.Mix.{mix_in}
use Rattle.oneshot.specs.Lent.{table_of}
use Rattle.oneshot.proofs.Walk.{gone, stays, ends}
use Rattle.oneshot.proofs.mix_all.Goals as goal
use Rattle.oneshot.proofs.mix_all.Goals.{then-s, else-s}

pub loop-i-preserved : goal.loop-i-preserved
loop-i-preserved c =
    let g = c.loop-i.invariant in
    let h = c.loop-i-test.true in
    let e = c.sound-s.ensures in
    elim c.if-s.branch [
      | then-s w ↦ rw (w.voices-is, w.kept-is, e) (stays _ _ g _ h (rw e at w.if-s.true))
      | else-s w ↦ rw (w.voices-is, w.kept-is, e) (gone _ _ g _ h (rw e at w.if-s.false))
    ]

pub returns : goal.returns
unfolding mix_in
returns c = ends _ _ (table_of c.args.voices.now) c.loop-i.invariant c.loop-i-test.false

-- `rehearse` meets its contract.
use mathlib.Core.Path.{◌≡◌, refl, sym, ◌∙◌}
use Prim.Native.Nat.{◌^◌, ◌<◌}
use native.Mathlib.Omega.{arith}
use Rattle.submission.specs.Replay.{standing, replayed}
use Rattle.submission.proofs.Ready.{replayed_more}
use Rattle.dryrun.specs.Replay.{reasons_into}
use Rattle.dryrun.proofs.Reasons.{weighable, goes_on, noted}
use borrow.Author.Rules.{rules}
use Rattle.dryrun.proofs.rehearse.Goals as goal

pub loop-i-init : goal.loop-i-init
unfolding replayed reasons_into
loop-i-init c = (search rules, refl, refl, refl)

pub reason-why-requires : goal.reason-why-requires
reason-why-requires c =
    let l = c.loop-i in
    let small : c.args.s.desk.dropped < 2 ^ 64 = omega (arith, c.well_formed.0.1.1.1.1.1.1.0) in
    let few : l.i < 256 = omega (arith, c.requires.0, c.loop-i-test.true) in
    weighable _ (goes_on c.args.s c.args.queue.now c.args.records.now l.i (standing l.z l.queue) l.invariant.2 c.requires.1 small few)

pub replay_row-z-requires : goal.replay_row-z-requires
replay_row-z-requires c =
    let l = c.loop-i in
    let small : c.args.s.desk.dropped < 2 ^ 64 = omega (arith, c.well_formed.0.1.1.1.1.1.1.0) in
    let few : l.i < 256 = omega (arith, c.requires.0, c.loop-i-test.true) in
    goes_on c.args.s c.args.queue.now c.args.records.now l.i (standing l.z l.queue) l.invariant.2 c.requires.1 small few

pub loop-i-preserved : goal.loop-i-preserved
loop-i-preserved c =
    let a = c.args in
    let l = c.loop-i in
    let x = c.row_at-x.ensures in (
      search rules,
      search rules,
      c.replay_row-z.ensures ∙ rw (x, l.invariant.2) (sym (replayed_more a.s a.queue.now a.records.now l.i)),
      rw l.invariant.3 (noted a.s a.queue.now a.records.now l.i (standing l.z l.queue) l.invariant.2 a.reasons.now _ _ x c.reason-why.ensures),
    )

pub returns : goal.returns
returns c =
    let l = c.loop-i in
    let e : l.i ≡ c.args.n = omega arith in
    record { queue_after = rw e at l.invariant.2; reasons_after = rw e at l.invariant.3 }

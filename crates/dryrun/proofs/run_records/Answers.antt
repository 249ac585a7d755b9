-- `run_records` meets its contract: the replay stands where the definition says, and the run goes on from there.
use mathlib.Core.Path.{sym, subst}
use Rattle.submission.specs.Replay.{Replaying}
use Rattle.leaps.specs.Run.{run_of, Runnable}
use Rattle.dryrun.specs.Call.{lent}
use Rattle.dryrun.proofs.Ready.{replayed_ready}
use Rattle.dryrun.proofs.Ran.{ran_records}
use Rattle.dryrun.proofs.run_records.Goals as goal

pub rehearse-z-requires : goal.rehearse-z-requires
rehearse-z-requires c = (c.requires.0, c.requires.2.formed)

pub run_on-run-requires : goal.run_on-run-requires
run_on-run-requires c =
    subst (λ (y : Replaying). Runnable y.session.bank y.queue (run_of y.session) c.args.frames 2560) (sym c.rehearse-z.ensures.queue_after)
    (replayed_ready c.args.s c.args.queue.now c.args.records.now c.requires.2 c.args.n c.args.frames c.requires.1)

pub returns : goal.returns
returns c =
    let a = c.args in
    let e = c.rehearse-z.ensures in
    ran_records a.s a.n a.frames (lent a.records.now a.reasons.now a.queue.now a.sheet.now) _ e.queue_after _ e.reasons_after _ _ c.run_on-run.ensures

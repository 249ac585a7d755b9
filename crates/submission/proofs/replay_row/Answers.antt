-- `replay_row` meets its contract: a row that is not read is skipped, whatever the queue.
use Rattle.session.specs.Refusal.{first, unless}
use Rattle.std.proofs.Common.{arith, true}
use Rattle.std.proofs.lemmas.Grind.{common_steps}
use Rattle.timeline.specs.Record.{read_of}
use Rattle.submission.specs.Weigh.{scales_of, stands_now}
use Rattle.submission.specs.Replay.{weigh_replayed, replay_row}
use Rattle.submission.proofs.Weigh.{bad_gain}
use Rattle.submission.proofs.replay_row.Goals as goal

pub returns-in-Err : goal.returns-in-Err
unfolding replay_row weigh_replayed first unless
returns-in-Err c =
    let s = c.args.z.session in
    let x = read_of c.args.x in
    let skipped = c.skip.ensures c.args.queue.now in
    let bad = bad_gain (scales_of s c.args.queue.now true) (stands_now s x) x in
    grind (arith, common_steps)

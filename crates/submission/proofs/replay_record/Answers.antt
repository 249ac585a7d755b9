-- `replay_record` meets its contract: a refused record is skipped, whatever the queue.
use Rattle.session.specs.Refusal.{unless}
use Rattle.std.proofs.Common.{arith}
use Rattle.std.proofs.lemmas.Grind.{common_steps}
use Rattle.submission.proofs.replay_record.Goals as goal

pub returns-in-Err : goal.returns-in-Err
unfolding unless
returns-in-Err c = let skipped = c.skip.ensures c.args.queue.now in grind (arith, common_steps)

-- `cleared` meets its contract: no more would go than there are.
use native.Mathlib.Omega.{arith}
use Rattle.timeline.proofs.Queue.{dropped_and_left, gone_and_left}
use Rattle.submission.proofs.cleared.Goals as goal

pub overflow_sub-s : goal.overflow_sub-s
overflow_sub-s c = let a = c.args in omega (arith, c.count_transitions-older.ensures, dropped_and_left a.queue.now a.s.queued)

pub overflow_sub-captured : goal.overflow_sub-captured
overflow_sub-captured c = let a = c.args in omega (arith, c.count_would_go-recorded.ensures, gone_and_left a.capture.now c.captured_now-captured.result a.queue.now a.s.queued)

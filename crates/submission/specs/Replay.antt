-- Replay. Definitions only.
use Rattle.std.specs.Prelude.{ℕ, zero, suc, ◌+◌, ◌/◌, true, not, cond, List, eqb, length, Result, Ok, Err}
use Rattle.timeline.specs.declared.QueueRecord.{QueueRecord}
use Rattle.timeline.specs.declared.Row.{Row}
use Rattle.timeline.specs.Record.{readable, read_of, record_of, row_of}
use Rattle.timeline.specs.Store.{row_at, inserted}
use Rattle.session.specs.declared.Desk.{Desk}
use Rattle.session.specs.declared.Session.{Session}
use Rattle.session.specs.declared.Refusal.{Refusal}
use Rattle.session.specs.Refusal.{number_of, first, unless}
use Rattle.session.specs.Session.{desk_of, with_queue, turned_away}
use Rattle.session.specs.WellFormed.{weigh_only}
use Rattle.submission.specs.declared.Report.{Report}
use Rattle.submission.specs.declared.ReplayState.{ReplayState}
use Rattle.session.specs.declared.Answered.{Answered}
use Rattle.session.specs.Answer.{answered}
use Rattle.submission.specs.Weigh.{weigh_command, scales_of, stands_now}
use Rattle.submission.specs.Submit.{numbered}

-- where a replay stands
pub record Replaying : Type 0 where
  pub session : Session
  pub queue : List ℕ
  pub report : Report

-- the same with the queue beside it
abbrev pub standing : ReplayState → List ℕ → Replaying
standing z q = record { session = z.session; queue = q; report = z.report }

-- taken, queue-full and otherwise skipped
abbrev pub report_of : ℕ → ℕ → ℕ → Report
report_of t f k = record { taken = t; full = f; skipped = k }

-- 21, then as a submission without 16: there is always room
unfoldable pub weigh_replayed : Session → List ℕ → Row → Result (Unit {0}) Refusal
weigh_replayed s q x = first (not (readable x)) Refusal.Unreadable (weigh_command (scales_of s q true) (stands_now s (read_of x)) (read_of x))

-- a record is taken at its frame under the next number, without capture and without raising the deepest depth
abbrev pub taken_by : Replaying → QueueRecord → Replaying
taken_by z r =
    let s : Session = z.session in
    let d : Desk = s.desk in
    record {
      session = with_queue s (s.queued + 1) (desk_of (d.number + 1) d.deepest d.dropped d.capturing d.captured);
      queue = inserted z.queue s.queued (row_of (numbered s r.at r.command));
      report = report_of (z.report.taken + 1) z.report.full z.report.skipped;
    }

-- a refused one is skipped: counted as queue-full, or otherwise
abbrev pub skipped_by : Replaying → Refusal → Replaying
skipped_by z k =
    record {
      session = turned_away k z.session;
      queue = z.queue;
      report =
          cond (eqb (number_of k) 15)
          (report_of z.report.taken (z.report.full + 1) z.report.skipped)
          (report_of z.report.taken z.report.full (z.report.skipped + 1));
    }

-- one record: skipped if it is refused, else taken
unfoldable pub replay_row : Replaying → Row → Replaying
replay_row z x = unless (weigh_replayed z.session z.queue x) (skipped_by z) (taken_by z (record_of x))

-- the first n records of the list, in order
unfoldable pub replayed : Session → List ℕ → List ℕ → ℕ → Replaying
replayed s q list zero = record { session = s; queue = q; report = report_of 0 0 0 }
replayed s q list (suc n) = replay_row (replayed s q list n) (row_at list n)

-- it reports what it did
abbrev pub replay_done : Replaying → Answered Report × List ℕ
replay_done z = (answered (Ok z.report) z.session, z.queue)

-- answer and session; queue
unfoldable pub replay_of : Session → List ℕ → List ℕ → List ℕ → Answered Report × List ℕ
replay_of s q c list =
    unless (weigh_only s q c)
    (λ k. (answered (Err k) s, q))
    (replay_done (replayed s q list (length list / 5)))

-- 'A loop whose start is not below its end .. Refuse it at submission and in a replayed record. A loop past the song's length is still accepted.'
-- Definitions only.
use Rattle.std.specs.Prelude.{◌≡◌, true, false, List, ℕ, suc, ◌≤◌, ◌<◌}
use Rattle.laws.specs.Queue.{Each}
use Rattle.counts.specs.declared.SongFrame.{SongFrame}
use Rattle.timeline.specs.declared.QueueRecord.{QueueRecord}
use Rattle.timeline.specs.declared.Submission.{Submission}
use Rattle.timeline.specs.Command.{is_senseless}
use Rattle.timeline.specs.Record.{read_of}
use Rattle.timeline.specs.Store.{row_at}
use Rattle.transport.specs.declared.At.{At}
use Rattle.submission.specs.Order.{waiting, recorded}
use Rattle.submission.specs.Replay.{replayed}
use Rattle.promises.specs.Calls.{State, submit, refusal, Reached}
use Rattle.promises.specs.Kept.{Good}
use Rattle.promises.specs.Stale.{skipped}

-- a record whose command makes sense
abbrev pub Sensible : QueueRecord → Type 0
Sensible r = is_senseless r.command ≡ false

pub record SenselessRefused : Type 0 where
  -- a submission of a senseless loop answers 22, whatever the queue, the capture and the numbers have left
  pub submitting : (x : State) (s e : SongFrame) (at : At) → Good x → e.0 ≤ s.0 → refusal (submit (Submission.Loop s e) at) x ≡ 22
  -- a replayed record of one is skipped, wherever it stands in the list
  pub replaying : (x : State) (list : List ℕ) (j : ℕ) → is_senseless (read_of (row_at list j)) ≡ true
      → replayed x.session x.queue list (suc j) ≡ skipped (replayed x.session x.queue list j)
  -- any other loop is answered as a ClearLoop is, however long the song
  pub accepting : (x : State) (s e : SongFrame) (at : At) → s.0 < e.0 → refusal (submit (Submission.Loop s e) at) x ≡ refusal (submit Submission.ClearLoop at) x
  -- so none waits in a session reached from opening, and none is captured
  pub none : (x : State) → Reached x → Each Sensible (waiting x.session x.queue) × Each Sensible (recorded x.session x.capture)

-- What a replayed record asks of where the replay stands; a well formed session has it. Definitions only.
use Rattle.std.specs.Prelude.{◌≡◌, ◌+◌, ◌*◌, ◌^◌, ◌≤◌, ◌<◌, length}
use Rattle.timeline.specs.Queue.{stingers}
use Rattle.submission.specs.declared.Report.{Report}
use Rattle.submission.specs.Replay.{Replaying}

-- one record more can be counted
pub record Countable (r : Report) : Type 0 where
  pub taken : r.taken + 1 < 2 ^ 64
  pub full : r.full + 1 < 2 ^ 64
  pub skipped : r.skipped + 1 < 2 ^ 64

-- one record more can be weighed, and taken or skipped
pub record RowReady (z : Replaying) : Type 0 where
  pub counts : Countable z.report
  pub queued : z.session.queued ≤ z.session.settings.queue
  pub size : length z.queue ≡ z.session.settings.queue * 5
  pub stinging : stingers z.queue z.session.queued + z.session.stage.sound.voices.count ≤ 16

-- When a command is due. Definitions only.
use Rattle.std.specs.Prelude.{ℕ, ◌+◌, ◌-◌, ◌^◌, min, ◌&&◌, cond, leb, ltb, Option, Some, None}
use Rattle.counts.specs.declared.ClockFrame.{ClockFrame}
use Rattle.counts.specs.declared.SongFrame.{SongFrame}
use Rattle.transport.specs.declared.At.{At}
use Rattle.transport.specs.declared.LoopRange.{LoopRange}
use Rattle.transport.specs.declared.Transport.{Transport}

-- how far ahead a song frame t behind the position p comes round with the loop: if start <= t < end and p < end; else it is due now
abbrev pub behind : Option LoopRange → ℕ → ℕ → ℕ
behind None p t = 0
behind (Some l) p t = cond (leb l.start.0 t && ltb t l.end.0 && ltb p l.end.0) ((l.end.0 - p) + (t - l.start.0)) 0

-- how far ahead a song frame t is: for t >= p it is t - p
unfoldable pub distance_to : Transport → ℕ → ℕ
distance_to x t = cond (leb x.position.0 t) (t - x.position.0) (behind x.looped x.position.0 t)

-- the clock frame of a song frame, held at 2^64 - 1
unfoldable pub song_deadline_of : ClockFrame → Transport → SongFrame → ClockFrame
song_deadline_of clock x t = record { 0 = min (clock.0 + distance_to x t.0) (2 ^ 64 - 1) }

-- immediate (the clock), a clock frame, or a song frame
abbrev pub deadline_of : ClockFrame → Transport → At → ClockFrame
deadline_of clock x At.Immediate = clock
deadline_of clock x (At.Frame f) = f
deadline_of clock x (At.Song t) = song_deadline_of clock x t

-- What a host reads of a session, with no refusal. Definitions only.
use Rattle.std.specs.Prelude.{ℕ, Bool, Float, Option}
use Rattle.counts.specs.declared.ClockFrame.{ClockFrame}
use Rattle.counts.specs.declared.SongFrame.{SongFrame}
use Rattle.counts.specs.declared.Handle.{Handle}
use Rattle.transport.specs.declared.TransportState.{TransportState}
use Rattle.transport.specs.declared.LoopRange.{LoopRange}
use Rattle.bank.specs.Slots.{live}
use Rattle.session.specs.declared.Session.{Session}

-- the clock: frames rendered
abbrev pub clock_of : Session → ClockFrame
clock_of s = s.stage.clock

-- the song position
abbrev pub position_of : Session → SongFrame
position_of s = s.stage.playhead.transport.position

-- Stopped, Playing or Paused
abbrev pub transport_state_of : Session → TransportState
transport_state_of s = s.stage.playhead.transport.state

-- the loop, if one is set
abbrev pub loop_range_of : Session → Option LoopRange
loop_range_of s = s.stage.playhead.transport.looped

-- the laps since the loop was set
abbrev pub laps_of : Session → ℕ
laps_of s = s.stage.playhead.transport.laps

-- the master gain: the value that it is heading for
abbrev pub master_gain_of : Session → Float
master_gain_of s = s.stage.sound.master.target

-- the song that plays
abbrev pub song_of : Session → Handle
song_of s = s.stage.playhead.song

-- how many commands are queued
abbrev pub queue_depth_of : Session → ℕ
queue_depth_of s = s.queued

-- does a handle stand for a loaded clip?
abbrev pub is_live_of : Session → Handle → Bool
is_live_of s h = live s.bank h

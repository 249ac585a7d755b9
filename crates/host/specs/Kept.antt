-- A session as a host keeps it: each case is a number. Definitions only.
use Rattle.std.specs.Prelude.{ℕ, suc, Bool, true, ◌&&◌, ◌||◌, cond, List, [], ◌∷◌, map, eqb, leb, get_or, Option, Some, None, Result, Ok, Err}
use Rattle.counts.specs.Below.{all_below}
use Rattle.counts.specs.declared.SongFrame.{SongFrame}
use Rattle.counts.specs.declared.Handle.{Handle}
use Rattle.ramp.specs.Number.{zero32}
use Rattle.ramp.specs.Ramp.{at_rest}
use Rattle.bank.specs.declared.Kind.{Kind}
use Rattle.bank.specs.declared.Clip.{Clip}
use Rattle.bank.specs.Slots.{extent_of, used_at}
use Rattle.transport.specs.declared.TransportState.{TransportState}
use Rattle.transport.specs.declared.LoopRange.{LoopRange}
use Rattle.stage.specs.declared.Tail.{Tail}
use Rattle.stage.specs.declared.Stage.{Stage}
use Rattle.session.specs.declared.Session.{Session}
use Rattle.host.specs.declared.NoSuchCase.{NoSuchCase}
use Rattle.host.specs.declared.HostClip.{HostClip}
use Rattle.host.specs.declared.HostLoop.{HostLoop}
use Rattle.host.specs.declared.HostTail.{HostTail}
use Rattle.host.specs.declared.HostSession.{HostSession}

-- what numbers name, if they name a case
abbrev pub named : {A : Type 0} → Bool → A → Result A NoSuchCase
named b x = cond b (Ok x) (Err (record {}))

-- ---- kinds: 1 a song, 2 a stinger

abbrev pub is_kind : ℕ → Bool
is_kind n = eqb n 1 || eqb n 2

abbrev pub kind_of : ℕ → SongFrame → Kind
kind_of n extent = cond (eqb n 1) (Kind.Song extent) Kind.Stinger

abbrev pub kind_number : Kind → ℕ
kind_number (Kind.Song extent) = 1
kind_number Kind.Stinger = 2

-- the clip of a host's numbers
abbrev pub clip_of : HostClip → Clip
clip_of c = record { serial = c.serial; kind = kind_of c.kind c.extent; start = c.start; frames = c.frames; rate = c.rate }

-- a stinger's length is not used, and 0
abbrev pub clip_numbers : Clip → HostClip
clip_numbers c =
    record {
      serial = c.serial;
      kind = kind_number c.kind;
      extent = record { 0 = extent_of c.kind };
      start = c.start;
      frames = c.frames;
      rate = c.rate;
    }

-- ---- states: 0 stopped, 1 playing, 2 paused

abbrev pub is_state : ℕ → Bool
is_state n = leb n 2

abbrev pub state_of : ℕ → TransportState
state_of n = cond (eqb n 1) TransportState.Playing (cond (eqb n 2) TransportState.Paused TransportState.Stopped)

abbrev pub state_number : TransportState → ℕ
state_number TransportState.Stopped = 0
state_number TransportState.Playing = 1
state_number TransportState.Paused = 2

-- ---- flags: 0 no, 1 yes

abbrev pub is_flag : ℕ → Bool
is_flag n = leb n 1

abbrev pub flag_of : ℕ → Bool
flag_of n = eqb n 1

abbrev pub flag_number : Bool → ℕ
flag_number on = cond on 1 0

-- a loop that is set has ends
abbrev pub loop_of : HostLoop → Option LoopRange
loop_of x = cond (flag_of x.set) (Some (record { start = x.start; end = x.end })) None

abbrev pub loop_numbers : Option LoopRange → HostLoop
loop_numbers None = record { set = 0; start = record { 0 = 0 }; end = record { 0 = 0 } }
loop_numbers (Some l) = record { set = 1; start = l.start; end = l.end }

-- no clip: a handle that is never given
abbrev pub no_handle : Handle
no_handle = record { slot = 0; serial = 0 }

-- a tail that sounds has a song, a cursor and a weight
abbrev pub tail_of : HostTail → Option Tail
tail_of x = cond (flag_of x.sounding) (Some (record { song = x.song; cursor = x.cursor; weight = x.weight })) None

abbrev pub tail_numbers : Option Tail → HostTail
tail_numbers None = record { sounding = 0; song = no_handle; cursor = record { 0 = 0 }; weight = at_rest zero32 }
tail_numbers (Some t) = record { sounding = 1; song = t.song; cursor = t.cursor; weight = t.weight }

-- ---- the session

-- what is read past the slots
abbrev pub blank_clip : HostClip
blank_clip = record { serial = 0; kind = 2; extent = record { 0 = 0 }; start = 0; frames = 0; rate = 0 }

-- slot i of those marked in u holds a song or a stinger; if it is not used, its kind may be any number
unfoldable pub slot_named : ℕ → ℕ → ℕ → Bool
slot_named u i kind = cond (used_at u i) (is_kind kind) true

-- every used slot holds a song or a stinger
unfoldable pub kinds_ok : HostSession → Bool
kinds_ok h = all_below 32 (λ i. slot_named h.used i (get_or h.clips i blank_clip).kind)

-- there is a session that it matches: each number names a case
unfoldable pub is_session : HostSession → Bool
is_session h =
    kinds_ok h && is_state h.state && is_flag h.looped.set && is_flag h.tail.sounding && is_flag h.capturing

-- the stage that it matches
abbrev pub stage_of : HostSession → Stage
stage_of h =
    record {
      clock = h.clock;
      playhead =
          record {
            transport = record { state = state_of h.state; position = h.position; cursor = h.cursor; looped = loop_of h.looped; laps = h.laps };
            song = h.song;
          };
      sound = record { master = h.master; fade = record { tail = tail_of h.tail }; voices = h.voices };
      counters = h.counters;
    }

-- the session that it matches
unfoldable pub session_of : HostSession → Session
session_of h =
    record {
      settings = h.settings;
      bank = record { used = h.used; last = h.last; clips = map clip_of h.clips };
      stage = stage_of h;
      queued = h.queued;
      desk =
          record {
            number = h.number;
            deepest = h.deepest;
            dropped = h.dropped;
            capturing = flag_of h.capturing;
            captured = h.captured;
          };
    }

-- a session as a host keeps it: what is not used is 0
unfoldable pub host_of : Session → HostSession
host_of s =
    record {
      settings = s.settings;
      used = s.bank.used;
      last = s.bank.last;
      clips = map clip_numbers s.bank.clips;
      clock = s.stage.clock;
      state = state_number s.stage.playhead.transport.state;
      position = s.stage.playhead.transport.position;
      cursor = s.stage.playhead.transport.cursor;
      looped = loop_numbers s.stage.playhead.transport.looped;
      laps = s.stage.playhead.transport.laps;
      song = s.stage.playhead.song;
      master = s.stage.sound.master;
      tail = tail_numbers s.stage.sound.fade.tail;
      voices = s.stage.sound.voices;
      counters = s.stage.counters;
      queued = s.queued;
      number = s.desk.number;
      deepest = s.desk.deepest;
      dropped = s.desk.dropped;
      capturing = flag_number s.desk.capturing;
      captured = s.desk.captured;
    }

-- ---- what is not used is 0

-- a stinger's length; and in a slot that is not used, any kind but a song's is a stinger's
abbrev pub tidy_clip : Bool → HostClip → HostClip
tidy_clip used c =
    record {
      serial = c.serial;
      kind = cond (used || eqb c.kind 1) c.kind 2;
      extent = cond (eqb c.kind 1) c.extent (record { 0 = 0 });
      start = c.start;
      frames = c.frames;
      rate = c.rate;
    }

-- the slots from i on, those marked in u being used
unfoldable pub tidy_slots : ℕ → ℕ → List HostClip → List HostClip
tidy_slots u i [] = []
tidy_slots u i (c ∷ cs) = tidy_clip (used_at u i) c ∷ tidy_slots u (suc i) cs

-- the ends of a loop that is not set
abbrev pub tidy_loop : HostLoop → HostLoop
tidy_loop x =
    record {
      set = x.set;
      start = cond (flag_of x.set) x.start (record { 0 = 0 });
      end = cond (flag_of x.set) x.end (record { 0 = 0 });
    }

-- song, cursor and weight of a tail that does not sound
abbrev pub tidy_tail : HostTail → HostTail
tidy_tail x =
    record {
      sounding = x.sounding;
      song = cond (flag_of x.sounding) x.song no_handle;
      cursor = cond (flag_of x.sounding) x.cursor (record { 0 = 0 });
      weight = cond (flag_of x.sounding) x.weight (at_rest zero32);
    }

-- of a whole session
unfoldable pub tidy : HostSession → HostSession
tidy h =
    record {
      settings = h.settings;
      used = h.used;
      last = h.last;
      clips = tidy_slots h.used 0 h.clips;
      clock = h.clock;
      state = h.state;
      position = h.position;
      cursor = h.cursor;
      looped = tidy_loop h.looped;
      laps = h.laps;
      song = h.song;
      master = h.master;
      tail = tidy_tail h.tail;
      voices = h.voices;
      counters = h.counters;
      queued = h.queued;
      number = h.number;
      deepest = h.deepest;
      dropped = h.dropped;
      capturing = h.capturing;
      captured = h.captured;
    }

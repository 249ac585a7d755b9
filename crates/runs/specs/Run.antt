-- A run of a core: frames in which nothing is decided anew. Where it leads, and what it adds at each place. Definitions only.
use Rattle.std.specs.Prelude.{ℕ, ◌+◌, ◌*◌, ◌≤◌, ◌<◌, ◌^◌, ◌≡◌, Bool, true, cond, List, ltb, length, Float, Option, Some, None}
use Rattle.counts.specs.declared.Handle.{Handle}
use Rattle.ramp.specs.declared.Ramp.{Ramp}
use Rattle.transport.specs.declared.Transport.{Transport}
use Rattle.transport.specs.declared.LoopRange.{LoopRange}
use Rattle.transport.specs.Transport.{is_playing, moved_to}
use Rattle.bank.specs.declared.Clip.{Clip}
use Rattle.bank.specs.Slots.{extent_of}
use Rattle.oneshot.specs.Sounding.{LiesIn}
use Rattle.stage.specs.declared.Tail.{Tail}
use Rattle.stage.specs.Playhead.{playhead}
use Rattle.sweeps.specs.Adds.{ticks_of, adds, both_adds, Reads}
use Rattle.runs.specs.declared.Core.{Core}

-- ---- where n frames lead

-- a cursor inside its clip moves on, past it it stays
abbrev pub cursor_by : ℕ → ℕ → ℕ → ℕ
cursor_by frames c n = cond (ltb c frames) (c + n) c

abbrev pub transport_by : ℕ → ℕ → Transport → Transport
transport_by frames n t = cond (is_playing t.state) (moved_to t (t.position.0 + n) (cursor_by frames t.cursor.0 n)) t

abbrev pub tail_by : ℕ → ℕ → Option Tail → Option Tail
tail_by frames n None = None
tail_by frames n (Some t) = Some (record { song = t.song; cursor = record { 0 = cursor_by frames t.cursor.0 n }; weight = ticks_of n t.weight })

-- where the song has so many frames, and the tail's clip
abbrev pub core_by : ℕ → ℕ → ℕ → Core → Core
core_by song tail n c =
    record {
      playhead = playhead (transport_by song n c.playhead.transport) c.playhead.song;
      master = ticks_of n c.master;
      fade = record { tail = tail_by tail n c.fade.tail };
    }

-- ---- that nothing is decided anew in them

-- where the position must not come to: the loop's end, without a loop the length
abbrev pub end_of : ℕ → Option LoopRange → ℕ
end_of extent None = extent
end_of extent (Some l) = l.end.0

-- a cursor does not pass its clip's end
abbrev pub Inside : ℕ → ℕ → ℕ → Type 0
Inside frames c n = c < frames → c + n ≤ frames

-- a transport that plays neither wraps nor stops, its position stays a 64-bit number, and its laps are one
pub record Steady (frames extent n : ℕ) (t : Transport) : Type 0 where
  pub end : is_playing t.state ≡ true → t.position.0 + n < end_of extent t.looped
  pub low : is_playing t.state ≡ true → t.position.0 + n < 2 ^ 64
  pub inside : is_playing t.state ≡ true → Inside frames t.cursor.0 n
  pub laps : t.laps < 2 ^ 64

-- a tail's weight does not land
abbrev pub Fading : ℕ → ℕ → Option Tail → Type 0
Fading frames n None = Unit {0}
Fading frames n (Some t) = (n < t.weight.remaining) × Inside frames t.cursor.0 n

-- where the song's clip is x, and the tail's y
pub record Calm (x y : Clip) (n : ℕ) (c : Core) : Type 0 where
  pub song : Steady x.frames (extent_of x.kind) n c.playhead.transport
  pub tail : Fading y.frames n c.fade.tail

-- ---- which part of the pool they read, and what they add

-- a clip from a cursor on; past the clip silence
abbrev pub part_of : Clip → ℕ → Option ℕ
part_of x c = cond (ltb c x.frames) (Some ((x.start + c) * 2)) None

-- the song, if it plays
abbrev pub song_part : Clip → Transport → Option ℕ
song_part x t = cond (is_playing t.state) (part_of x t.cursor.0) None

-- song and tail over the sums, where the tail's clip is x
abbrev pub over_adds : Bool → List Float → Option ℕ → Clip → Ramp → Option Tail → ℕ → Float → Float
over_adds house pool s x g None = adds pool s g
over_adds house pool s x g (Some t) = both_adds house pool s (part_of x t.cursor.0) g t.weight

pub record OverReady (pool : List Float) (s : Option ℕ) (x : Clip) (n out : ℕ) (t : Option Tail) : Type 0 where
  pub room : n * 2 ≤ out
  pub song : Reads (length pool) s (n * 2)
  pub clip : LiesIn (length pool) x
  pub tail : Fading x.frames n t

-- the slot of the tail's clip; without a tail the song's
abbrev pub slot_of : Option Tail → Handle → ℕ
slot_of None h = h.slot
slot_of (Some t) h = t.song.slot

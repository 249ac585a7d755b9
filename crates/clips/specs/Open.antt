-- Opening. Definitions only.
use Rattle.std.specs.Prelude.{ℕ, false, not, ◌&&◌, List, ltb, eqb, length, Float, Result, Ok, Err, None}
use Rattle.counts.specs.declared.SongFrame.{SongFrame}
use Rattle.counts.specs.declared.Handle.{Handle}
use Rattle.ramp.specs.Number.{one32}
use Rattle.ramp.specs.Ramp.{at_rest}
use Rattle.transport.specs.declared.TransportState.{TransportState}
use Rattle.transport.specs.Transport.{transport}
use Rattle.bank.specs.declared.Kind.{Kind}
use Rattle.bank.specs.declared.Clip.{Clip}
use Rattle.bank.specs.declared.Bank.{Bank}
use Rattle.bank.specs.Sample.{frames_of, is_odd, is_pool, samples_ok}
use Rattle.bank.specs.Slots.{empty_bank, loaded_in}
use Rattle.bank.specs.Room.{pasted}
use Rattle.bank.specs.WellFormed.{rate_ok, extent_ok}
use Rattle.oneshot.specs.Mix.{no_voices}
use Rattle.stage.specs.declared.Settings.{Settings}
use Rattle.stage.specs.declared.Stage.{Stage}
use Rattle.stage.specs.Playhead.{playhead}
use Rattle.stage.specs.Sound.{sound}
use Rattle.stage.specs.Counters.{counters}
use Rattle.session.specs.declared.Session.{Session}
use Rattle.session.specs.declared.Refusal.{Refusal}
use Rattle.session.specs.Refusal.{first, unless}
use Rattle.session.specs.Session.{desk_of}
use Rattle.session.specs.WellFormed.{settings_ok, stores_ok}
use Rattle.session.specs.declared.Answered.{Answered}
use Rattle.session.specs.Answer.{answered}

-- 7, 1, 2, 3, 5, 6, 13, 10
unfoldable pub weigh_open : Settings → List ℕ → List ℕ → List Float → List Float → ℕ → SongFrame → Result (Unit {0}) Refusal
weigh_open x q c pool samples rate extent =
    first (not (settings_ok x && rate_ok rate && extent_ok (Kind.Song extent) (frames_of samples))) Refusal.OutOfRange
    (first (not (stores_ok x q c)) Refusal.NotWellFormed
    (first (not (is_pool pool x.pool)) Refusal.PoolLength
    (first (is_odd samples) Refusal.OddSamples
    (first (eqb (length samples) 0) Refusal.NoSamples
    (first (not (samples_ok samples)) Refusal.BadSample
    (first (not (eqb rate x.rate)) Refusal.WrongRate
    (first (ltb x.pool (frames_of samples)) Refusal.NoRoom
    (Ok tt))))))))

-- opening loads the first song: slot 0, serial 1
abbrev pub first_handle : Handle
first_handle = record { slot = 0; serial = 1 }

-- the song lies at the pool's start
abbrev pub first_clip : List Float → ℕ → SongFrame → Clip
first_clip samples rate extent = record { serial = 1; kind = Kind.Song extent; start = 0; frames = frames_of samples; rate = rate }

-- stopped at 0, gain 1.0, nothing else sounding, every count 0
abbrev pub stage_at : Handle → Stage
stage_at h =
    record {
      clock = record { 0 = 0 };
      playhead = playhead (transport TransportState.Stopped 0 0 None 0) h;
      sound = sound (at_rest one32) None no_voices;
      counters = counters 0 0 0;
    }

-- a session that opens: nothing queued, no number given, capture off
abbrev pub session_of : Settings → Bank → Handle → Session
session_of x b h = record { settings = x; bank = b; stage = stage_at h; queued = 0; desk = desk_of 0 0 0 false 0 }

-- what a refused opening gives beside its number: no session, which every call refuses
abbrev pub no_session : Session
no_session = session_of (record { rate = 0; mode = 0; queue = 0; capture = 0; pool = 0 }) empty_bank (record { slot = 0; serial = 0 })

-- an opening that is not refused: the song in slot 0, its samples at the pool's start, every other sample as it was
abbrev pub open_done : Settings → List Float → List Float → ℕ → SongFrame → Answered Handle × List Float
open_done x pool samples rate extent = (
  answered (Ok first_handle) (session_of x (loaded_in empty_bank 0 (first_clip samples rate extent)) first_handle),
  pasted pool 0 samples,
)

-- answer and session; pool
unfoldable pub open_of : Settings → List ℕ → List ℕ → List Float → List Float → ℕ → SongFrame → Answered Handle × List Float
open_of x q c pool samples rate extent =
    unless (weigh_open x q c pool samples rate extent)
    (λ k. (answered (Err k) no_session, pool))
    (open_done x pool samples rate extent)

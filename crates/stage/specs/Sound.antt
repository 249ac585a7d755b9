-- The sound: rules c and d, and what each command does to it. Definitions only.
use Rattle.std.specs.Prelude.{ℕ, cond, eqb, Float, Option, Some, None}
use Rattle.std.specs.Float.Ieee.{lt}
use Rattle.std.specs.Option.{option_map_or}
use Rattle.counts.specs.Counts.{place_of}
use Rattle.ramp.specs.declared.Ramp.{Ramp}
use Rattle.ramp.specs.declared.Ticked.{Ticked}
use Rattle.ramp.specs.Number.{two32, not_below}
use Rattle.ramp.specs.Ramp.{tween_of, set_of, tick_of}
use Rattle.ramp.specs.Tail.{tail_start}
use Rattle.timeline.specs.declared.Command.{Command}
use Rattle.transport.specs.Transport.{cursor_on}
use Rattle.bank.specs.Recording.{Recording, View}
use Rattle.oneshot.specs.declared.Pair.{Pair}
use Rattle.oneshot.specs.declared.Voices.{Voices}
use Rattle.oneshot.specs.declared.Mixed.{Mixed}
use Rattle.oneshot.specs.Pair.{silence, plus, times, pair_at}
use Rattle.oneshot.specs.Voice.{fired_of}
use Rattle.oneshot.specs.Mix.{added_to, mix_in}
use Rattle.stage.specs.declared.Settings.{Settings}
use Rattle.stage.specs.declared.Playhead.{Playhead}
use Rattle.stage.specs.declared.Moved.{Moved}
use Rattle.stage.specs.declared.Tail.{Tail}
use Rattle.stage.specs.declared.Faded.{Faded}
use Rattle.stage.specs.declared.Sound.{Sound}
use Rattle.stage.specs.declared.Rendered.{Rendered}
use Rattle.stage.specs.Mode.{is_house}

-- a master, a tail and voices
abbrev pub sound : Ramp → Option Tail → Voices → Sound
sound g t v = record { master = g; fade = record { tail = t }; voices = v }

-- ---- one frame

-- a view of one recording
abbrev pub only : Recording → View
only r h = r

-- b. If Playing, the song gives the pair at its cursor, past the clip +0.0; if not Playing, +0.0
unfoldable pub played_of : Recording → Moved → Pair
played_of song m = option_map_or (λ c. pair_at song (place_of c)) m.heard silence

-- the tail's share of a frame: as tono tail × w; in house mode the tail is multiplied by g before w
abbrev pub tail_share : Settings → Float → Pair → Float → Pair
tail_share x g p w = cond (is_house x) (times (times p g) w) (times p w)

-- d. plus the share where there is a tail: w ticks, and the tail reads straight on
unfoldable pub with_tail : Settings → View → Float → Option Tail → Pair → Pair
with_tail x view g None p = p
with_tail x view g (Some t) p = plus p (tail_share x g (pair_at (view t.song) (place_of t.cursor)) (tick_of t.weight).value)

-- past its clip its cursor stays; it leaves after the frame in which its weight lands on 0
unfoldable pub tail_on : View → Option Tail → Option Tail
tail_on view None = None
tail_on view (Some t) =
    cond (eqb (tick_of t.weight).ramp.remaining 0) None
    (Some (record { song = t.song; cursor = record { 0 = cursor_on (view t.song).frames t.cursor.0 }; weight = (tick_of t.weight).ramp }))

-- the tail a frame on, and the pair with its share
abbrev pub faded_of : Settings → View → Float → Option Tail → Pair → Faded
faded_of x view g t p = record { fade = record { tail = tail_on view t }; out = with_tail x view g t p }

-- c mixes the voices; d: g = master tick, out = song × g, plus the tail's share, plus the stinger sum, in that order of adding
unfoldable pub rendered_of : Settings → View → Pair → Sound → Rendered
rendered_of x view song s =
    let m : Mixed = mix_in view s.voices in
    let g : Ticked = tick_of s.master in
    record {
      sound = sound g.ramp (tail_on view s.fade.tail) m.voices;
      out = plus (with_tail x view g.value s.fade.tail (times song g.value)) m.sum;
    }

-- ---- commands

-- a gain is clamped to 0..2; -0.0 is taken as +0.0
abbrev pub clamp_of : Float → Float
clamp_of g = cond (lt two32 g) two32 (not_below g)

-- master changes take 256 frames
abbrev pub master_frames : ℕ
master_frames = 256

-- a swap: the old song becomes the tail
abbrev pub tail_from : Playhead → Tail
tail_from p = record { song = p.song; cursor = p.transport.cursor; weight = tail_start }

-- Gain sets the master; Swap: the old song becomes the tail, replacing any tail; Stinger: a voice more; the others leave it
unfoldable pub sound_by : Settings → Playhead → Command → Sound → Sound
sound_by x p Command.Play s = s
sound_by x p Command.Pause s = s
sound_by x p Command.Stop s = s
sound_by x p (Command.Seek f) s = s
sound_by x p (Command.Transition f) s = s
sound_by x p (Command.Loop a e) s = s
sound_by x p Command.ClearLoop s = s
sound_by x p (Command.Gain g) s = sound (set_of s.master (clamp_of g) (tween_of master_frames)) s.fade.tail s.voices
sound_by x p (Command.Swap h) s = sound s.master (Some (tail_from p)) s.voices
sound_by x p (Command.Stinger h g) s = sound s.master s.fade.tail (added_to s.voices (fired_of x.rate h g))

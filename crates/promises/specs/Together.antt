-- 'Musicians read the playhead': in house mode it is where the sound is. Definitions only.
use Rattle.std.specs.Prelude.{◌≡◌, true, cond}
use Rattle.laws.specs.Block.{drain}
use Rattle.counts.specs.Counts.{place_of}
use Rattle.transport.specs.Transport.{is_playing, wrap_of}
use Rattle.transport.specs.Together.{Together}
use Rattle.bank.specs.Recording.{Recording, View, view_of}
use Rattle.oneshot.specs.declared.Pair.{Pair}
use Rattle.oneshot.specs.Pair.{silence, pair_at}
use Rattle.stage.specs.declared.Settings.{Settings}
use Rattle.stage.specs.declared.Playhead.{Playhead}
use Rattle.stage.specs.declared.Stage.{Stage}
use Rattle.stage.specs.Mode.{is_house}
use Rattle.stage.specs.Playhead.{moved_of}
use Rattle.stage.specs.Sound.{played_of}
use Rattle.stage.specs.Machine.{machine_of}
use Rattle.submission.specs.Order.{waiting}
use Rattle.promises.specs.Calls.{State, Reached}

-- what the handles stand for
abbrev pub view_now : State → View
view_now x = view_of x.pool x.session.bank

-- the stage in which the next frame is made: every command that is due has been executed
abbrev pub next_stage : State → Stage
next_stage x = (drain (machine_of x.session.settings (view_now x)) x.session.stage (waiting x.session x.queue)).at.core

-- what the song gives in a frame
abbrev pub song_gives : Settings → View → Playhead → Pair
song_gives x view p = let c : Recording = view p.song in played_of c (moved_of x c.frames c.extent p)

-- what its clip has at the playhead, which rule a may first take into the loop; if not Playing, +0.0
abbrev pub at_playhead : View → Playhead → Pair
at_playhead view p = cond (is_playing p.transport.state) (pair_at (view p.song) (place_of (wrap_of true p.transport).position)) silence

-- in house mode, in every session reached from opening,
pub record PlayheadSounds : Type 0 where
  -- cursor and position are equal, or both are at or past the clip's end,
  pub together : (x : State) → Reached x → is_house x.session.settings ≡ true
      → let p : Playhead = x.session.stage.playhead in Together (view_now x p.song).frames p.transport
  -- and the next frame's song is what its clip has at the playhead
  pub sounds : (x : State) → Reached x → is_house x.session.settings ≡ true
      → let p : Playhead = (next_stage x).playhead in song_gives x.session.settings (view_now x) p ≡ at_playhead (view_now x) p

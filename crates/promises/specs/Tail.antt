-- The tail's weight in a session reached from opening, as one statement. Definitions only.
use Rattle.std.specs.Prelude.{◌≡◌, true, ℕ, ◌-◌, ◌<◌, Some}
use Rattle.counts.specs.declared.SongFrame.{SongFrame}
use Rattle.counts.specs.declared.Handle.{Handle}
use Rattle.ramp.specs.declared.Ramp.{Ramp}
use Rattle.ramp.specs.Number.{zero32, one32, between}
use Rattle.ramp.specs.Tail.{tail_frames, tail_start, ticks, is_exactly}
use Rattle.promises.specs.Calls.{State, Reached}

-- a weight from 1 after k ticks of 1,024: exactly (1024 - k)/1024, and never outside 0..1
pub record Weighs (w : Ramp) : Type 0 where
  pub ticked : ℕ
  pub few : ticked < tail_frames
  pub now : w ≡ ticks ticked tail_start
  pub exactly : is_exactly (tail_frames - ticked) tail_frames w.value ≡ true
  pub range : between zero32 one32 w.value ≡ true

-- the tail of a reached session, if it has one, weighs so
abbrev pub TailWeighs : Type 0
TailWeighs = (x : State) → Reached x → (h : Handle) (c : SongFrame) (w : Ramp) → x.session.stage.sound.fade.tail ≡ Some (record { song = h; cursor = c; weight = w }) → Weighs w

-- A clip as it sounds. Definitions only.
use Rattle.std.specs.Prelude.{ℕ, ◌*◌, List, take, drop, Float}
use Rattle.counts.specs.declared.Handle.{Handle}
use Rattle.bank.specs.declared.Clip.{Clip}
use Rattle.bank.specs.declared.Bank.{Bank}
use Rattle.bank.specs.Slots.{clip_of, extent_of}

-- how many frames it has, a song's length, and its samples
pub record Recording : Type 0 where
  pub frames : ℕ
  pub extent : ℕ
  pub samples : List Float

-- what a handle stands for, as it sounds
abbrev pub View : Type 0
View = Handle → Recording

-- a clip's samples are those from its start in the pool, two a frame
abbrev pub recording_of : List Float → Clip → Recording
recording_of pool c = record { frames = c.frames; extent = extent_of c.kind; samples = take (c.frames * 2) (drop (c.start * 2) pool) }

-- every handle, over a bank and its pool
unfoldable pub view_of : List Float → Bank → View
view_of pool b h = recording_of pool (clip_of b h)

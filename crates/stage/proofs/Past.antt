-- Past a clip's last frame it reads as +0.0. Assumes nothing.
use mathlib.Core.Path.{◌≡◌}
use mathlib.Core.List.{List}
use Prim.Native.Nat.{◌+◌, ◌*◌, ◌≤◌}
use native.Mathlib.Omega.{arith}
use lib.Ieee.{Float}
use Rattle.counts.specs.declared.SongFrame.{SongFrame}
use Rattle.counts.specs.Counts.{place_of}
use Rattle.bank.specs.declared.Clip.{Clip}
use Rattle.bank.specs.Recording.{recording_of}
use Rattle.oneshot.specs.Pair.{silence, pair_at}
use Rattle.oneshot.proofs.Places.{place_past}

-- at its frame count or past it a clip gives +0.0 on both sides
pub past_clip_law : (pool : List Float) (c : Clip) (f : SongFrame) → c.frames ≤ f.0 → pair_at (recording_of pool c) (place_of f) ≡ silence
past_clip_law pool c f h = rw (place_past pool c (f.0 * 2) (omega arith), place_past pool c (f.0 * 2 + 1) (omega arith))

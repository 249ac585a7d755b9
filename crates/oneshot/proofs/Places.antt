-- What stands at a place of a clip: inside it the pool's sample as it is heard, past it +0.0. Assumes nothing.
use mathlib.Core.Path.{◌≡◌, ap}
use mathlib.Core.List.{List}
use Prim.Native.Nat.{ℕ, ◌+◌, ◌*◌, ◌≤◌, ◌<◌}
use native.Mathlib.Omega.{arith}
use lib.ListN.{get_or, take, drop, length-take, get_or-eq_default}
use lib.Seq.{get_or-take, get_or-drop}
use lib.Ieee.{Float, nan, lt, eq, le}
use Rattle.ramp.specs.Number.{zero32}
use Rattle.bank.specs.declared.Clip.{Clip}
use Rattle.bank.specs.Sample.{sample_ok}
use Rattle.bank.specs.Recording.{recording_of}
use Rattle.oneshot.specs.Heard.{heard_of, sample_at}

module _ (pool : List Float) (c : Clip) (k : ℕ) where
  -- inside the clip it is the pool's
  pub place_inside : k < c.frames * 2 → sample_at (recording_of pool c) k ≡ heard_of (get_or pool (c.start * 2 + k) nan)
  unfolding sample_at
  place_inside h = rw (get_or-take, get_or-drop)

  -- past the clip it is +0.0
  pub place_past : c.frames * 2 ≤ k → sample_at (recording_of pool c) k ≡ zero32
  unfolding sample_at sample_ok le lt eq
  place_past h = ap heard_of (get_or-eq_default (take (c.frames * 2) (drop (c.start * 2) pool)) nan (omega (arith, length-take (c.frames * 2) (drop (c.start * 2) pool))))

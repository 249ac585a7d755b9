-- What a pump makes is heard after what waited, and is a block's. Assumes nothing.
use mathlib.Core.Path.{◌≡◌}
use mathlib.Core.List.{List, ◌++◌}
use Prim.Native.Nat.{ℕ, ◌+◌, ◌*◌, ◌<◌}
use native.Mathlib.Omega.{arith}
use lib.ListN.{length}
use lib.Ieee.{Float}
use Rattle.session.specs.declared.Session.{Session}
use Rattle.ring.specs.declared.SampleRing.{SampleRing}
use Rattle.ring.specs.Ring.{Within, held_of, waiting}
use Rattle.ring.proofs.Pushed.{behind_within, behind_held, behind_waits}
use Rattle.pump.specs.Pump.{frames_made, block_into, pump_done}
use Rattle.pump.proofs.Weighing.{made_fits}
use Rattle.pump.proofs.Into.{sound_of, sound_length}

module _ (s : Session) (q : List ℕ) (pool : List Float) (r : SampleRing) (store : List Float) (frames : ℕ) (w : Within (length store) r) where
  -- the frames made,
  abbrev made : ℕ
  made = frames_made (length store) r frames

  -- and their samples
  abbrev sound : List Float
  sound = sound_of s q pool made

  two_each : length sound ≡ made * 2
  two_each = sound_length s q pool made

  fits : length sound + held_of (length store) r < length store
  fits = omega (arith, two_each, made_fits (length store) r frames w)

  -- the ring stays within its store,
  pub pump_within : Within (length (pump_done s q pool r store made).1) (pump_done s q pool r store made).0.ring
  unfolding block_into
  pump_within = rw two_each at (behind_within r store sound w)

  -- what waits is what waited, and then what was made,
  pub pump_waits : waiting (pump_done s q pool r store made).0.ring (pump_done s q pool r store made).1 ≡ waiting r store ++ sound
  unfolding block_into
  pump_waits = rw two_each at (behind_waits r store sound w fits)

  -- and two more wait for each frame
  pub pump_held : held_of (length store) (pump_done s q pool r store made).0.ring ≡ held_of (length store) r + made * 2
  unfolding block_into
  pump_held = rw two_each at (behind_held r store sound w fits)

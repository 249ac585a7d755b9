-- Many frames of the transport at once, without its cursor. Definitions only.
use Rattle.std.specs.Prelude.{ℕ, zero, suc, ◌^◌, ◌≤◌, ◌≡◌, true, false}
use Rattle.transport.specs.declared.Transport.{Transport}
use Rattle.transport.specs.Transport.{transport, step_of, transport_fits}

-- the transport without its cursor
abbrev pub blindly : Transport → Transport
blindly t = transport t.state t.position.0 0 t.looped t.laps

-- m frames, one after the other. The cursor moves nothing else, so neither the mode nor the song's frames count.
unfoldable pub leap_of : ℕ → ℕ → Transport → Transport
leap_of extent zero t = blindly t
leap_of extent (suc m) t = blindly (step_of false 0 extent (leap_of extent m t)).transport

-- a transport can leap so many frames: it fits a song that is not too long
pub record Leapable (extent frames : ℕ) (t : Transport) : Type 0 where
  pub fits : transport_fits extent t ≡ true
  pub long : extent ≤ 2 ^ 40
  pub some : frames ≤ 2 ^ 62

-- What musicians read: in house mode the playhead is where the sound is. Definitions only.
use Rattle.std.specs.Prelude.{◌≡◌, ◌⊎◌, ℕ, ◌≤◌}
use Rattle.transport.specs.declared.Transport.{Transport}

-- cursor and position are equal, or both are at or past the end of a clip of so many frames, where it is silent
abbrev pub Together : ℕ → Transport → Type 0
Together frames t = (t.cursor.0 ≡ t.position.0) ⊎ ((frames ≤ t.cursor.0) × (frames ≤ t.position.0))

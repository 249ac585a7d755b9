-- Samples. Definitions only.
use Rattle.std.specs.Prelude.{ℕ, ◌*◌, ◌/◌, ◌%◌, Bool, List, eqb, length, get_or, Float}
use Rattle.std.specs.Float.{nan}
use Rattle.counts.specs.Below.{all_below}
use Rattle.ramp.specs.Number.{sixteen32, minus_sixteen32, between}

-- frames: half the samples, rounded down
abbrev pub frames_of : List Float → ℕ
frames_of samples = length samples / 2

-- a sample count that is no whole number of frames
abbrev pub is_odd : List Float → Bool
is_odd samples = eqb (length samples % 2) 1

-- the pool that is lent has two samples for each of its frames
abbrev pub is_pool : List Float → ℕ → Bool
is_pool pool frames = eqb (length pool) (frames * 2)

-- a sample must be finite, its magnitude at most 16
unfoldable pub sample_ok : Float → Bool
sample_ok x = between minus_sixteen32 sixteen32 x

-- every sample of a clip
unfoldable pub samples_ok : List Float → Bool
samples_ok xs = all_below (length xs) (λ i. sample_ok (get_or xs i nan))

-- Samples as they are heard. Definitions only.
use Rattle.std.specs.Prelude.{ℕ, cond, get_or, Float}
use Rattle.std.specs.Float.{nan}
use Rattle.ramp.specs.Number.{zero32}
use Rattle.bank.specs.Sample.{sample_ok}
use Rattle.bank.specs.Recording.{Recording}

-- a sample that is finite and at most 16 in magnitude is heard as it is, any other pattern in the pool as +0.0
abbrev pub heard_of : Float → Float
heard_of x = cond (sample_ok x) x zero32

-- the sample at a place of a clip, as heard; past the clip there is none, and so +0.0
unfoldable pub sample_at : Recording → ℕ → Float
sample_at x k = heard_of (get_or x.samples k nan)

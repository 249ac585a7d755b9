-- Stereo frames. Definitions only.
use Rattle.std.specs.Prelude.{◌+◌, Float}
use Rattle.std.specs.Float.{binary32}
use Rattle.std.specs.Float.Ieee.{add, mul}
use Rattle.counts.specs.declared.SamplePlace.{SamplePlace}
use Rattle.ramp.specs.Number.{zero32}
use Rattle.bank.specs.Recording.{Recording}
use Rattle.oneshot.specs.declared.Pair.{Pair}
use Rattle.oneshot.specs.Heard.{sample_at}

-- a left and a right sample
abbrev pub pair : Float → Float → Pair
pair l r = record { left = l; right = r }

-- +0.0 on both sides
abbrev pub silence : Pair
silence = pair zero32 zero32

-- each side rounds on its own; no product is fused with a sum
abbrev pub plus : Pair → Pair → Pair
plus p q = pair (add binary32 p.left q.left) (add binary32 p.right q.right)

-- a pair × a gain, each side on its own
abbrev pub times : Pair → Float → Pair
times p g = pair (mul binary32 p.left g) (mul binary32 p.right g)

-- the pair that starts at a place of a clip
abbrev pub pair_at : Recording → SamplePlace → Pair
pair_at x k = pair (sample_at x k.0) (sample_at x (k.0 + 1))

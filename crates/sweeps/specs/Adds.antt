-- What the sweeps of a run make of each place. Definitions only.
use Rattle.std.specs.Prelude.{ℕ, zero, suc, ◌+◌, ◌-◌, ◌/◌, ◌≤◌, Bool, cond, List, get_or, Float, Option, Some, None, IfSome}
use Rattle.std.specs.Float.{nan, binary32}
use Rattle.std.specs.Float.Ieee.{add, mul}
use Rattle.ramp.specs.Number.{zero32}
use Rattle.ramp.specs.declared.Ramp.{Ramp}
use Rattle.ramp.specs.Ramp.{tick_of}
use Rattle.oneshot.specs.Heard.{heard_of}
use Rattle.sweeps.specs.declared.Stream.{Stream}

-- the sample at place k of a run, as heard; a part is where in the pool the run's samples stand, and without one it is silent
unfoldable pub share_of : List Float → Option ℕ → ℕ → Float
share_of pool None k = zero32
share_of pool (Some at) k = heard_of (get_or pool (at + k) nan)

-- a part that sounds has m samples in a pool of n
abbrev pub Reads : ℕ → Option ℕ → ℕ → Type 0
Reads n p m = IfSome p (λ at. at + m ≤ n)

-- n ticks of a ramp
unfoldable pub ticks_of : ℕ → Ramp → Ramp
ticks_of zero r = r
ticks_of (suc n) r = (tick_of (ticks_of n r)).ramp

-- the value in the frame after n others
abbrev pub gain_at : Ramp → ℕ → Float
gain_at r n = (tick_of (ticks_of n r)).value

-- +0.0
abbrev pub cleared : ℕ → Float → Float
cleared k x = zero32

-- what stands there plus the part × a gain
abbrev pub still_adds : List Float → Option ℕ → Float → ℕ → Float → Float
still_adds pool p g k x = add binary32 x (mul binary32 (share_of pool p k) g)

-- a stream as a part that sounds
abbrev pub stream_adds : List Float → Stream → ℕ → Float → Float
stream_adds pool s = still_adds pool (Some s.at) s.gain

-- four of them in turn
abbrev pub four_adds : List Float → Stream → Stream → Stream → Stream → ℕ → Float → Float
four_adds pool a b c d k x = stream_adds pool d k (stream_adds pool c k (stream_adds pool b k (stream_adds pool a k x)))

-- what stands there plus the part × the ramp's value in the place's frame
abbrev pub adds : List Float → Option ℕ → Ramp → ℕ → Float → Float
adds pool p r k x = add binary32 x (mul binary32 (share_of pool p k) (gain_at r (k / 2)))

-- what a tail's weight is multiplied with: in house mode the tail × the master's gain, else the tail
abbrev pub under_of : Bool → Float → Float → Float
under_of house g y = cond house (mul binary32 y g) y

-- the song × a, plus the tail × b, in house mode × a before, and that before what stands there
abbrev pub both_by : Bool → List Float → Option ℕ → Option ℕ → Float → Float → ℕ → Float → Float
both_by house pool s t a b k x = add binary32 (add binary32 (mul binary32 (share_of pool s k) a) (mul binary32 (under_of house a (share_of pool t k)) b)) x

-- by the master and the tail's weight
abbrev pub both_adds : Bool → List Float → Option ℕ → Option ℕ → Ramp → Ramp → ℕ → Float → Float
both_adds house pool s t g w k x = both_by house pool s t (gain_at g (k / 2)) (gain_at w (k / 2)) k x

-- by a gain that stands still and a weight that begins in frame j
abbrev pub still_both : Bool → List Float → Option ℕ → Option ℕ → ℕ → Float → Ramp → ℕ → Float → Float
still_both house pool s t j g w k x = both_by house pool s t g (gain_at w (k / 2 - j)) k x

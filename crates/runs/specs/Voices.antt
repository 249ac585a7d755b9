-- Voices over a run of frames in which none of them leaves. Definitions only.
use Rattle.std.specs.Prelude.{ℕ, ◌+◌, ◌*◌, ◌/◌, ◌<◌, ◌≡◌, List, [], ◌∷◌, ◌++◌, map, drop, Float}
use Rattle.std.specs.Float.{binary32}
use Rattle.std.specs.Float.Ieee.{add, mul}
use Rattle.ramp.specs.Number.{zero32}
use Rattle.bank.specs.declared.Clip.{Clip}
use Rattle.bank.specs.Recording.{Recording, View, recording_of}
use Rattle.oneshot.specs.declared.Voice.{Voice}
use Rattle.oneshot.specs.declared.Voices.{Voices}
use Rattle.oneshot.specs.Heard.{sample_at}
use Rattle.oneshot.specs.Mix.{sounding}
use Rattle.oneshot.specs.Sounding.{LiesIn}
use Rattle.sweeps.specs.declared.Stream.{Stream}
use Rattle.sweeps.specs.Over.{over}
use Rattle.sweeps.specs.Adds.{ticks_of, gain_at}

-- a voice n frames on
abbrev pub voice_by : ℕ → Voice → Voice
voice_by n v = record { handle = v.handle; head = record { 0 = v.head.0 + n * 2 }; gain = ticks_of n v.gain }

-- all of them n frames on; the places after them are as they were
abbrev pub voices_by : ℕ → Voices → Voices
voices_by n t = record { table = map (voice_by n) (sounding t) ++ drop t.count t.table; count = t.count }

-- after n frames its clip has frames left
abbrev pub Lasts : View → ℕ → Voice → Type 0
Lasts view n v = v.head.0 + n * 2 < (view v.handle).frames * 2

-- the same where its clip is c, and the clip lies in a pool of m samples
abbrev pub LastsIn : ℕ → ℕ → Voice → Clip → Type 0
LastsIn m n v c = LiesIn m c × (v.head.0 + n * 2 < c.frames * 2)

-- a voice's gain stands still
abbrev pub Still : Voice → Type 0
Still v = v.gain.remaining ≡ 0

-- such a voice as a stream of the pool, where its clip is c
abbrev pub stream_of : Voice → Clip → Stream
stream_of v c = record { at = c.start * 2 + v.head.0; gain = v.gain.value }

-- what a voice adds at place k of a run, where its clip is x
unfoldable pub share_in : Recording → Voice → ℕ → Float
share_in x v k = mul binary32 (sample_at x (v.head.0 + k)) (gain_at v.gain (k / 2))

-- as a rule of a sweep
abbrev pub voice_adds : Recording → Voice → ℕ → Float → Float
voice_adds x v k y = add binary32 y (share_in x v k)

-- a voice's n frames, added to what stands there
abbrev pub voice_on : List Float → Clip → ℕ → Voice → List Float → List Float
voice_on pool c n v os = over (voice_adds (recording_of pool c) v) 0 (n * 2) os

-- voices in firing order, each added to the sum
unfoldable pub sum_from : View → List Voice → ℕ → Float → Float
sum_from view [] k x = x
sum_from view (v ∷ vs) k x = sum_from view vs k (add binary32 x (share_in (view v.handle) v k))

-- the stinger sum at place k of a run, as a rule of a sweep
abbrev pub sums : View → List Voice → ℕ → Float → Float
sums view vs k x = sum_from view vs k zero32

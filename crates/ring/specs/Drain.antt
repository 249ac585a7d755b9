-- The callback's block. Definitions only.
use Rattle.std.specs.Prelude.{ℕ, zero, suc, ◌*◌, ◌/◌, min, cond, List, [], ◌∷◌, length, Float, Result, Ok, Err}
use Rattle.ramp.specs.Number.{zero32}
use Rattle.session.specs.declared.Refusal.{Refusal}
use Rattle.ring.specs.declared.SampleRing.{SampleRing}
use Rattle.ring.specs.declared.Drained.{Drained}
use Rattle.ring.specs.Ring.{ring_at, ring_ok, held_of, place_at, from, waiting}

-- a block of so many samples from those that wait, frame by frame: a frame for which two are there takes them, any other is silence and takes nothing;
-- an odd last sample is silence
unfoldable pub by_frames : List Float → ℕ → List Float
by_frames xs zero = []
by_frames xs (suc zero) = zero32 ∷ []
by_frames [] (suc (suc m)) = zero32 ∷ (zero32 ∷ by_frames [] m)
by_frames (x ∷ []) (suc (suc m)) = zero32 ∷ (zero32 ∷ by_frames (x ∷ []) m)
by_frames (x ∷ (y ∷ xs)) (suc (suc m)) = x ∷ (y ∷ by_frames xs m)

-- whole frames only: as many as the block of m samples has, and at most as many as wait
abbrev pub whole_of : ℕ → SampleRing → ℕ → ℕ
whole_of n r m = min (m / 2) (held_of n r / 2)

-- answer and ring
abbrev pub drained : Result ℕ Refusal → SampleRing → Drained
drained a r = record { answer = a; ring = r }

-- the frames taken, the head past them, and the block
abbrev pub drain_done : SampleRing → List Float → ℕ → Drained × List Float
drain_done r store m =
    let k : ℕ = whole_of (length store) r m in
    (drained (Ok k) (ring_at (place_at (length store) r.head (k * 2)) r.tail), by_frames (waiting r store) m)

-- answer and ring; block
unfoldable pub drain_of : SampleRing → List Float → List Float → Drained × List Float
unfolding held_of place_at from by_frames
drain_of r store out = cond (ring_ok (length store) r) (drain_done r store (length out)) (drained (Err Refusal.BadRing) r, out)

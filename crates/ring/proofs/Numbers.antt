-- A ring of five places by computation. Assumes nothing.
use mathlib.Core.Path.{◌≡◌, refl}
use mathlib.Core.Bool.{false}
use mathlib.Core.List.{List, [], ◌∷◌}
use lib.IntN.{pos}
use lib.ListN.{replicate}
use lib.Ieee.{Float, fin}
use Rattle.ramp.specs.Number.{zero32}
use Rattle.ring.specs.Ring.{ring_at, held_of, free_of, place_at, from, pushed}
use Rattle.session.specs.declared.Refusal.{Refusal}
use Rattle.ring.specs.Drain.{by_frames, drained, drain_of}
use Rattle.std.specs.Prelude.{Ok, Err}

-- 1.0, 3.0, 5.0, 7.0
abbrev one : Float
one = fin false 1 (pos 0)

abbrev three : Float
three = fin false 3 (pos 0)

abbrev five : Float
five = fin false 5 (pos 0)

abbrev seven : Float
seven = fin false 7 (pos 0)

abbrev quiet : List Float
quiet = zero32 ∷ (zero32 ∷ (zero32 ∷ (zero32 ∷ (zero32 ∷ []))))

-- two frames pushed from place 4: the first lies over the end
abbrev full : List Float
full = three ∷ (five ∷ (seven ∷ (zero32 ∷ (one ∷ []))))

pub over_the_end : pushed 5 quiet 4 (one ∷ (three ∷ (five ∷ (seven ∷ [])))) ≡ full
unfolding pushed place_at
over_the_end = refl

-- it is full: one place stays empty
pub counts : (held_of 5 (ring_at 4 3) ≡ 4) × (free_of 5 (ring_at 4 3) ≡ 0) × (held_of 5 (ring_at 2 2) ≡ 0) × (free_of 5 (ring_at 2 2) ≡ 4)
unfolding free_of held_of
counts = (refl, refl, refl, refl)

-- a block of seven takes both frames, then silence; the ring is empty
pub drains : drain_of (ring_at 4 3) full (replicate 7 zero32) ≡ (drained (Ok 2) (ring_at 3 3), one ∷ (three ∷ (five ∷ (seven ∷ (zero32 ∷ (zero32 ∷ (zero32 ∷ [])))))))
unfolding drain_of by_frames held_of place_at from
drains = refl

-- three samples wait: one frame is taken, the odd sample stays
pub half : drain_of (ring_at 4 2) full (replicate 4 zero32) ≡ (drained (Ok 1) (ring_at 1 2), one ∷ (three ∷ (zero32 ∷ (zero32 ∷ []))))
unfolding drain_of by_frames held_of place_at from
half = refl

-- a head outside is refused, and the block stays
pub outside : drain_of (ring_at 5 2) full (seven ∷ []) ≡ (drained (Err Refusal.BadRing) (ring_at 5 2), seven ∷ [])
unfolding drain_of
outside = refl

-- The pump. Definitions only.
use Rattle.std.specs.Prelude.{ℕ, ◌+◌, ◌*◌, ◌/◌, ◌^◌, min, not, List, ltb, length, Float, Result, Ok, Err}
use Rattle.bank.specs.Sample.{is_pool}
use Rattle.session.specs.declared.Session.{Session}
use Rattle.session.specs.declared.Refusal.{Refusal}
use Rattle.session.specs.Refusal.{number_of, first, unless}
use Rattle.session.specs.Answer.{Says, refused, gives}
use Rattle.session.specs.WellFormed.{well_formed}
use Rattle.session.specs.declared.Answered.{Answered}
use Rattle.block.specs.Block.{ran_of, block_done, reported}
use Rattle.ring.specs.declared.SampleRing.{SampleRing}
use Rattle.ring.specs.Ring.{ring_at, ring_ok, free_of, place_at, pushed}
use Rattle.pump.specs.declared.Pumped.{Pumped}
use Rattle.pump.specs.declared.Pushed.{Pushed}

-- the frames made with their passes, or the refusal's number
abbrev pub says_pump : Result Pushed Refusal → Says (ℕ × ℕ)
says_pump (Ok x) = gives (x.frames, x.passes)
says_pump (Err k) = refused (number_of k)

-- the frames that an answer tells; a refused pump makes none,
abbrev pub pumped_frames : Result Pushed Refusal → ℕ
pumped_frames (Ok x) = x.frames
pumped_frames (Err k) = 0

-- and no passes
abbrev pub pumped_passes : Result Pushed Refusal → ℕ
pumped_passes (Ok x) = x.passes
pumped_passes (Err k) = 0

-- the frames asked for, held to half the free samples of a store of n
abbrev pub frames_made : ℕ → SampleRing → ℕ → ℕ
frames_made n r frames = min frames (free_of n r / 2)

-- 1, the ring, 2, and 4 as for a block of the frames made
unfoldable pub weigh_pump : Session → List ℕ → List ℕ → List Float → SampleRing → ℕ → ℕ → Result (Unit {0}) Refusal
unfolding free_of
weigh_pump s q c pool r n frames =
    first (not (well_formed s q c)) Refusal.NotWellFormed
    (first (not (ring_ok n r)) Refusal.BadRing
    (first (not (is_pool pool s.settings.pool)) Refusal.PoolLength
    (first (ltb (2 ^ 62) (s.stage.clock.0 + frames_made n r frames)) Refusal.ClockSpent (Ok tt))))

-- a block of n frames whose samples are pushed into a store from place t on: its answer and session; store
unfoldable pub block_into : Session → List ℕ → List Float → List Float → ℕ → ℕ → Answered ℕ × List Float
unfolding pushed
block_into s q pool store t n =
    let z : Answered ℕ × List Float = block_done s (ran_of s q pool n) in
    (z.0, pushed (length store) store t z.1)

-- answer, session and ring
abbrev pub pumped : Result Pushed Refusal → Session → SampleRing → Pumped
pumped a s r = record { answer = a; session = s; ring = r }

-- n frames are made, all of them are pushed, and the tail is past them
abbrev pub pump_done : Session → List ℕ → List Float → SampleRing → List Float → ℕ → Pumped × List Float
pump_done s q pool r store n =
    let z : Answered ℕ × List Float = block_into s q pool store r.tail n in
    (pumped (Ok (record { frames = n; passes = reported z.0.answer })) z.0.session (ring_at r.head (place_at (length store) r.tail (n * 2))), z.1)

-- answer, session and ring; store
unfoldable pub pump_of : Session → List ℕ → List ℕ → List Float → SampleRing → List Float → ℕ → Pumped × List Float
unfolding free_of place_at weigh_pump block_into
pump_of s q c pool r store frames =
    unless (weigh_pump s q c pool r (length store) frames) (λ k. (pumped (Err k) s r, store))
    (pump_done s q pool r store (frames_made (length store) r frames))

-- Document 01's numbers of the transport, on the definitions. Assumes nothing.
use mathlib.Core.Path.{◌≡◌, refl}
use mathlib.Core.Bool.{Bool, true, false}
use Prim.Native.Nat.{ℕ}
use Rattle.std.specs.Prelude.{Option, Some, None}
use Rattle.transport.specs.declared.LoopRange.{LoopRange}
use Rattle.transport.specs.declared.TransportState.{TransportState}
use Rattle.transport.specs.declared.TransportState.TheVariants.{Playing}
use Rattle.transport.specs.Transport.{transport, wrap_of, advance_of, is_past, comes_round, step_of}
use Rattle.transport.specs.Deadline.{distance_to, song_deadline_of}

abbrev range : ℕ → ℕ → Option LoopRange
range s e = Some (record { start = record { 0 = s }; end = record { 0 = e } })

-- the clock frame of song frame t at clock 500 and position p, in any state and with any cursor
abbrev due_at : TransportState → ℕ → ℕ → Option LoopRange → ℕ → ℕ
due_at s c p l t = (song_deadline_of (record { 0 = 500 }) (transport s p c l 0) (record { 0 = t })).0

-- clock 500, position 100: song frame 130 gives 530; 90 gives 500; 90 with loop 80..120 gives 530; 79 with it gives 500. At position 120, 90 gives 500.
pub deadlines :
    (s : TransportState) (c : ℕ)
    → (due_at s c 100 None 130 ≡ 530)
    × (due_at s c 100 None 90 ≡ 500)
    × (due_at s c 100 (range 80 120) 90 ≡ 530)
    × (due_at s c 100 (range 80 120) 79 ≡ 500)
    × (due_at s c 120 (range 80 120) 90 ≡ 500)
unfolding song_deadline_of distance_to
deadlines s c = (refl, refl, refl, refl, refl)

-- loop 10..14: position 27 goes to 11, cursor 10 as tono and 11 in house mode; position 14 goes to 10, cursor 10 in both (rule a)
pub wraps :
    (c n : ℕ)
    → (wrap_of false (transport Playing 27 c (range 10 14) n) ≡ transport Playing 11 10 (range 10 14) n)
    × (wrap_of true (transport Playing 27 c (range 10 14) n) ≡ transport Playing 11 11 (range 10 14) n)
    × (wrap_of false (transport Playing 14 c (range 10 14) n) ≡ transport Playing 10 10 (range 10 14) n)
    × (wrap_of true (transport Playing 14 c (range 10 14) n) ≡ transport Playing 10 10 (range 10 14) n)
unfolding wrap_of
wraps c n = (refl, refl, refl, refl)

-- loop 10..14: from position 13 the next frame is at 10, position and cursor (rule b)
pub comes_round_law : (frames extent c n : ℕ) → advance_of frames extent (transport Playing 13 c (range 10 14) n) ≡ transport Playing 10 10 (range 10 14) n
unfolding advance_of
comes_round_law frames extent c n = refl

-- how many times the first frame passes from the end of loop 10..14 to its start, from position p
abbrev passes_at : Bool → ℕ → ℕ
passes_at house p = (step_of house 20 20 (transport Playing p p (range 10 14) 0)).passes

-- from 12 not at all, from 13 once (rule b), from 14 once (rule a), from 17 twice: rule a takes it to 13, and rule b to 10
pub passes : (house : Bool) → (passes_at house 12 ≡ 0) × (passes_at house 13 ≡ 1) × (passes_at house 14 ≡ 1) × (passes_at house 17 ≡ 2)
unfolding step_of wrap_of advance_of is_past comes_round
passes house = (refl, refl, refl, refl)

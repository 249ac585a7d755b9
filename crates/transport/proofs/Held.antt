-- The deadline of a song frame is a clock frame, not before the clock; where no sum reaches 2^64 it is what 01's three cases say. Assumes nothing.
use mathlib.Core.Path.{◌≡◌}
use mathlib.Core.Bool.{true, false, ◌&&◌, cond}
use mathlib.Core.Logic.{◌⊎◌, inl, inr}
use Prim.Native.Nat.{ℕ, ◌+◌, ◌-◌, ◌^◌, ◌≤◌, ◌<◌, min}
use native.Mathlib.Omega.{arith}
use borrow.Author.Tests.{leb-true}
use lib.Dec.{leb, ltb}
use Rattle.std.specs.Prelude.{Option, Some, None}
use Rattle.counts.specs.declared.ClockFrame.{ClockFrame}
use Rattle.counts.specs.declared.SongFrame.{SongFrame}
use Rattle.counts.proofs.Truth.{two_ways}
use Rattle.transport.specs.declared.LoopRange.{LoopRange}
use Rattle.transport.specs.declared.Transport.{Transport}
use Rattle.transport.specs.Transport.{loop_fits}
use Rattle.transport.specs.Deadline.{behind, distance_to, song_deadline_of}
use Rattle.transport.proofs.Within.{end_fits, after_start, before_end, not_past}

-- a deadline is below 2^64
pub below : (clock : ClockFrame) (x : Transport) (t : SongFrame) → (song_deadline_of clock x t).0 < 2 ^ 64
unfolding song_deadline_of
below clock x t = omega arith

-- a deadline is not before the clock
pub not_before : (clock : ClockFrame) (x : Transport) (t : SongFrame) → clock.0 < 2 ^ 64 → clock.0 ≤ (song_deadline_of clock x t).0
unfolding song_deadline_of
not_before clock x t h = omega arith

-- 01's second and third case: with start <= t < end and p < end, clock + (end - p) + (t - start); else clock
abbrev pub due_behind : ℕ → Option LoopRange → ℕ → ℕ → ℕ
due_behind clock None p t = clock
due_behind clock (Some l) p t = cond (leb l.start.0 t && ltb t l.end.0 && ltb p l.end.0) (clock + (l.end.0 - p) + (t - l.start.0)) clock

-- 01's three cases: t >= p gives clock + t - p, held at 2^64 - 1; else as above
abbrev pub due : ℕ → Option LoopRange → ℕ → ℕ → ℕ
due clock l p t = cond (leb p t) (min (clock + t - p) (2 ^ 64 - 1)) (due_behind clock l p t)

behind_is : (extent clock p t : ℕ) (l : Option LoopRange) → clock ≤ 2 ^ 62 → extent ≤ 2 ^ 40 → loop_fits extent l ≡ true
    → min (clock + behind l p t) (2 ^ 64 - 1) ≡ due_behind clock l p t
behind_is extent clock p t None hc he hl = omega arith
behind_is extent clock p t (Some l) hc he hl = go (two_ways (leb l.start.0 t && ltb t l.end.0 && ltb p l.end.0))
  where
    go : (leb l.start.0 t && ltb t l.end.0 && ltb p l.end.0 ≡ true) ⊎ (leb l.start.0 t && ltb t l.end.0 && ltb p l.end.0 ≡ false)
        → min (clock + behind (Some l) p t) (2 ^ 64 - 1) ≡ due_behind clock (Some l) p t
    go (inl q) = rw q (omega (arith, hc, he, end_fits extent l hl, after_start l.start.0 t l.end.0 p q, before_end l.start.0 t l.end.0 p q, not_past l.start.0 t l.end.0 p q))
    go (inr q) = rw q (omega (arith, hc))

-- with the clock at most 2^62 and the loop inside a length of at most 2^40, a deadline is as 01's three cases say
pub three_cases : (extent : ℕ) (clock : ClockFrame) (x : Transport) (t : SongFrame) → clock.0 ≤ 2 ^ 62 → extent ≤ 2 ^ 40 → loop_fits extent x.looped ≡ true
    → (song_deadline_of clock x t).0 ≡ due clock.0 x.looped x.position.0 t.0
unfolding song_deadline_of distance_to
three_cases extent clock x t hc he hl = go (two_ways (leb x.position.0 t.0))
  where
    go : (leb x.position.0 t.0 ≡ true) ⊎ (leb x.position.0 t.0 ≡ false)
        → (song_deadline_of clock x t).0 ≡ due clock.0 x.looped x.position.0 t.0
    go (inl q) = rw q (omega (arith, leb-true x.position.0 t.0 q))
    go (inr q) = rw q (behind_is extent clock.0 x.position.0 t.0 x.looped hc he hl)

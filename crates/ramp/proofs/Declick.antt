-- The declick in whole numbers is tono's, which rounds in f32, for every rate from 8,000 to 192,000. Both grow with the rate, and the whole number stays at n from
-- 500n - 250 to 500n + 249: so it is enough that tono's is n at both ends, for each n, and that is computed. Assumes nothing.
use Rattle.std.proofs.Common.{◌≡◌, ℕ, ◌+◌, ◌-◌, ◌*◌, ◌/◌, ◌^◌, ◌<◌, ◌≤◌, min, Bool, true, false, ◌&&◌, T, eqb, pos, negsuc, sym, refl, ap, ◌∙◌, subst, le_trans, le_of_eq, mul_comm, le_antisymm, arith, lit<, eqb-true}
use lib.Ieee.{Float, nan, inf, fin, binary32, mul, div, of_int, le}
use lib.Ieee.Back.{round_whole}
use lib.Ieee.Nearest.{div_mono}
use lib.Ieee.Order.{round_mono}
use lib.Ieee.Positive.{num, den, positive, den_pos, le→cross, positive_of_value, between, mul_mono}
use Rattle.counts.specs.Below.{all_below}
use Rattle.counts.proofs.Truth.{and_l, and_r}
use Rattle.counts.proofs.Below.{all_at}
use Rattle.ramp.specs.Number.{two32}
use Rattle.ramp.specs.Ramp.{ms_tween, declick_of, tween_of}
use Rattle.ramp.specs.Tono.{round_away, tono_ms}

-- ---- tono's number of frames grows with the rate

-- 2.0 / 1000.0
abbrev scale : Float
scale = fin false 8589935 (negsuc 31)

scale_is : div binary32 two32 (fin false 125 (pos 3)) ≡ scale
unfolding div
scale_is = refl

-- a rate as a float
abbrev rated : ℕ → Float
rated r = of_int binary32 (pos r)

abbrev scaled : ℕ → Float
scaled r = mul binary32 scale (rated r)

tono_is : (r : ℕ) → tono_ms two32 r ≡ round_away (scaled r)
unfolding tono_ms
tono_is r = ap (λ (x : Float). round_away (mul binary32 x (rated r))) scale_is

rated_positive : (r : ℕ) → 0 < r → r ≤ 2 ^ 24 → T (positive (rated r))
unfolding of_int
rated_positive r p q = positive_of_value (rated r) r 1 (round_whole binary32 false r q) p

rated_mono : (a b : ℕ) → a ≤ b → T (le (rated a) (rated b))
unfolding of_int
rated_mono a b h = round_mono binary32 a 1 b 1 (lit< tt) (lit< tt) (omega arith)

scaled_mono : (a b : ℕ) → 0 < a → a ≤ b → b ≤ 2 ^ 24 → T (le (scaled a) (scaled b))
unfolding le
scaled_mono a b p h q =
    mul_mono binary32 scale scale (rated a) (rated b) tt tt (rated_positive a p (omega arith)) (rated_positive b (omega arith) q) tt (rated_mono a b h)

-- the rates that are looked at
abbrev lowest : ℕ
lowest = 7750

abbrev highest : ℕ
highest = 192249

ends : T (positive (scaled lowest)) × T (positive (scaled highest))
unfolding mul of_int
ends = (tt, tt)

scaled_positive : (r : ℕ) → lowest ≤ r → r ≤ highest → T (positive (scaled r))
scaled_positive r p q =
    between (scaled lowest) (scaled r) (scaled highest) ends.0 ends.1 (scaled_mono lowest r (omega arith) p (omega arith)) (scaled_mono r highest (omega arith) q (omega arith))

-- the rounding of a float above zero, by its fraction
abbrev away : ℕ → ℕ → ℕ
away n d = (2 * n + d) / (2 * d)

away_mono : (a b c d : ℕ) → 0 < b → 0 < d → a * d ≤ c * b → away a b ≤ away c d
away_mono a b c d p q h =
    let e : a * (2 * d) ≡ 2 * (a * d) = omega (arith, mul_comm a d) in
    div_mono (2 * a + b) (2 * b) (2 * c + d) (2 * d) (omega arith) (omega arith) (omega (arith, mul_comm b d, e))

round_is : (x : Float) → T (positive x) → round_away x ≡ min (away (num x) (den x)) (2 ^ 32 - 1)
unfolding round_away
round_is nan p = absurd p
round_is (inf s) p = absurd p
round_is (fin true m e) p = absurd p
round_is (fin false m e) p = refl

round_mono_away : (x y : Float) → T (positive x) → T (positive y) → T (le x y) → round_away x ≤ round_away y
round_mono_away x y p q h =
    let k : away (num x) (den x) ≤ away (num y) (den y) = away_mono (num x) (den x) (num y) (den y) (den_pos x) (den_pos y) (le→cross x y p q h) in
    rw (round_is x p, round_is y q) (omega arith)

tono_mono : (a b : ℕ) → lowest ≤ a → a ≤ b → b ≤ highest → tono_ms two32 a ≤ tono_ms two32 b
tono_mono a b p h q =
    rw (tono_is a, tono_is b)
    (round_mono_away (scaled a) (scaled b) (scaled_positive a p (omega arith)) (scaled_positive b (omega arith) q) (scaled_mono a b (omega arith) h (omega arith)))

-- ---- at both ends of every step it is the whole number

abbrev at_low : ℕ → Bool
at_low n = eqb (tono_ms two32 (500 * n - 250)) n

abbrev at_high : ℕ → Bool
at_high n = eqb (tono_ms two32 (500 * n + 249)) n

-- for each n from 16 to 384
computed : all_below 369 (λ i. at_low (16 + i) && at_high (16 + i)) ≡ true
unfolding tono_ms round_away mul div of_int all_below
computed = refl

-- between the ends
between_ends : (n r : ℕ) → 16 ≤ n → n ≤ 384 → 500 * n ≤ r + 250 → r ≤ 500 * n + 249 → tono_ms two32 r ≡ n
between_ends n r p q l h =
    let k : ℕ = n - 16 in
    let s : 16 + k ≡ n = omega arith in
    let e : at_low n && at_high n ≡ true = subst (λ (m : ℕ). at_low m && at_high m ≡ true) s (all_at (λ i. at_low (16 + i) && at_high (16 + i)) 369 k computed (omega arith)) in
    let a : tono_ms two32 (500 * n - 250) ≡ n = eqb-true _ _ (and_l (at_low n) (at_high n) e) in
    let b : tono_ms two32 (500 * n + 249) ≡ n = eqb-true _ _ (and_r (at_low n) (at_high n) e) in
    le_antisymm
    (le_trans (tono_mono r (500 * n + 249) (omega arith) h (omega arith)) (le_of_eq b))
    (le_trans (le_of_eq (sym a)) (tono_mono (500 * n - 250) r (omega arith) (omega arith) (omega arith)))

-- ---- the declick stays as it was: tono's Tween::ms(2.0, rate)

pub as_tono : (rate : ℕ) → 8000 ≤ rate → rate ≤ 192000 → declick_of rate ≡ tween_of (tono_ms two32 rate)
unfolding ms_tween
as_tono rate p q =
    let n : ℕ = (2 * rate + 500) / 1000 in
    ap tween_of (omega arith ∙ sym (between_ends n rate (omega arith) (omega arith) (omega arith) (omega arith)))

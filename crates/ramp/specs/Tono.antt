-- tono's own Tween::ms, a float that is rounded. No contract speaks of it: the declick is held to it. Definitions only.
use Rattle.std.specs.Prelude.{ℕ, ◌+◌, ◌-◌, ◌*◌, ◌/◌, ◌^◌, min, false, cond, pos, Float}
use Rattle.std.specs.Float.{nan, inf, fin, binary32}
use Rattle.std.specs.Float.Ieee.{up, down, mul, div, of_int}

-- to the nearest whole number, halves away from zero, held at 2^32 - 1; 0 for what is not above 0
unfoldable pub round_away : Float → ℕ
round_away nan = 0
round_away (inf s) = cond s 0 (2 ^ 32 - 1)
round_away (fin s m e) = cond s 0 (min ((2 * (m * up e) + down e) / (2 * down e)) (2 ^ 32 - 1))

-- ms / 1000.0 * rate, each step in f32, rounded; 1000.0 is 125 * 2^3
unfoldable pub tono_ms : Float → ℕ → ℕ
unfolding round_away
tono_ms ms rate = round_away (mul binary32 (div binary32 ms (fin false 125 (pos 3))) (of_int binary32 (pos rate)))

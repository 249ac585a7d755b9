-- A sweep over a list: each of n places from one on becomes what a rule makes of it. Definitions only.
use Rattle.std.specs.Prelude.{ℕ, zero, suc, ◌+◌, List, get_or, set, Float}
use Rattle.std.specs.Float.{nan}

-- the rule sees the place and what stood there before the sweep
unfoldable pub over : (ℕ → Float → Float) → ℕ → ℕ → List Float → List Float
over f from zero os = os
over f from (suc n) os = set (over f from n os) (from + n) (f (from + n) (get_or os (from + n) nan))

-- `oneshot::pair_at` meets its contract: past the clip by the law of `proofs/Places.antt`. Assumes nothing.
use Prim.Native.Nat.{◌+◌}
use native.Mathlib.Omega.{arith}
use lib.Ieee.{of_bits}
use Rattle.oneshot.proofs.Places.{place_past}
use Rattle.oneshot.proofs.pair_at.Goals as goal

pub returns : goal.returns
unfolding of_bits
returns c =
    let s = c.args in
    let k = s.place.0 in
    rw (place_past s.pool.now s.clip k c.if-at-samples.false, place_past s.pool.now s.clip (k + 1) (omega (arith, c.if-at-samples.false)))

-- `oneshot::sample_at` meets its contract, by the laws of `proofs/Places.antt`. Assumes nothing.
use mathlib.Core.Path.{sym, ◌∙◌}
use lib.Ieee.{of_bits}
use Rattle.oneshot.proofs.Places.{place_inside, place_past}
use Rattle.oneshot.proofs.sample_at.Goals as goal

pub returns-then-k-samples : goal.returns-then-k-samples
returns-then-k-samples c =
    let s = c.args in
    c.heard.ensures ∙ sym (place_inside s.pool.now s.clip s.k c.if-k-samples.true)

pub returns : goal.returns
unfolding of_bits
returns c =
    let s = c.args in
    sym (place_past s.pool.now s.clip s.k c.if-k-samples.false)

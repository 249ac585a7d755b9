-- `sweeps::clear` meets its contract. Assumes nothing.
use mathlib.Core.Path.{◌≡◌, sym}
use native.Mathlib.Omega.{arith}
use lib.ListN.{length, take, length-take}
use lib.Ieee.{of_bits}
use Rattle.sweeps.proofs.Over.{over_cleared}
use Rattle.sweeps.proofs.clear.Goals as goal

pub returns : goal.returns
unfolding of_bits
returns c =
    let s = c.args in
    let e : length (take s.to s.out.now) ≡ s.to = omega (arith, length-take s.to s.out.now) in
    rw (c.fill.ensures.after (λ y e. e), e) (sym (over_cleared s.to s.out.now c.requires))

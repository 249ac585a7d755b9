-- `sweeps::add_part` meets its contract. Assumes nothing.
use mathlib.Core.Path.{ap, ◌∙◌}
use native.Mathlib.Omega.{arith}
use Rattle.ramp.specs.Ramp.{tick_of}
use Rattle.sweeps.proofs.Parts.{part_ramp, part_done}
use Rattle.sweeps.proofs.add_part.Goals as goal

pub returns : goal.returns
returns c =
    let s = c.args in
    let e = c.rises-rising.ensures in
    let a = c.add_rising-risen.ensures in
    let n = c.if-rising-frames.false in
    let t = ap (λ u. u.ramp) c.tick.ensures ∙ ap (λ u. (tick_of u).ramp) a.0 in
    let m = part_ramp s.pool.now s.part s.ramp s.frames s.out.now _ (omega (arith, e, n)) (omega (arith, e, n)) _ t in
    (m, rw (c.add_still.ensures, a.1) (part_done s.pool.now s.part s.ramp s.frames s.out.now _ (omega (arith, e, n)) (omega (arith, e, n)) _ t))

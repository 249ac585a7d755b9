-- `add_block` meets its contract.
use mathlib.Core.Path.{ap, ◌∙◌}
use Prim.Native.Nat.{◌+◌, ◌*◌, ◌^◌, ◌≤◌, ◌<◌}
use native.Mathlib.Omega.{arith}
use Rattle.dryrun.specs.Blocks.{sum_to}
use Rattle.dryrun.proofs.Blocks.{sum_within, sum_past, block_none, block_within, block_past}
use Rattle.dryrun.proofs.add_block.Goals as goal

pub returns-then-times-eq0 : goal.returns-then-times-eq0
returns-then-times-eq0 c = let a = c.args in sum_within a.sum c.requires ∙ ap sum_to (block_none a.sum a.times a.frames c.if-times-eq0.true)

pub returns-then-most-frames : goal.returns-then-most-frames
returns-then-most-frames c =
    let a = c.args in
    let some : 0 < a.times = omega arith in
    sum_past (a.sum + a.times * a.frames) (block_past a.sum a.times a.frames c.requires some c.if-most-frames.true)

fits : (c : goal.Else-most-frames) → c.args.sum + c.args.times * c.args.frames ≤ 2 ^ 62
fits c =
    let a = c.args in
    let some : 0 < a.times = omega arith in
    block_within a.sum a.times a.frames c.requires some c.if-most-frames.false

pub overflow_mul-result : goal.overflow_mul-result
overflow_mul-result c = let h = fits c in omega arith

pub overflow_add-result : goal.overflow_add-result
overflow_add-result c = let h = fits c in omega arith

pub returns : goal.returns
returns c = let a = c.args in sum_within (a.sum + a.times * a.frames) (fits c)

-- `frames_in` meets its contract.
use mathlib.Core.Path.{◌≡◌, ap, ◌∙◌}
use Prim.Native.Nat.{◌*◌}
use native.Mathlib.Omega.{arith}
use Rattle.std.specs.Prelude.{Some}
use Rattle.dryrun.specs.Blocks.{frames_in, sum_to}
use Rattle.dryrun.proofs.Blocks.{sum_within, frames_none, pair_past, pair_within}
use borrow.Author.Rules.{rules}
use Rattle.dryrun.proofs.frames_in.Goals as goal

pub returns-in_err-sum : goal.returns-in_err-sum
returns-in_err-sum c =
    let l = c.loop-k in
    rw c.from_residual.ensures (pair_past _ l.k l.sum (omega arith) l.invariant.2 c.in_err-sum.ensures)

pub loop-k-preserved : goal.loop-k-preserved
loop-k-preserved c =
    let l = c.loop-k in
    let w = pair_within _ l.k l.sum (omega arith) l.invariant.2 _ c.in_ok-sum.ensures in
    (search rules, w.0, w.1)

pub returns : goal.returns
returns c =
    let l = c.loop-k in
    let ws = c.args.blocks.now in
    let none = frames_none ws (l.k * 2) (omega arith) in
    let all : l.sum ≡ frames_in ws = omega arith in
    sum_within l.sum l.invariant.1 ∙ ap sum_to all

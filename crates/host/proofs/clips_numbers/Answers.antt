-- `clips_numbers` meets its contract: every place passed holds its clip.
use mathlib.Core.Path.{◌≡◌, refl}
use native.Mathlib.Omega.{arith}
use lib.ListN.{length, length-set}
use Rattle.host.specs.Kept.{clip_numbers}
use Rattle.host.proofs.Mapped.{map_step, map_done}
use borrow.Author.Rules.{rules}
use Rattle.host.proofs.clips_numbers.Goals as goal

pub loop-i-init : goal.loop-i-init
loop-i-init c = (search rules, refl, refl)

pub loop-i-preserved : goal.loop-i-preserved
loop-i-preserved c =
    (search rules, simp length-set c.loop-i.invariant.1, rw c.from.ensures (map_step clip_numbers c.loop-i.clips c.args.b.clips c.loop-i.i _ (omega arith) (omega arith) c.loop-i.invariant.2))

pub returns : goal.returns
returns c =
    let l : length c.args.b.clips ≡ 32 = omega arith in
    map_done clip_numbers c.loop-i.clips c.args.b.clips c.loop-i.i (omega arith) (omega arith) c.loop-i.invariant.2

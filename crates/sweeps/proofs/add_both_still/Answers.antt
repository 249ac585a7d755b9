-- `sweeps::add_both_still` meets its contract. Assumes nothing.
use mathlib.Core.Path.{ap, ◌∙◌}
use native.Mathlib.Omega.{arith}
use Rattle.sweeps.specs.Adds.{under_of}
use Rattle.sweeps.proofs.Moving.{moving_start, moving_remaining}
use Rattle.sweeps.proofs.Both.{still_turn}
use Rattle.sweeps.proofs.add_both_still.Goals as goal

pub loop-j-init : goal.loop-j-init
loop-j-init c = moving_start _ _ _ _ _ c.requires.0

pub rise-next-requires : goal.rise-next-requires
rise-next-requires c = omega (arith, moving_remaining _ _ _ _ _ c.loop-j.invariant, c.loop-j.invariant.sweeping.low, c.loop-j-test.true, c.requires.4)

pub loop-j-preserved : goal.loop-j-preserved
loop-j-preserved c =
    let s = c.args in
    let y = c.under-y.ensures ∙ ap (under_of s.house s.gain) c.share.ensures in
    let v = c.under-v.ensures ∙ ap (under_of s.house s.gain) c.share-in-loop-j.ensures in
    still_turn s.house s.pool.now s.song s.tail _ _ _ _ _ c.loop-j.invariant c.loop-j-test.true _ _ _ _ c.share-x.ensures y c.share-z.ensures v _ c.rise-next.ensures

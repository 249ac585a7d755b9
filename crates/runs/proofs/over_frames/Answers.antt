-- `runs::over_frames` meets its contract. Assumes nothing.
use native.Mathlib.Omega.{arith}
use lib.ListN.{length-take, length-drop}
use Rattle.runs.proofs.Onward.{onward_start, onward_ready, onward_few, onward_turn}
use Rattle.runs.proofs.over_frames.Goals as goal

pub loop-done-init : goal.loop-done-init
loop-done-init c = onward_start _ _ _ _ _ _ _ c.requires.0 c.requires.1

pub go_on-gone-requires : goal.go_on-gone-requires
go_on-gone-requires c =
    let v = c.loop-done.invariant in
    (onward_ready _ _ _ _ _ _ _ v, omega (arith, c.loop-done-test.true), simp (length-take, length-drop) (omega (arith, v)))

pub overflow_add-passes : goal.overflow_add-passes
overflow_add-passes c =
    let g = c.go_on-gone.ensures in
    let v = c.loop-done.invariant in
    omega (arith, onward_few _ _ _ _ _ _ _ v _ (omega (arith, g.1, v)) _ g.4, c.well_formed)

pub loop-done-preserved : goal.loop-done-preserved
loop-done-preserved c =
    let g = c.go_on-gone.ensures in
    let v = c.loop-done.invariant in
    onward_turn _ _ _ _ _ _ _ v _ (omega (arith, g.1, v)) _ g.2 _ g.4 _ g.3

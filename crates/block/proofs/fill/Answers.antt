-- `block::fill` meets its contract. Assumes nothing.
use mathlib.Core.Path.{sym, ◌∙◌}
use native.Mathlib.Omega.{arith}
use Rattle.block.proofs.Steps.{due_some}
use Rattle.block.proofs.Going.{queue_stands, first_asked}
use Rattle.block.proofs.Filling.{fill_going, fill_slot, fill_clip, fill_exec, turn_few, turn_asked, fill_stretch, fill_last, fill_end}
use Rattle.block.proofs.fill.Goals as goal

pub is_due-requires : goal.is_due-requires
is_due-requires c = queue_stands _ _ _ _ _ (fill_going _ _ _ _ _ _ _ _ _ _ _ _ c.block.invariant)

pub bounds-bank-stage : goal.bounds-bank-stage
bounds-bank-stage c = fill_slot _ _ _ _ _ _ _ _ _ _ _ _ c.block.invariant

pub execute_first-stage-requires : goal.execute_first-stage-requires
execute_first-stage-requires c =
    first_asked _ _ _ _ _ (fill_going _ _ _ _ _ _ _ _ _ _ _ _ c.block.invariant) (due_some _ _ _ (sym c.is_due.ensures ∙ c.if-is_due.true))

pub block-preserved-else-done-frames : goal.block-preserved-else-done-frames
block-preserved-else-done-frames c =
    let v = c.block.invariant in
    rw c.execute_first-stage.ensures
    (fill_exec _ _ _ _ _ _ _ _ _ _ _ _ v _ (fill_clip _ _ _ _ _ _ _ _ _ _ _ _ v (omega arith) _) (omega (arith, v.most, c.if-done-frames.false))
    (sym c.is_due.ensures ∙ c.if-is_due.true))

pub lead-ahead-requires : goal.lead-ahead-requires
lead-ahead-requires c =
    (queue_stands _ _ _ _ _ (fill_going _ _ _ _ _ _ _ _ _ _ _ _ c.block.invariant), sym c.is_due.ensures ∙ c.if-is_due.false)

pub frames_on-further-requires : goal.frames_on-further-requires
frames_on-further-requires c =
    let v = c.block.invariant in
    turn_asked _ _ _ _ _ _ _ _ _ _ _ _ v _ c.lead-ahead.ensures (omega (arith, v.most, c.if-done-frames-2.false)) (sym c.is_due.ensures ∙ c.if-is_due.false)

pub overflow_add-passes : goal.overflow_add-passes
overflow_add-passes c =
    let f = c.frames_on-further.ensures in
    let v = c.block.invariant in
    let few = turn_few _ _ _ _ _ _ _ _ _ _ _ _ v _ (rw c.lead-ahead.ensures at f.1) _ f.4 in
    omega (arith, few, v.size, c.well_formed.1.1.1.1.1.1.0)

pub block-preserved : goal.block-preserved
block-preserved c =
    let f = c.frames_on-further in
    fill_stretch _ _ _ _ _ _ _ _ _ _ _ _ c.block.invariant _ (rw c.lead-ahead.ensures at c.frames_on-further.ensures.1) f.result.stage _ f.new.out (sym c.is_due.ensures ∙ c.if-is_due.false) f.ensures.2 f.ensures.3 f.auto.out f.ensures.4

pub returns-then-done-frames : goal.returns-then-done-frames
returns-then-done-frames c desk =
    let v = c.block.invariant in
    rw c.execute_first-stage.ensures
    (fill_last _ _ _ _ _ _ _ _ _ _ _ _ v (omega (arith, c.if-frames-eq0.false)) c.if-done-frames.true desk _ (fill_clip _ _ _ _ _ _ _ _ _ _ _ _ v (omega arith) _)
    (sym c.is_due.ensures ∙ c.if-is_due.true))

pub returns-then-done-frames-2 : goal.returns-then-done-frames-2
returns-then-done-frames-2 c desk =
    fill_end _ _ _ _ _ _ _ _ _ _ _ _ c.block.invariant (omega (arith, c.if-frames-eq0.false)) c.if-done-frames-2.true desk
    (sym c.is_due.ensures ∙ c.if-is_due.false)

-- `dry_block` meets its contract.
use mathlib.Core.Path.{sym, ◌∙◌}
use native.Mathlib.Omega.{arith}
use Rattle.leaps.proofs.Running.{run_start, run_exec, run_last, run_end, run_stretch, run_nothing}
use Rattle.leaps.proofs.dry_block.Goals as goal

pub returns-then-frames-eq0 : goal.returns-then-frames-eq0
returns-then-frames-eq0 c = run_nothing _ _ _ _ _ c.if-frames-eq0.true

pub block-init : goal.block-init
block-init c = run_start _ _ _ _ _ c.requires

pub block-preserved-else-done-frames : goal.block-preserved-else-done-frames
block-preserved-else-done-frames c =
    let v = c.block.invariant in
    rw (c.execute_first-run.ensures.0, c.execute_first-run.ensures.1)
    (run_exec _ _ _ _ _ _ _ _ v (sym c.is_due.ensures ∙ c.if-is_due.true) (omega (arith, v.most, c.if-done-frames.false)))

pub block-preserved : goal.block-preserved
block-preserved c =
    rw c.stretch-run.ensures (run_stretch _ _ _ _ _ _ _ _ c.block.invariant (sym c.is_due.ensures ∙ c.if-is_due.false) _ c.lead-ahead.ensures)

pub returns-then-done-frames : goal.returns-then-done-frames
returns-then-done-frames c =
    rw (c.execute_first-run.ensures.0, c.execute_first-run.ensures.1)
    (run_last _ _ _ _ _ _ _ _ c.block.invariant (sym c.is_due.ensures ∙ c.if-is_due.true) (omega (arith, c.if-frames-eq0.false)) c.if-done-frames.true)

pub returns-then-done-frames-2 : goal.returns-then-done-frames-2
returns-then-done-frames-2 c =
    run_end _ _ _ _ _ _ _ _ c.block.invariant (sym c.is_due.ensures ∙ c.if-is_due.false) (omega (arith, c.if-frames-eq0.false)) c.if-done-frames-2.true

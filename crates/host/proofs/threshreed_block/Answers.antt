-- `threshreed_block` meets its contract: its slots converted, then called over its parts.
use mathlib.Core.Path.{ap}
use native.Mathlib.Omega.{arith}
use Rattle.stage.specs.declared.Stage.{Stage}
use Rattle.session.specs.declared.Desk.{Desk}
use Rattle.host.proofs.Named.{named_is, named_not, session_is, kinds_not, rest_not}
use Rattle.host.proofs.Parts.{kinds_not_at, convert_start, convert_turn, convert_bank, convert_numbers, convert_kinds, block_unmatched, block_matched}
use borrow.Author.Rules.{rules}
use Rattle.host.proofs.threshreed_block.Goals as goal

pub loop-i-init : goal.loop-i-init
loop-i-init c = convert_start _ _ _ (search rules) (omega arith)

pub loop-i-preserved : goal.loop-i-preserved
loop-i-preserved c = rw c.from.ensures (convert_turn c.args.h (omega arith) _ _ _ c.loop-i.invariant _ _ c.loop-i-test.true c.in-Ok.ensures)

pub returns-in_default : goal.returns-in_default
returns-in_default c =
    rw c.block_refused.ensures (block_unmatched _ _ _ _ _ (kinds_not c.args.h (kinds_not_at c.args.h c.loop-i.i _ (omega arith) c.loop-i-test.true (named_not _ _ _ c.in_default.ensures))))

pub returns-in_default-stage_and_desk : goal.returns-in_default-stage_and_desk
returns-in_default-stage_and_desk c =
    let kinds = convert_kinds c.args.h (omega arith) _ _ _ c.loop-i.invariant c.loop-i-test.false in
    rw c.block_refused-in_default-stage_and_desk.ensures (block_unmatched _ _ _ _ _ (rest_not c.args.h kinds (named_not _ _ _ c.in_default-stage_and_desk.ensures)))

pub returns-in-Ok-answer : goal.returns-in-Ok-answer
returns-in-Ok-answer c =
    let v = c.loop-i.invariant in
    let end = c.loop-i-test.false in
    let fine = named_is _ _ _ c.in-Ok-stage_and_desk.ensures in
    rw (c.kept.ensures c.loop-i.bank.clips (convert_numbers c.args.h (omega arith) _ _ _ v end))
    (block_matched _ _ _ _ _ _ _ _ _ _ _ _ _ (session_is c.args.h (convert_kinds c.args.h (omega arith) _ _ _ v end) fine.0) (convert_bank c.args.h (omega arith) _ _ _ v end)
    (ap (λ (z : Stage × Desk). z.0) fine.1) (ap (λ (z : Stage × Desk). z.1) fine.1) c.in-Ok-answer.is c.make-made.ensures)

pub returns-in-Err : goal.returns-in-Err
returns-in-Err c =
    let v = c.loop-i.invariant in
    let end = c.loop-i-test.false in
    let fine = named_is _ _ _ c.in-Ok-stage_and_desk.ensures in
    rw (c.block_refused-in-Err.ensures, c.number.ensures)
    (block_matched _ _ _ _ _ _ _ _ _ _ _ _ _ (session_is c.args.h (convert_kinds c.args.h (omega arith) _ _ _ v end) fine.0) (convert_bank c.args.h (omega arith) _ _ _ v end)
    (ap (λ (z : Stage × Desk). z.0) fine.1) (ap (λ (z : Stage × Desk). z.1) fine.1) c.in-Err.is c.make-made.ensures)

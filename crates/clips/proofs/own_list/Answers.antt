-- `own_list` meets its contract.
use mathlib.Core.Path.{sym, ◌∙◌}
use native.Mathlib.Omega.{arith}
use lib.ListN.{length-set}
use Rattle.bank.proofs.Places.{copy_step, copy_done}
use Rattle.clips.specs.Own.{clips_of}
use Rattle.clips.proofs.Own.{word_at, own_length}
use borrow.Author.Rules.{rules}
use Rattle.clips.proofs.own_list.Goals as goal

pub loop-i-preserved : goal.loop-i-preserved
loop-i-preserved c =
    let l = c.loop-i in
    let b = c.args.b in
    let size = own_length b in
    (search rules, simp length-set l.invariant.1, rw (c.slot_word.ensures ∙ sym (word_at b l.i (omega arith))) (copy_step l.words (clips_of b) l.i 0 (omega arith) (omega arith) l.invariant.2))

pub returns : goal.returns
returns c =
    let l = c.loop-i in
    let b = c.args.b in
    let size = own_length b in
    copy_done l.words (clips_of b) l.i (omega arith) (omega arith) l.invariant.2

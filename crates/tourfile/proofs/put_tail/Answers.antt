-- `put_tail` meets its contract.
use mathlib.Core.Path.{◌≡◌, refl, ap, ◌∙◌}
use native.Mathlib.Omega.{arith}
use Prim.Native.Nat.{◌-◌, ◌/◌}
use lib.ListN.{length}
use Rattle.timeline.specs.declared.Row.{Row}
use Rattle.timeline.specs.Store.{row_at}
use Rattle.fields.specs.Field.{carried}
use Rattle.tourfile.specs.Writer.{rows_from, records_of, tail_bytes}
use Rattle.tourfile.proofs.Writes.{size_next, all_readable, tail_next}
use borrow.Author.Rules.{rules}
use Rattle.tourfile.proofs.put_tail.Goals as goal

pub loop-i-init : goal.loop-i-init
unfolding records_of
loop-i-init c =
    let a = c.args in
    let p = c.requires in
    let e : length a.records.now / 5 - 0 ≡ length a.records.now / 5 = omega arith in
    let r = p.room in
    (refl, rw e (omega arith), rw e refl)

pub put_command-requires : goal.put_command-requires
put_command-requires c =
    let a = c.args in
    let l = c.loop-i in
    let n = length a.records.now / 5 in
    let h = c.loop-i-test.true in
    let s = size_next a.records.now l.i n h in
    rw c.row_at-x.ensures (omega arith, all_readable a.clips.now a.records.now c.requires.fine l.i h)

pub overflow_add-at : goal.overflow_add-at
overflow_add-at c =
    let a = c.args in
    let l = c.loop-i in
    let n = length a.records.now / 5 in
    let h = c.loop-i-test.true in
    let s = size_next a.records.now l.i n h in
    let e : c.carried-more.result ≡ carried (row_at a.records.now l.i).kind = c.carried-more.ensures ∙ ap (λ (r : Row). carried r.kind) c.row_at-x.ensures in
    omega arith

pub overflow_add-at-in-loop-i : goal.overflow_add-at-in-loop-i
overflow_add-at-in-loop-i c =
    let a = c.args in
    let l = c.loop-i in
    let n = length a.records.now / 5 in
    let h = c.loop-i-test.true in
    let s = size_next a.records.now l.i n h in
    let e : c.carried-more.result ≡ carried (row_at a.records.now l.i).kind = c.carried-more.ensures ∙ ap (λ (r : Row). carried r.kind) c.row_at-x.ensures in
    omega arith

pub loop-i-preserved : goal.loop-i-preserved
loop-i-preserved c =
    let a = c.args in
    let l = c.loop-i in
    let n = length a.records.now / 5 in
    let h = c.loop-i-test.true in
    let s = size_next a.records.now l.i n h in
    let e : c.carried-more.result ≡ carried (row_at a.records.now l.i).kind = c.carried-more.ensures ∙ ap (λ (r : Row). carried r.kind) c.row_at-x.ensures in
    (search rules, omega arith, rw (c.put_command.ensures, e, c.row_at-x.ensures) (tail_next a.clips.now a.records.now l.out l.at l.i n h ∙ l.invariant.2))

pub returns : goal.returns
unfolding tail_bytes rows_from
returns c =
    let a = c.args in
    let l = c.loop-i in
    let z : length a.records.now / 5 - l.i ≡ 0 = omega arith in
    c.put_last.ensures ∙ (rw z at l.invariant.2)

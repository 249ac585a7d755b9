-- `weigh_records` meets its contract.
use mathlib.Core.Path.{◌≡◌, refl, sym, ◌∙◌}
use native.Mathlib.Omega.{arith}
use Prim.Native.Nat.{◌-◌, ◌/◌}
use lib.ListN.{length}
use Rattle.tourfile.specs.Writer.{records_weighed, rows_from, records_of}
use Rattle.tourfile.proofs.Writes.{lined_stop, lined_on}
use Rattle.tourfile.proofs.weigh_records.Goals as goal

pub loop-i-init : goal.loop-i-init
unfolding records_of
loop-i-init c = let e : length c.args.records.now / 5 - 0 ≡ length c.args.records.now / 5 = omega arith in
    rw e refl

pub returns-in-Err : goal.returns-in-Err
returns-in-Err c =
    let a = c.args in
    let l = c.loop-i in
    rw c.at.ensures (lined_stop a.clips.now a.records.now l.i (length a.records.now / 5) l.before c.loop-i-test.true _ (rw c.row_at-x.ensures at (sym c.judge_record.ensures ∙ c.in-Err.is)) ∙ l.invariant)

pub loop-i-preserved : goal.loop-i-preserved
loop-i-preserved c =
    let a = c.args in
    let l = c.loop-i in
    let e = c.row_at-x.ensures in
    let o = lined_on a.clips.now a.records.now l.i (length a.records.now / 5) l.before c.loop-i-test.true (rw e at (sym c.judge_record.ensures ∙ c.in_default.is)) in
    rw e (sym o ∙ l.invariant)

pub returns : goal.returns
unfolding records_weighed rows_from
returns c =
    let a = c.args in
    let l = c.loop-i in
    let z : length a.records.now / 5 - l.i ≡ 0 = omega arith in
    let e : length a.records.now / 5 ≡ l.i = omega arith in
    let q = rw z at l.invariant in
    rw e q

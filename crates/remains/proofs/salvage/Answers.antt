-- `salvage` meets its contract.
use mathlib.Core.Path.{ap, ◌∙◌}
use native.Mathlib.Omega.{arith}
use Rattle.remains.specs.declared.Tally.{Tally}
use Rattle.remains.proofs.Fresh.{left_many, left_short, left_less, left_done}
use Rattle.remains.proofs.salvage.Goals as goal

pub returns-then-kept-gt4096 : goal.returns-then-kept-gt4096
returns-then-kept-gt4096 c =
    let a = c.args in
    let e = c.measure-t.ensures in
    let k = ap (λ (t : Tally). t.kept) e in
    let r = left_many a.file.now a.out.now a.list.now (rw k at c.if-kept-gt4096.true) in
    record { value = r.0; out_after = r.1; list_after = r.2 }

pub returns-then-out-lt10 : goal.returns-then-out-lt10
returns-then-out-lt10 c =
    let a = c.args in
    let e = c.measure-t.ensures in
    let k = ap (λ (t : Tally). t.kept) e in
    let r = left_short a.file.now a.out.now a.list.now (rw k at c.if-kept-gt4096.false) (omega arith) in
    record { value = r.0; out_after = r.1; list_after = r.2 }

pub returns-then-out-body : goal.returns-then-out-body
returns-then-out-body c =
    let a = c.args in
    let e = c.measure-t.ensures in
    let k = ap (λ (t : Tally). t.kept) e in
    let y = ap (λ (t : Tally). t.bytes) e in
    let u = rw y at c.if-out-body.true in
    let r = left_short a.file.now a.out.now a.list.now (rw k at c.if-kept-gt4096.false) (omega arith) in
    record { value = r.0; out_after = r.1; list_after = r.2 }

pub returns-then-list-ranges : goal.returns-then-list-ranges
returns-then-list-ranges c =
    let a = c.args in
    let e = c.measure-t.ensures in
    let k = ap (λ (t : Tally). t.kept) e in
    let y = ap (λ (t : Tally). t.bytes) e in
    let n = ap (λ (t : Tally). t.ranges) e in
    let u = rw y at c.if-out-body.false in
    let r = left_less a.file.now a.out.now a.list.now (rw k at c.if-kept-gt4096.false) (omega arith) (rw n at c.if-list-ranges.true) in
    record { value = r.0; out_after = r.1; list_after = r.2 }

pub put_fresh-requires : goal.put_fresh-requires
put_fresh-requires c =
    let e = c.measure-t.ensures in
    let k = ap (λ (t : Tally). t.kept) e in
    let y = ap (λ (t : Tally). t.bytes) e in
    let u = rw y at c.if-out-body.false in
    (omega arith, k, c.if-kept-gt4096.false)

pub put_ranges-requires : goal.put_ranges-requires
put_ranges-requires c =
    let n = ap (λ (t : Tally). t.ranges) c.measure-t.ensures in
    let u = rw n at c.if-list-ranges.false in
    omega arith

pub returns : goal.returns
returns c =
    let a = c.args in
    let e = c.measure-t.ensures in
    let k = ap (λ (t : Tally). t.kept) e in
    let y = ap (λ (t : Tally). t.bytes) e in
    let n = ap (λ (t : Tally). t.ranges) e in
    let u = rw y at c.if-out-body.false in
    let few = rw k at c.if-kept-gt4096.false in
    let listed = rw n at c.if-list-ranges.false in
    let r = left_done a.file.now a.out.now a.list.now few (omega arith) listed in
    record { value = rw (k, y, n) r.0; out_after = c.put_fresh.ensures ∙ r.1; list_after = c.put_ranges.ensures ∙ r.2 }

-- `tour_size` meets its contract.
use mathlib.Core.Path.{◌≡◌, refl, ap, ◌∙◌}
use native.Mathlib.Omega.{arith}
use Prim.Native.Nat.{◌-◌}
use Rattle.timeline.specs.declared.Row.{Row}
use Rattle.timeline.specs.Store.{row_at}
use Rattle.fields.specs.Field.{carried}
use Rattle.tourfile.specs.Writer.{rows_from}
use Rattle.tourfile.specs.Steps.{size_of}
use Rattle.tourfile.proofs.Writes.{size_next}
use borrow.Author.Rules.{rules}
use Rattle.tourfile.proofs.tour_size.Goals as goal

pub loop-i-init : goal.loop-i-init
loop-i-init c = let e : c.args.n - 0 ≡ c.args.n = omega arith in
    (search rules, rw e refl)

pub loop-i-preserved : goal.loop-i-preserved
loop-i-preserved c =
    let a = c.args in
    let l = c.loop-i in
    let s = size_next a.records.now l.i a.n c.loop-i-test.true in
    let e : c.carried-more.result ≡ carried (row_at a.records.now l.i).kind = c.carried-more.ensures ∙ ap (λ (r : Row). carried r.kind) c.row_at-x.ensures in
    let g = l.invariant.1 in
    (omega arith, omega arith)

pub returns : goal.returns
unfolding size_of rows_from
returns c =
    let a = c.args in
    let l = c.loop-i in
    let z : a.n - l.i ≡ 0 = omega arith in
    let q = rw z at l.invariant.1 in
    omega arith

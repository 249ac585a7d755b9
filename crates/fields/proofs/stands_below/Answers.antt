-- `stands_below` meets its contract.
use mathlib.Core.Path.{◌≡◌, refl, sym}
use borrow.Author.Tests.{eq-eqb, ne_eqb}
use native.Mathlib.Omega.{arith}
use native.Mathlib.Numerals.{add-one}
use lib.ListN.{get_or}
use lib.Dec.{eqb}
use Rattle.counts.specs.Below.{any_below}
use Rattle.counts.proofs.Below.{any_true}
use Rattle.counts.proofs.Truth.{or_false}
use borrow.Author.Rules.{rules}
use Rattle.fields.proofs.stands_below.Goals as goal

pub loop-j-init : goal.loop-j-init
unfolding any_below
loop-j-init c = (search rules, refl)

pub returns-then-clips-j : goal.returns-then-clips-j
returns-then-clips-j c =
    let a = c.args in
    let l = c.loop-j in
    let e : get_or a.clips.now l.j 0 ≡ get_or a.clips.now a.i 0 = cc in
    sym (any_true (λ k. eqb (get_or a.clips.now k 0) (get_or a.clips.now a.i 0)) a.i l.j c.loop-j-test.true (eq-eqb _ _ e))

pub loop-j-preserved : goal.loop-j-preserved
unfolding any_below
loop-j-preserved c =
    let l = c.loop-j in
    (omega arith, rw (add-one l.j) (or_false l.invariant.1 (ne_eqb _ _ c.if-clips-j.false)))

pub returns : goal.returns
returns c =
    let l = c.loop-j in
    let e : l.j ≡ c.args.i = omega arith in
    sym (rw e at l.invariant.1)

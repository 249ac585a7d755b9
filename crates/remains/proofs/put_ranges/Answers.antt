-- `put_ranges` meets its contract.
use mathlib.Core.Path.{◌≡◌, refl, ◌∙◌}
use native.Mathlib.Omega.{arith}
use Rattle.tourfile.specs.Reader.{start}
use Rattle.remains.specs.Salvage.{range_words}
use Rattle.remains.proofs.Runs.{next_at, next_inside}
use Rattle.remains.proofs.Walk.{from_start, from_none, length_next, words_next}
use borrow.Author.Rules.{rules}
use Rattle.remains.proofs.put_ranges.Goals as goal

pub loop-p-init : goal.loop-p-init
loop-p-init c = let s = from_start c.args.file.now in let d : c.default-p.result ≡ start = search rules in rw d ((omega arith, omega arith), refl, rw s (let r = c.requires in omega arith), rw s refl)

pub what_at-w-requires : goal.what_at-w-requires
what_at-w-requires c = c.loop-p.invariant.0.1

pub next_place-q-requires : goal.next_place-q-requires
next_place-q-requires c = (c.loop-p.invariant.0.0, c.loop-p-test.true, c.what_at-w.ensures)

pub put_range-requires : goal.put_range-requires
put_range-requires c =
    let a = c.args in
    let l = c.loop-p in
    let h = c.loop-p-test.true in
    let e = c.next_place-q.ensures in
    let m = length_next a.file.now l.p h in
    let i = l.invariant.1 in
    let j = l.invariant.2 in
    omega arith

pub overflow_add-k : goal.overflow_add-k
overflow_add-k c =
    let a = c.args in
    let l = c.loop-p in
    let h = c.loop-p-test.true in
    let e = c.next_place-q.ensures in
    let m = length_next a.file.now l.p h in
    let j = l.invariant.2 in
    omega arith

pub loop-p-smaller : goal.loop-p-smaller
loop-p-smaller c =
    let a = c.args in
    let l = c.loop-p in
    let h = c.loop-p-test.true in
    let e = c.next_place-q.ensures in
    let n = next_at a.file.now l.p h in
    let x = n.0 in
    let y = n.1 in
    rw e (omega arith)

pub loop-p-preserved : goal.loop-p-preserved
loop-p-preserved c =
    let a = c.args in
    let l = c.loop-p in
    let h = c.loop-p-test.true in
    let e = c.next_place-q.ensures in
    let m = length_next a.file.now l.p h in
    let j = l.invariant.2 in
    let w = c.what_at-w.ensures in
    (rw e (next_inside a.file.now l.p h l.invariant.0), search rules, rw e (omega arith), rw (c.put_range.ensures, e, w) (words_next a.file.now l.p h l.list l.k ∙ l.invariant.3))

pub returns : goal.returns
unfolding range_words
returns c =
    let a = c.args in
    let l = c.loop-p in
    rw (from_none a.file.now l.p c.loop-p-test.false) at l.invariant.3

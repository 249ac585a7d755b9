-- `put_kept` meets its contract.
use mathlib.Core.Path.{◌≡◌, refl, sym, ◌∙◌}
use Prim.Native.Nat.{◌+◌}
use native.Mathlib.Omega.{arith}
use lib.ListN.{length}
use Rattle.tourfile.specs.Reader.{start}
use Rattle.remains.specs.Salvage.{ranges_of, kept_fields, laid}
use Rattle.remains.proofs.Runs.{next_at, next_inside}
use Rattle.remains.proofs.Walk.{from_start, from_none, fields_other, size_kept, put_next}
use borrow.Author.Rules.{rules}
use Rattle.remains.proofs.put_kept.Goals as goal

pub loop-p-init : goal.loop-p-init
loop-p-init c = let s = from_start c.args.file.now in let d : c.default-p.result ≡ start = search rules in rw d ((omega arith, omega arith), refl, rw s refl, rw s refl)

pub what_at-w-requires : goal.what_at-w-requires
what_at-w-requires c = c.loop-p.invariant.0.1

pub next_place-q-requires : goal.next_place-q-requires
next_place-q-requires c = (c.loop-p.invariant.0.0, c.loop-p-test.true, c.what_at-w.ensures)

pub overflow_sub-n : goal.overflow_sub-n
overflow_sub-n c =
    let a = c.args in
    let l = c.loop-p in
    let h = c.loop-p-test.true in
    let e = c.next_place-q.ensures in
    let n = (next_at a.file.now l.p h).0 in
    rw e (omega arith)

pub copy_part-requires : goal.copy_part-requires
copy_part-requires c =
    let a = c.args in
    let l = c.loop-p in
    let h = c.loop-p-test.true in
    let e = c.next_place-q.ensures in
    let n = next_at a.file.now l.p h in
    let x = n.0 in
    let y = n.1 in
    let w = sym c.what_at-w.ensures ∙ c.in-Kept.is in
    let z = size_kept a.file.now l.p h w in
    let r = c.requires in
    let i = l.invariant.1 in
    let j = l.invariant.2 in
    rw e (omega arith, omega arith)

pub overflow_add-o : goal.overflow_add-o
overflow_add-o c =
    let a = c.args in
    let l = c.loop-p in
    let h = c.loop-p-test.true in
    let e = c.next_place-q.ensures in
    let n = next_at a.file.now l.p h in
    let x = n.0 in
    let y = n.1 in
    let w = sym c.what_at-w.ensures ∙ c.in-Kept.is in
    let z = size_kept a.file.now l.p h w in
    let r = c.requires in
    let j = l.invariant.2 in
    rw e (omega arith)

pub loop-p-smaller : goal.loop-p-smaller
loop-p-smaller c =
    let a = c.args in
    let l = c.loop-p in
    let h = c.loop-p-test.true in
    let e = c.next_place-q.ensures in
    let n = next_at a.file.now l.p h in
    let x = n.0 in
    let y = n.1 in
    rw e (omega arith)

pub loop-p-smaller-in-Kept : goal.loop-p-smaller-in-Kept
loop-p-smaller-in-Kept c =
    let a = c.args in
    let l = c.loop-p in
    let h = c.loop-p-test.true in
    let e = c.next_place-q.ensures in
    let n = next_at a.file.now l.p h in
    let x = n.0 in
    let y = n.1 in
    rw e (omega arith)

pub loop-p-preserved-in-Kept : goal.loop-p-preserved-in-Kept
loop-p-preserved-in-Kept c =
    let a = c.args in
    let l = c.loop-p in
    let h = c.loop-p-test.true in
    let e = c.next_place-q.ensures in
    let n = next_at a.file.now l.p h in
    let x = n.0 in
    let y = n.1 in
    let w = sym c.what_at-w.ensures ∙ c.in-Kept.is in
    let z = size_kept a.file.now l.p h w in
    let j = l.invariant.2 in
    (rw e (next_inside a.file.now l.p h l.invariant.0), search rules, rw e (omega arith), rw (c.copy_part.ensures, e) (put_next a.file.now l.p h l.out l.o w ∙ l.invariant.3))

pub loop-p-preserved : goal.loop-p-preserved
loop-p-preserved c =
    let a = c.args in
    let l = c.loop-p in
    let h = c.loop-p-test.true in
    let e = c.next_place-q.ensures in
    let f = fields_other a.file.now l.p h (λ z. c.in_default.not-Kept (c.what_at-w.ensures ∙ z)) in
    rw e (next_inside a.file.now l.p h l.invariant.0, l.invariant.1, rw f at l.invariant.2, rw f at l.invariant.3)

pub returns : goal.returns
unfolding kept_fields laid
returns c =
    let a = c.args in
    let l = c.loop-p in
    let z = from_none a.file.now l.p c.loop-p-test.false in
    let j : l.o + 0 ≡ 5 + length (laid (kept_fields a.file.now (ranges_of a.file.now))) = rw z at l.invariant.2 in
    (rw z at l.invariant.3, omega arith)

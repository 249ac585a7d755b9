-- `measure` meets its contract.
use mathlib.Core.Path.{◌≡◌, refl, sym, ap, ◌∙◌}
use Prim.Native.Nat.{◌+◌}
use native.Mathlib.Nat.{add-zero}
use native.Mathlib.Omega.{arith}
use borrow.Author.Rules.{rules}
use lib.ListN.{length}
use Rattle.tourfile.specs.declared.Progress.{Progress}
use Rattle.tourfile.specs.Reader.{start}
use Rattle.remains.specs.Salvage.{what, ranges_of, kept_fields, laid}
use Rattle.remains.specs.Steps.{next}
use Rattle.remains.proofs.Runs.{next_at, next_kept, next_other, next_inside}
use Rattle.remains.specs.declared.Fate.{Fate}
use Rattle.remains.proofs.Walk.{from_start, from_none, length_next, fields_other, count_kept, size_kept}
use Rattle.remains.proofs.measure.Goals as goal
use Rattle.remains.proofs.measure.Goals.{in-Kept, in_default}

pub loop-p-init : goal.loop-p-init
loop-p-init c =
    let s = from_start c.args.file.now in let d : c.default-p.result ≡ start = search rules in rw d ((omega arith, omega arith), omega arith, omega arith, rw s (omega arith), rw s (omega arith), rw s (omega arith))

pub what_at-w-requires : goal.what_at-w-requires
what_at-w-requires c = c.loop-p.invariant.0.1

pub next_place-q-requires : goal.next_place-q-requires
next_place-q-requires c = (c.loop-p.invariant.0.0, c.loop-p-test.true, c.what_at-w.ensures)

pub overflow_sub-bytes : goal.overflow_sub-bytes
overflow_sub-bytes c =
    let a = c.args in
    let l = c.loop-p in
    let h = c.loop-p-test.true in
    let e = c.next_place-q.ensures in
    let n = (next_at a.file.now l.p h).0 in
    rw e (omega arith)

pub overflow_add-bytes : goal.overflow_add-bytes
overflow_add-bytes c =
    let a = c.args in
    let l = c.loop-p in
    let h = c.loop-p-test.true in
    let e = c.next_place-q.ensures in
    let n = next_at a.file.now l.p h in
    let x = n.0 in
    let y = n.1 in
    let b = l.invariant.1 in
    rw e (omega arith)

pub overflow_add-ranges : goal.overflow_add-ranges
overflow_add-ranges c =
    let a = c.args in
    let l = c.loop-p in
    let h = c.loop-p-test.true in
    let e = c.next_place-q.ensures in
    let b = l.invariant.2 in
    omega arith

pub loop-p-smaller : goal.loop-p-smaller
loop-p-smaller c =
    let a = c.args in
    let l = c.loop-p in
    let h = c.loop-p-test.true in
    let e = c.next_place-q.ensures in
    let n = next_at a.file.now l.p h in
    let x = n.0 in
    let y = n.1 in
    rw e (omega arith)

pub loop-p-preserved : goal.loop-p-preserved
loop-p-preserved c =
    let a = c.args in
    let l = c.loop-p in
    let h = c.loop-p-test.true in
    let e = c.next_place-q.ensures in
    let n = next_at a.file.now l.p h in
    let x = n.0 in
    let y = n.1 in
    let b = l.invariant.1 in
    let r = l.invariant.2 in
    let m = length_next a.file.now l.p h in
    let i = l.invariant.3 in
    let j = l.invariant.4 in
    let t = l.invariant.5 in
    let inside = next_inside a.file.now l.p h l.invariant.0 in
    elim c.match-w.branch [
      | in-Kept v ↦
          let w = sym c.what_at-w.ensures ∙ v.in-Kept.is in
          let k = count_kept a.file.now l.p h w in
          let z = size_kept a.file.now l.p h w in
          let q : (next a.file.now l.p).count ≡ l.p.count + 1 = ap (λ (q : Progress). q.count) (next_kept a.file.now l.p w) in
          let g = v.bytes-is in
          let u : c.next_place-q.result.at ≡ (next a.file.now l.p).at = ap (λ (q : Progress). q.at) e in
          rw e (inside, omega arith, omega arith, omega arith, omega arith, omega arith)
      | in_default v ↦
          let w : what a.file.now l.p ≡ Fate.Kept → ⊥ = (λ z. v.in_default.not-Kept (c.what_at-w.ensures ∙ z)) in
          let f = fields_other a.file.now l.p h w in
          let q = (next_other a.file.now l.p w).0 in
          let i = rw f at l.invariant.3 in
          let j = rw f at l.invariant.4 in
          let g = v.bytes-is in
          rw e (inside, omega arith, omega arith, omega arith, omega arith, omega arith)
    ]

pub returns : goal.returns
unfolding kept_fields laid
returns c =
    let a = c.args in
    let l = c.loop-p in
    let z = from_none a.file.now l.p c.loop-p-test.false in
    let i : l.p.count + 0 ≡ length (kept_fields a.file.now (ranges_of a.file.now)) = rw z at l.invariant.3 in
    let j : l.bytes + 0 ≡ length (laid (kept_fields a.file.now (ranges_of a.file.now))) = rw z at l.invariant.4 in
    let t : l.ranges + 0 ≡ length (ranges_of a.file.now) = rw z at l.invariant.5 in
    rw (← i, ← j, ← t, add-zero l.p.count, add-zero l.bytes, add-zero l.ranges) refl

-- `weigh` meets its contract.
use mathlib.Core.Path.{◌≡◌, sym, ◌∙◌}
use native.Mathlib.Omega.{arith}
use lib.ListN.{length, drop, length-drop}
use Rattle.tourfile.specs.Reader.{weighed}
use Rattle.fields.proofs.Fields.{fields_none}
use Rattle.tourfile.proofs.Turns.{stops, on_further, on_count, on_same}
use Rattle.tourfile.proofs.weigh.Goals as goal

pub returns-in-Break : goal.returns-in-Break
returns-in-Break c = let l = c.loop-p in
    stops _ _ _ c.loop-p-test.true _ (sym c.front_turn.ensures ∙ c.in-Break.is) ∙ l.invariant.2

pub loop-p-smaller : goal.loop-p-smaller
loop-p-smaller c =
    let a = c.args in
    let l = c.loop-p in
    let f = on_further a.clips.now a.file.now l.p c.loop-p-test.true c.in-Continue.q (sym c.front_turn.ensures ∙ c.in-Continue.is) in
    omega arith

pub loop-p-preserved : goal.loop-p-preserved
loop-p-preserved c =
    let a = c.args in
    let l = c.loop-p in
    let h = c.loop-p-test.true in
    let q = c.in-Continue.q in
    let e = sym c.front_turn.ensures ∙ c.in-Continue.is in
    let f = on_further a.clips.now a.file.now l.p h q e in
    (on_count a.clips.now a.file.now l.p h q e l.invariant.0, f.1, on_same a.clips.now a.file.now l.p h q e ∙ l.invariant.2)

pub returns : goal.returns
unfolding weighed
returns c =
    let l = c.loop-p in
    let z : length (drop l.p.at c.args.file.now) ≡ 0 = simp length-drop (omega arith) in
    rw c.at.ensures (rw (fields_none _ z) at l.invariant.2)

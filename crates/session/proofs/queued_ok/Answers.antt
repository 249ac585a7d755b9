-- `queued_ok` meets its contract: a record stops the walk, or is one more of those passed.
use mathlib.Core.Path.{◌≡◌, refl, sym, ap, ◌∙◌}
use Prim.Native.Nat.{◌+◌}
use native.Mathlib.Omega.{arith}
use lib.Dec.{leb}
use lib.ListN.{length}
use Rattle.counts.proofs.Truth.{and_false_l}
use Rattle.timeline.specs.Queue.{ordered_at, stingers}
use Rattle.session.proofs.Walk.{clip_read, clipless, passed_next, passed_all, order_stops, entry_stops, claim_stops, stingers_next, stingers_stay}
use Rattle.session.proofs.Checks.{passes}
use Rattle.session.proofs.queued_ok.Goals.{then-holds_clip+else-not-row_held, else-holds_clip}
use Rattle.session.proofs.queued_ok.Goals as goal

pub returns-then-not-ordered_at : goal.returns-then-not-ordered_at
returns-then-not-ordered_at c =
    let a = c.args in
    sym (and_false_l (leb (stingers a.store.now a.n) a.most) (order_stops a.b a.rate a.last (ordered_at a.store.now) a.store.now c.loop-j.j a.n c.loop-j-test.true (sym c.ordered_at.ensures ∙ c.if-not-ordered_at.true)))

pub returns-then-not-entry_ok : goal.returns-then-not-entry_ok
returns-then-not-entry_ok c =
    let a = c.args in
    sym (and_false_l (leb (stingers a.store.now a.n) a.most) (entry_stops a.b a.rate a.last (ordered_at a.store.now) a.store.now c.loop-j.j _ c.row_at-x.ensures a.n c.loop-j-test.true (sym c.entry_ok.ensures ∙ c.if-not-entry_ok.true)))

pub returns-then-not-row_held : goal.returns-then-not-row_held
returns-then-not-row_held c =
    let m : length c.args.b.clips ≡ 32 = omega arith in
    let a = c.args in
    sym (and_false_l (leb (stingers a.store.now a.n) a.most) (claim_stops a.b a.rate a.last (ordered_at a.store.now) a.store.now c.loop-j.j _ c.row_at-x.ensures a.n c.loop-j-test.true (sym (c.row_held.ensures c.args.b refl (clip_read c.args.b c.args.b refl m _ _ _ (rw c.handle_of.ensures at c.place_of-place.ensures))) ∙ c.if-not-row_held.true)))

pub loop-j-preserved : goal.loop-j-preserved
loop-j-preserved c =
    let a = c.args in
    let m : length a.b.clips ≡ 32 = omega arith in
    let next = passed_next a.b a.rate a.last (ordered_at a.store.now) a.store.now c.loop-j.j _ c.row_at-x.ensures c.loop-j.invariant.1 (passes c.ordered_at.ensures c.if-not-ordered_at.false) (passes c.entry_ok.ensures c.if-not-entry_ok.false) in
    elim c.if-holds_clip.branch [
      | then-holds_clip+else-not-row_held w ↦
          (omega (arith, c.loop-j-test.true), next (passes (w.row_held.ensures a.b refl (clip_read a.b a.b refl m _ _ _ (rw w.handle_of.ensures at w.place_of-place.ensures))) w.if-not-row_held.false), stingers_next a.store.now c.loop-j.j _ c.row_at-x.ensures _ _ c.loop-j.invariant.2 (w.stingers-is ∙ ap (λ n. c.loop-j.stingers + n) w.voices_of-stingers.ensures))
      | else-holds_clip w ↦
          let none = sym c.holds_clip.ensures ∙ w.if-holds_clip.false in
          (omega (arith, c.loop-j-test.true), next (clipless a.b a.rate _ none), w.stingers-is ∙ stingers_stay a.store.now c.loop-j.j _ c.row_at-x.ensures _ c.loop-j.invariant.2 none)
    ]

pub returns : goal.returns
returns c =
    let a = c.args in
    let all = passed_all a.b a.rate a.last (ordered_at a.store.now) a.store.now c.loop-j.j a.n c.loop-j.invariant.1 c.loop-j-test.false in
    let same : c.loop-j.j ≡ a.n = omega (arith, c.loop-j.invariant.0, c.loop-j-test.false) in
    rw (all, sym same, sym c.loop-j.invariant.2) refl

-- `captured_ok` meets its contract: a record stops the walk, or is one more of those passed.
use mathlib.Core.Path.{◌≡◌, refl, sym, ◌∙◌}
use native.Mathlib.Omega.{arith}
use lib.ListN.{length}
use Rattle.timeline.specs.Queue.{rising_at}
use Rattle.session.proofs.Walk.{clip_read, passed_all, order_stops, entry_stops, claim_stops}
use Rattle.session.proofs.captured_ok.Goals as goal

pub returns-then-not-rising_at : goal.returns-then-not-rising_at
returns-then-not-rising_at c =
    let a = c.args in
    sym (order_stops a.b a.rate a.last (rising_at a.store.now) a.store.now c.loop-i.i a.n c.loop-i-test.true (sym c.rising_at.ensures ∙ c.if-not-rising_at.true))

pub returns-then-not-entry_ok : goal.returns-then-not-entry_ok
returns-then-not-entry_ok c =
    let a = c.args in
    sym (entry_stops a.b a.rate a.last (rising_at a.store.now) a.store.now c.loop-i.i _ c.row_at-x.ensures a.n c.loop-i-test.true (sym c.entry_ok.ensures ∙ c.if-not-entry_ok.true))

pub returns-then-not-row_held : goal.returns-then-not-row_held
returns-then-not-row_held c =
    let m : length c.args.b.clips ≡ 32 = omega arith in
    let a = c.args in
    sym (claim_stops a.b a.rate a.last (rising_at a.store.now) a.store.now c.loop-i.i _ c.row_at-x.ensures a.n c.loop-i-test.true (sym (c.row_held.ensures c.args.b refl (clip_read c.args.b c.args.b refl m _ _ _ (rw c.handle_of.ensures at c.place_of-place.ensures))) ∙ c.if-not-row_held.true))

pub returns : goal.returns
returns c =
    let a = c.args in
    let all = passed_all a.b a.rate a.last (rising_at a.store.now) a.store.now c.loop-i.i a.n c.loop-i.invariant.1 c.loop-i-test.false in
    sym all

-- `ring::drain` meets its contract. Assumes nothing.
use mathlib.Core.Path.{sym, ap, ◌∙◌}
use Prim.Native.Nat.{ℕ, ◌/◌, min}
use native.Mathlib.Omega.{arith}
use lib.ListN.{length}
use Rattle.ring.specs.Ring.{Within}
use Rattle.ring.specs.Drain.{drain_of}
use Rattle.ring.proofs.Places.{within, held_lt}
use Rattle.ring.proofs.Taking.{whole_held, drain_gives}
use Rattle.ring.proofs.drain.Goals as goal

pub returns-then-not-is_within : goal.returns-then-not-is_within
unfolding drain_of
returns-then-not-is_within c = simp (sym c.is_within.ensures ∙ c.if-not-is_within.true)

pub place-requires : goal.place-requires
place-requires c =
    let a = c.args in
    let w : Within (length a.store.now) a.r = within _ _ (sym c.is_within.ensures ∙ c.if-not-is_within.false) in
    (w.head, omega (arith, (c.min-whole.ensures ∙ ap (λ (x : ℕ). min (length c.args.out.now / 2) (x / 2)) c.held.ensures), whole_held (length a.store.now) a.r (length a.out.now), held_lt _ _ w), w.most)

pub returns : goal.returns
returns c =
    drain_gives _ _ (within _ _ (sym c.is_within.ensures ∙ c.if-not-is_within.false)) _ _ (c.min-whole.ensures ∙ ap (λ (x : ℕ). min (length c.args.out.now / 2) (x / 2)) c.held.ensures) _ c.place.ensures _ c.pour.ensures

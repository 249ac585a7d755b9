-- `ring::pour` meets its contract. Assumes nothing.
use mathlib.Core.Path.{◌≡◌, refl, sym, ◌∙◌}
use Prim.Native.Nat.{◌-◌, ◌<◌}
use native.Mathlib.Omega.{arith}
use lib.ListN.{length, take, drop, length-take, length-drop}
use lib.Ieee.{of_bits}
use Rattle.ring.proofs.Places.{place_lt, place_straight}
use Rattle.ring.proofs.Poured.{sound_start, sound_turn, silence_end}
use Rattle.ring.proofs.pour.Goals as goal

pub loop-i-init : goal.loop-i-init
loop-i-init c =
    sound_start _ _ _ _ _ refl (sym (place_straight _ _ 0 (omega (arith, c.requires.0)) ∙ omega arith))

pub offset_bounds-store-at : goal.offset_bounds-store-at
offset_bounds-store-at c =
    let inside : c.loop-i.at < length c.args.store.now = rw c.loop-i.invariant.place (place_lt _ _ _ (omega (arith, c.requires.0))) in
    omega (arith, inside, c.well_formed)

pub bounds-store-at : goal.bounds-store-at
bounds-store-at c = rw c.loop-i.invariant.place (place_lt _ _ _ (omega (arith, c.requires.0)))

pub next-at-requires : goal.next-at-requires
next-at-requires c = rw c.loop-i.invariant.place (place_lt _ _ _ (omega (arith, c.requires.0)))

pub loop-i-preserved : goal.loop-i-preserved
loop-i-preserved c =
    sound_turn _ _ _ _ _ _ _ c.loop-i.invariant c.loop-i-test.true c.requires.1 (omega (arith, c.requires.0)) _ _ c.next-at.ensures

pub returns : goal.returns
unfolding of_bits
returns c =
    let o = c.loop-i.out in
    let t = c.args.taken in
    let e : length (take (length o - t) (drop t o)) ≡ length c.args.out.now - t = omega (arith, length-take (length o - t) (drop t o), length-drop t o, c.loop-i.invariant.size) in
    silence_end _ _ _ _ _ _ _ c.loop-i.invariant c.loop-i-test.false c.requires.1 _ (rw e at (c.fill.ensures.after (λ y e. e)))

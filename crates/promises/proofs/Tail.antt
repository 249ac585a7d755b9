-- In a session reached from opening the tail's weight is what so many ticks left of 1: opening has no tail, a Swap begins one, a frame ticks it, and nothing
-- else touches it. Assumes nothing.
use mathlib.Core.Path.{◌≡◌, refl, ap, ◌∙◌, subst}
use Prim.Native.Nat.{ℕ, zero, suc, ◌-◌, ◌<◌}
use native.Mathlib.Omega.{arith}
use Rattle.ramp.specs.declared.Ramp.{Ramp}
use Rattle.ramp.specs.Ramp.{tick_of}
use Rattle.ramp.specs.Tail.{tail_start, ticks}
use Rattle.ramp.proofs.Left.{weighs, weight}
use Rattle.bank.specs.Recording.{view_of}
use Rattle.stage.proofs.Keeps.{OfTail, frame_tail, exec_tail}
use Rattle.session.specs.Session.{extent_now}
use Rattle.promises.specs.Calls.{State, Reached}
use Rattle.promises.specs.Tail.{Weighs, TailWeighs}
use Rattle.promises.proofs.Stages.{reached_has}

-- ---- ticks

-- one tick more
ticks_on : (k : ℕ) (r : Ramp) → (tick_of (ticks k r)).ramp ≡ ticks (suc k) r
unfolding ticks
ticks_on zero r = refl
ticks_on (suc k) r = ticks_on k (tick_of r).ramp

-- what k ticks leave weighs so
after_ticks : (k : ℕ) (w : Ramp) → k < 1024 → w ≡ ticks k tail_start → Weighs w
after_ticks k w few now =
    let e = weight k (omega arith) in
    record { ticked = k; few = few; now = now; exactly = rw now e.0; range = rw now e.1 }

-- a tail begins so,
begins : Weighs tail_start
unfolding ticks
begins = after_ticks 0 tail_start (omega arith) refl

-- and goes on so with each tick after which it stays
goes_on : (w : Ramp) → ((tick_of w).ramp.remaining ≡ 0 → ⊥) → Weighs w → Weighs (tick_of w).ramp
goes_on w stays p =
    let k : ℕ = p.ticked in
    let few : k < 1024 = p.few in
    let now : (tick_of w).ramp ≡ ticks (suc k) tail_start = ap (λ (r : Ramp). (tick_of r).ramp) p.now ∙ ticks_on k tail_start in
    let left : (tick_of w).ramp.remaining ≡ 1024 - suc k = ap (λ (r : Ramp). r.remaining) now ∙ (weighs (suc k) (omega arith)).remaining in
    let more : suc k ≡ 1024 → ⊥ = λ (e : suc k ≡ 1024). stays (left ∙ ap (λ (n : ℕ). 1024 - n) e) in
    after_ticks (suc k) (tick_of w).ramp (below (suc k) (omega arith) more) now
  where
    below : (n : ℕ) → n < 1025 → (n ≡ 1024 → ⊥) → n < 1024
    below n l e = omega arith

-- ---- in every reached session

-- opening has no tail, a block's frames tick it and its Swaps begin it anew
reached_weighed : (x : State) → Reached x → OfTail (λ h w. Weighs w) x.session.stage.sound.fade.tail
reached_weighed =
    reached_has (λ x b s. OfTail (λ h w. Weighs w) s.sound.fade.tail)
    (record {
      opens = λ x b h. tt;
      frames = λ s q c pool w. frame_tail s.settings (view_of pool s.bank) s.stage (λ h w. Weighs w) (λ h w. goes_on w);
      execs = λ s q c d w. exec_tail s.settings (extent_now s) d s.stage (λ h w. Weighs w) begins;
      applies = λ s y p. p;
      banks = λ x y g d p. p;
    })

-- in a session reached from opening the tail's weight after k ticks is exactly (1024 - k)/1024 and never outside 0..1
pub tail_weighs : TailWeighs
tail_weighs x r h c w e = subst (OfTail (λ h w. Weighs w)) e (reached_weighed x r)

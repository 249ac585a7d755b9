-- A pump is a block of the frames made, or it is refused with 23 and leaves everything. Assumes nothing.
use mathlib.Core.Path.{◌≡◌, refl, sym, ap, subst}
use mathlib.Core.Bool.{true, false, not}
use mathlib.Core.List.{List, []}
use mathlib.Core.Logic.{◌⊎◌, inl, inr}
use Prim.Native.Nat.{ℕ, ◌*◌, ◌%◌, ◌≤◌}
use native.Mathlib.Omega.{arith}
use lib.ListN.{length, replicate, length-replicate}
use lib.Ieee.{Float}
use borrow.Author.Tests.{ne_eqb}
use Rattle.counts.proofs.Truth.{two_ways}
use Rattle.ramp.specs.Number.{zero32}
use Rattle.bank.specs.Sample.{frames_of, is_odd}
use Rattle.session.specs.declared.Refusal.{Refusal}
use Rattle.session.specs.Refusal.{number_of, first}
use Rattle.session.specs.WellFormed.{well_formed}
use Rattle.session.proofs.Refuse.{number_some, stop, skip}
use Rattle.session.specs.declared.Answered.{Answered}
use Rattle.session.specs.Answer.{says}
use Rattle.block.specs.Block.{reported, weigh_block, block_of}
use Rattle.block.proofs.Weigh.{block_refused}
use Rattle.ring.specs.Ring.{ring_ok, pushed}
use Rattle.pump.specs.declared.Pumped.{Pumped}
use Rattle.pump.specs.Pump.{says_pump, frames_made, pumped_passes, weigh_pump, block_into, pump_of}
use Rattle.pump.proofs.Weighing.{pump_refused_law}
use Rattle.promises.specs.Calls.{State, Feed, block, pump, code, refusal, after, with_session, pumping}
use Rattle.promises.specs.Feed.{Inside, AsBlock, PumpsBlock}
use Rattle.promises.proofs.Fine.{both}
use Rattle.std.specs.Prelude.{Err}

module _ (x : State) (f : Feed) (n : ℕ) where
  abbrev frames : ℕ
  frames = frames_made (length f.store) f.ring n

  module _ (out : List Float) (inside : Inside f) (long : length out ≡ frames * 2) where
    even : is_odd out ≡ false
    even = ne_eqb (length out % 2) 1 (λ (e : length out % 2 ≡ 1). omega arith)

    many : frames_of out ≡ frames
    many = omega arith

    -- it weighs what the block weighs,
    weighs_alike : weigh_pump x.session x.queue x.capture x.pool f.ring (length f.store) n ≡ weigh_block x.session x.queue x.capture x.pool out
    unfolding weigh_pump weigh_block first
    weighs_alike = rw (inside, even, many)

    -- so it does what the block does
    abbrev Alike : Pumped × List Float → Answered ℕ × List Float → Type 0
    Alike a b =
        (code (says_pump a.0.answer) ≡ code (says b.0.answer))
        × (a.0.session ≡ b.0.session)
        × (pumped_passes a.0.answer ≡ reported b.0.answer)
        × (code (says b.0.answer) ≡ 0 → a.1 ≡ pushed (length f.store) f.store f.ring.tail b.1)

    alike : Alike (pumping x f n) (block_of x.session x.queue x.capture x.pool out)
    unfolding pump_of block_of block_into
    alike =
        rw (weighs_alike, many)
        (both (weigh_block x.session x.queue x.capture x.pool out) _ _ _ _ Alike
        (λ k. (refl, refl, refl, λ (e : number_of k ≡ 0). absurd (let some : 1 ≤ number_of k = number_some k in omega arith)))
        (refl, refl, refl, λ (e : ◌≡◌ {A = ℕ} 0 0). refl))

    pub as_block : AsBlock x f n out
    as_block = record { number = alike.0; state = ap (with_session x) alike.1; passes = alike.2; samples = alike.3 }

  -- where the session is not well formed both are refused with 1,
  module _ (e : well_formed x.session x.queue x.capture ≡ false) where
    block_ill : weigh_block x.session x.queue x.capture x.pool [] ≡ Err Refusal.NotWellFormed
    unfolding weigh_block
    block_ill = sym (stop _ _ _ (ap not e))

    pump_ill : weigh_pump x.session x.queue x.capture x.pool f.ring (length f.store) n ≡ Err Refusal.NotWellFormed
    unfolding weigh_pump
    pump_ill = sym (stop _ _ _ (ap not e))

  -- and where it is, a ring that is not within its store is refused with 23
  pump_bad : well_formed x.session x.queue x.capture ≡ true → ring_ok (length f.store) f.ring ≡ false
      → weigh_pump x.session x.queue x.capture x.pool f.ring (length f.store) n ≡ Err Refusal.BadRing
  unfolding weigh_pump
  pump_bad e b = sym (skip _ _ _ _ (ap not e) (stop _ _ _ (ap not b)))

  -- so what holds of every block's step, and of a state that stays with 23, holds of a pump's
  module _ (P : ℕ → State → Type 0) (blocks : (out : List Float) → P (refusal (block out) x) (after (block out) x)) (bad : P 23 x) where
    abbrev Pumps : Pumped × List Float → Type 0
    Pumps a = P (code (says_pump a.0.answer)) (with_session x a.0.session)

    abbrev Blocks : Answered ℕ × List Float → Type 0
    Blocks b = P (code (says b.0.answer)) (with_session x b.0.session)

    either : (ring_ok (length f.store) f.ring ≡ true) ⊎ (ring_ok (length f.store) f.ring ≡ false)
        → (well_formed x.session x.queue x.capture ≡ true) ⊎ (well_formed x.session x.queue x.capture ≡ false) → P (refusal (pump f n) x) (after (pump f n) x)
    either (inl inside) w =
        let out : List Float = replicate (frames * 2) zero32 in
        let a = as_block out inside (length-replicate (frames * 2) zero32) in
        rw (a.number, a.state) (blocks out)
    either (inr b) (inl w) = subst Pumps (sym (pump_refused_law x.session x.queue x.capture x.pool f.ring f.store n Refusal.BadRing (pump_bad w b))) bad
    either (inr b) (inr w) =
        subst Pumps (sym (pump_refused_law x.session x.queue x.capture x.pool f.ring f.store n Refusal.NotWellFormed (pump_ill w)))
        (subst Blocks (block_refused x.session x.queue x.capture x.pool [] Refusal.NotWellFormed (block_ill w)) (blocks []))

    pub pump_step : P (refusal (pump f n) x) (after (pump f n) x)
    pump_step = either (two_ways (ring_ok (length f.store) f.ring)) (two_ways (well_formed x.session x.queue x.capture))

pub pumps_block : PumpsBlock
pumps_block x f n out inside long = as_block x f n out inside long

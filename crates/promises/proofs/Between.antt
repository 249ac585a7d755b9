-- A load or a retirement before a block and after it. Assumes nothing.
use mathlib.Core.Path.{◌≡◌, refl, sym, ap, subst, ◌∙◌}
use mathlib.Core.Logic.{◌⊎◌, inl, inr, ◌≢◌}
use mathlib.Core.Bool.{true, false}
use mathlib.Core.List.{List}
use Prim.Native.Nat.{ℕ}
use lib.Ieee.{Float}
use Rattle.counts.specs.declared.Handle.{Handle}
use Rattle.counts.proofs.Truth.{two_ways, never}
use Rattle.bank.specs.declared.Kind.{Kind}
use Rattle.bank.specs.declared.Bank.{Bank}
use Rattle.bank.specs.Sample.{frames_of}
use Rattle.bank.specs.Slots.{live, retired_from}
use Rattle.bank.specs.Recording.{Recording, view_of}
use Rattle.session.specs.declared.Answered.{Answered}
use Rattle.session.specs.Session.{with_bank}
use Rattle.session.specs.Answer.{says, answered}
use Rattle.session.proofs.Refuse.{unless_both}
use Rattle.block.specs.Block.{weigh_block, ran_of, block_of}
use Rattle.clips.specs.Load.{weigh_load, handle_for, load_of}
use Rattle.clips.specs.Retire.{held_now, retire_of}
use Rattle.clips.proofs.Held.{live_small, held_has, holder_live}
use Rattle.clips.proofs.Loaded.{load_sounds, load_live}
use Rattle.clips.proofs.Retired.{retire_done, accepted}
use Rattle.promises.specs.Calls.{State, Call, load, retire, block, state, with_session, code, refusal, after, out_of, Given}
use Rattle.promises.specs.Kept.{Good}
use Rattle.promises.specs.Retire.{Live, Stale}
use Rattle.promises.specs.Between.{block_says, LoadBetween, RetireBetween, RetireParts, LoadsPart}
use Rattle.promises.proofs.Fine.{zero_fine, both, retire_weighs}
use Rattle.promises.proofs.Kept.{types, settings_stay, keeps}
use Rattle.promises.proofs.Banked.{changes, view_stays}
use Rattle.promises.proofs.Refused.{lent_back}
use Rattle.promises.proofs.Retire.{loose_says}
use Rattle.promises.proofs.Stale.{stale_for_good}
use Rattle.std.specs.Prelude.{Ok}

-- ---- a block over another bank and another pool, in which every live clip sounds the same

-- a state over them
abbrev moved : State → Bank → List Float → State
moved x b pool = state (with_bank x.session b) x.queue x.capture pool

-- what a block gives, over another bank
abbrev over : Bank → Answered ℕ × List Float → Answered ℕ × List Float
over b o = (answered o.0.answer (with_bank o.0.session b), o.1)

module _ (x : State) (b : Bank) (pool out : List Float) (g : Good x) (h : Good (moved x b pool))
    (same : (k : Handle) → Live k x → view_of x.pool x.session.bank k ≡ view_of pool b k) where
  ran_over : ran_of (with_bank x.session b) x.queue pool (frames_of out) ≡ ran_of x.session x.queue x.pool (frames_of out)
  unfolding ran_of
  ran_over = stale_for_good.reading x (frames_of out) (view_of pool b) g same

  weighs_over : weigh_block (with_bank x.session b) x.queue x.capture pool out ≡ weigh_block x.session x.queue x.capture x.pool out
  unfolding weigh_block
  weighs_over = rw (g.formed, h.formed, g.pooled, h.pooled)

  block_over : block_of (with_bank x.session b) x.queue x.capture pool out ≡ over b (block_of x.session x.queue x.capture x.pool out)
  unfolding block_of
  block_over = rw (weighs_over, ran_over) (both (weigh_block x.session x.queue x.capture x.pool out) _ _ _ _ (λ o p. o ≡ over b p) (λ k. refl) refl)

-- ---- a call that changes bank and pool alone, and a block after it

-- what a block gives
abbrev made : List Float → State → Answered ℕ × List Float
made out x = block_of x.session x.queue x.capture x.pool out

-- it leaves the bank
bank_left : (out : List Float) (x : State) → (after (block out) x).session.bank ≡ x.session.bank
unfolding block_of
bank_left out x = unless_both {A = Answered ℕ × List Float} _ _ _ (λ o. o.0.session.bank ≡ x.session.bank) (λ k. refl) (λ fine. refl)

module _ (out : List Float) (x : State) (g : Good x) (k : Call) (given : Given k) (alone : after k x ≡ moved x (after k x).session.bank (after k x).pool) where
  -- the block gives what it gives without the call, over the bank that the call left,
  made_after : made out (after k x) ≡ over (after k x).session.bank (made out x)
  made_after =
      ap (made out) alone
      ∙ block_over x (after k x).session.bank (after k x).pool out g (subst Good alone (keeps k x given g)) (λ h l. sym (view_stays x (after k x) g.pooled h l (changes k x g)))

  -- so it says the same,
  played_after : block_says out (after k x) ≡ block_says out x
  played_after = ap (λ (o : Answered ℕ × List Float). says o.0.answer) made_after

  -- its samples are the same,
  samples_after : out_of (after k x) out ≡ out_of x out
  samples_after = ap (λ (o : Answered ℕ × List Float). o.1) made_after

  -- and it leaves the same, over the bank and the pool that the call left
  left_after : after (block out) (after k x) ≡ moved (after (block out) x) (after k x).session.bank (after k x).pool
  left_after =
      ap (λ (o : Answered ℕ × List Float). with_session (after k x) o.0.session) made_after
      ∙ ap (λ (y : State). with_session y (with_bank (after (block out) x).session (after k x).session.bank)) alone

-- ---- a load

load_alone : (samples : List Float) (kind : Kind) (rate : ℕ) (x : State)
    → after (load samples kind rate) x ≡ moved x (after (load samples kind rate) x).session.bank (after (load samples kind rate) x).pool
unfolding load_of
load_alone samples kind rate x =
    unless_both {A = Answered Handle × List Float} _ _ _
    (λ o. state o.0.session x.queue x.capture o.1 ≡ moved x o.0.session.bank o.1) (λ k. refl) (λ fine. refl)

module _ (samples : List Float) (kind : Kind) (rate : ℕ) (out : List Float) (x : State) (g : Good x) where
  abbrev come : State
  come = after (block out) x

  -- beside itself and 1 it weighs the pool's length, the settings and the bank, and these a block leaves
  weighs_alike : weigh_load come.session x.queue x.capture x.pool samples kind rate ≡ weigh_load x.session x.queue x.capture x.pool samples kind rate
  unfolding weigh_load
  weighs_alike = rw (g.formed, (keeps (block out) x tt g).formed, settings_stay (block out) x, bank_left out x)

  -- what it gives after the block, and before it
  abbrev Alike : Answered Handle × List Float → Answered Handle × List Float → Type 0
  Alike o p =
      (says o.0.answer ≡ says p.0.answer)
      × (state o.0.session x.queue x.capture o.1 ≡ moved come p.0.session.bank p.1)

  load_alike : Alike (load_of come.session x.queue x.capture x.pool samples kind rate) (load_of x.session x.queue x.capture x.pool samples kind rate)
  unfolding load_of
  load_alike =
      rw weighs_alike
      (both (weigh_load x.session x.queue x.capture x.pool samples kind rate) _ _ _ _ Alike
      (λ k. (refl, ap (λ (b : Bank). moved come b x.pool) (bank_left out x))) (rw (bank_left out x), rw (bank_left out x, settings_stay (block out) x)))

pub load_between : LoadBetween
load_between samples kind rate out x g =
    let alone = load_alone samples kind rate x in
    let alike = load_alike samples kind rate out x g in
    record {
      called = alike.0;
      played = played_after out x g (load samples kind rate) tt alone;
      samples = samples_after out x g (load samples kind rate) tt alone;
      left = left_after out x g (load samples kind rate) tt alone ∙ sym alike.1;
    }

-- ---- a retirement

retire_alone : (h : Handle) (x : State) → after (retire h) x ≡ moved x (after (retire h) x).session.bank x.pool
unfolding retire_of
retire_alone h x = unless_both {A = Answered (Unit {0})} _ _ _ (λ a. with_session x a.session ≡ moved x a.session.bank x.pool) (λ k. refl) (λ fine. refl)

module _ (h : Handle) (x : State) (accepts : refusal (retire h) x ≡ 0) where
  done : retire_of x.session x.queue x.capture h ≡ answered (Ok tt) (with_bank x.session (retired_from x.session.bank h))
  done = retire_done x.session x.queue x.capture h (retire_weighs h x accepts)

  was_live : Live h x
  was_live = (accepted x.session x.queue x.capture h (retire_weighs h x accepts)).alive

  goes_stale : Stale h (after (retire h) x)
  goes_stale = (stale_for_good.retired h x accepts).1

module _ (h : Handle) (out : List Float) (x : State) (g : Good x) (accepts : refusal (retire h) x ≡ 0) where
  abbrev came : State
  came = after (block out) x

  -- the block without the clip leaves a good state, in which nothing holds a stale handle: so nothing holds this one after the block
  loose : held_now came.session x.queue x.capture h ≡ false
  unfolding held_now
  loose = go (two_ways (held_now came.session x.queue x.capture h))
    where
      without : State
      without = moved came (after (retire h) x).session.bank x.pool

      good : Good without
      good = subst Good (left_after out x g (retire h) tt (retire_alone h x)) (keeps (block out) (after (retire h) x) tt (keeps (retire h) x tt g))

      go : (held_now came.session x.queue x.capture h ≡ true) ⊎ (held_now came.session x.queue x.capture h ≡ false)
          → held_now came.session x.queue x.capture h ≡ false
      go (inl e) =
          let small = live_small x.session x.queue x.capture g.formed (types x g) h (was_live h x accepts) in
          let held = held_has h without.session x.queue x.capture small e in
          absurd (never (sym (holder_live h without.session x.queue x.capture good.formed held) ∙ goes_stale h x accepts))
      go (inr e) = e

  accepts_after : refusal (retire h) came ≡ 0
  accepts_after = loose_says h came (keeps (block out) x tt g) (rw (bank_left out x) (was_live h x accepts)) loose

  retire_leaves : after (retire h) came ≡ moved came (after (retire h) x).session.bank x.pool
  retire_leaves = rw (done h came accepts_after, done h x accepts, bank_left out x)

pub retire_between : RetireBetween
retire_between h out x g accepts =
    let alone = retire_alone h x in
    record {
      called = rw (done h (after (block out) x) (accepts_after h out x g accepts), done h x accepts);
      played = played_after out x g (retire h) tt alone;
      samples = samples_after out x g (retire h) tt alone;
      left = left_after out x g (retire h) tt alone ∙ sym (retire_leaves h out x g accepts);
    }

-- ---- where the places differ

-- a refused retirement leaves everything
refused_stays : (h : Handle) (x : State) → refusal (retire h) x ≢ 0 → after (retire h) x ≡ x
unfolding retire_of
refused_stays h x = lent_back {A = Answered (Unit {0})} _ _ _ (λ a. code (says a.answer)) (λ a. with_session x a.session) x refl (λ k. refl)

-- so its clip is live after both, and stale if it is retired after the block
pub retire_parts : RetireParts
retire_parts h out x refused accepts e =
    let same : after (block out) x ≡ after (retire h) (after (block out) x) = ap (after (block out)) (sym (refused_stays h x refused)) ∙ e in
    never (sym (was_live h (after (block out) x) accepts) ∙ ap (λ (y : State). live y.session.bank h) same ∙ goes_stale h (after (block out) x) accepts)

-- the first of two loads has the next handle, and keeps it after the second
first_stands : (a b : List Float) (kind_a kind_b : Kind) (rate_a rate_b : ℕ) (x : State) → Good x → refusal (load a kind_a rate_a) x ≡ 0
    → let y : State = after (load b kind_b rate_b) (after (load a kind_a rate_a) x) in (view_of y.pool y.session.bank (handle_for x.session)).samples ≡ a
unfolding load_of
first_stands a b kind_a kind_b rate_a rate_b x g accepts =
    let y : State = after (load a kind_a rate_a) x in
    let good : Good y = keeps (load a kind_a rate_a) x tt g in
    let fine : weigh_load x.session x.queue x.capture x.pool a kind_a rate_a ≡ (Ok tt) =
    zero_fine {A = Answered Handle × List Float} _ _ _ (λ o. code (says o.0.answer)) (λ k. refl) accepts in
    let alive = load_live x.session x.queue x.capture x.pool a kind_a rate_a fine (types x g) in
    ap (λ (r : Recording). r.samples)
    (view_stays y (after (load b kind_b rate_b) y) good.pooled (handle_for x.session) alive (changes (load b kind_b rate_b) y good)
    ∙ load_sounds x.session x.queue x.capture x.pool a kind_a rate_a fine (types x g))

-- whichever it is
pub loads_part : LoadsPart
loads_part a b kind_a kind_b rate_a rate_b x g first second apart e =
    apart (sym (first_stands a b kind_a kind_b rate_a rate_b x g first)
    ∙ ap (λ (y : State). (view_of y.pool y.session.bank (handle_for x.session)).samples) e
    ∙ first_stands b a kind_b kind_a rate_b rate_a x g second)

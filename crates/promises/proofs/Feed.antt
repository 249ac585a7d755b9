-- A ring that is pumped and drained in any turns: order, silence, whole frames, and a pump in pieces. Assumes nothing.
use mathlib.Core.Path.{◌≡◌, refl, sym, ap, subst, ◌∙◌}
use mathlib.Core.Bool.{true, false}
use mathlib.Core.List.{List, [], ◌∷◌, ◌++◌, append_assoc, append-nil}
use mathlib.Core.Logic.{◌⊎◌, inl, inr}
use Prim.Native.Nat.{ℕ, ◌+◌, ◌-◌, ◌*◌, ◌%◌}
use native.Mathlib.Omega.{arith}
use lib.ListN.{length, take, replicate}
use lib.Seq.{take_at}
use lib.Ieee.{Float}
use Rattle.counts.proofs.Truth.{two_ways}
use Rattle.ramp.specs.Number.{zero32}
use Rattle.session.specs.declared.Refusal.{Refusal}
use Rattle.session.proofs.Refuse.{refused_or_done}
use Rattle.ring.specs.declared.Drained.{Drained}
use Rattle.ring.specs.Ring.{ring_ok, Within, held_of, from, waiting}
use Rattle.session.specs.Answer.{says}
use Rattle.ring.specs.Drain.{whole_of, drained as drained_of, drain_done, drain_of}
use Rattle.ring.proofs.Places.{within, ring_ok_law}
use Rattle.ring.proofs.Pushed.{from_length}
use Rattle.ring.proofs.Taking.{drain_block, drain_waits, drain_within, drain_even, drain_done_law}
use Rattle.pump.specs.declared.Pumped.{Pumped}
use Rattle.pump.specs.Pump.{says_pump, pumped_frames, pumped_passes, frames_made, block_into, pump_done, pump_of}
use Rattle.pump.proofs.Weighing as weighing
use Rattle.pump.proofs.Weighing.{Accepted, pump_done_law}
use Rattle.pump.proofs.Into.{into_length}
use Rattle.pump.proofs.Order.{pump_within, pump_waits, pump_held}
use Rattle.pump.proofs.Cut.{first_accepted, second_accepted, call_cut}
use Rattle.host.specs.Answers.{says_by, drained_by}
use Rattle.host.specs.Calls.{drain_host}
use Rattle.host.proofs.Under.{number_says}
use Rattle.promises.specs.Calls.{State, Feed, pump, code, refusal, after, with_session, pumping, feed_of}
use Rattle.promises.specs.Feed.{Inside, waits, makes, PumpCut, draining, drained_frames, drained_feed, takes, OnlySilence, Silence, DrainRefused, HostDrains, Turn, pumped, drained, fed, made_in, left_in, fed_by, all_made, all_left, InOrder, WholeFrames}
use Rattle.promises.proofs.Fine.{zero_fine}
use Rattle.std.specs.Prelude.{Result, Ok, Err}

-- ---- a drain

module _ (f : Feed) (out : List Float) (inside : Inside f) where
  held : Within (length f.store) f.ring
  held = within (length f.store) f.ring inside

  does : draining f out ≡ drain_done f.ring f.store (length out)
  does = drain_done_law f.ring f.store held out

  -- what it takes is what waited longest
  front : takes f out ≡ from f.store f.ring.head (whole_of (length f.store) f.ring (length out) * 2)
  front =
      let k : ℕ = whole_of (length f.store) f.ring (length out) in
      let x : List Float = from f.store f.ring.head (k * 2) in
      ap (λ (z : Drained × List Float). take (drained_frames z.0.answer * 2) z.1) does
      ∙ ap (take (k * 2)) (drain_block f.ring f.store held (length out))
      ∙ take_at x (replicate (length out - k * 2) zero32) (k * 2) (from_length f.store f.ring.head (k * 2))

  drain_silent : OnlySilence f out
  drain_silent =
      let k : ℕ = whole_of (length f.store) f.ring (length out) in
      let count : drained_frames (draining f out).0.answer ≡ k = ap (λ (z : Drained × List Float). drained_frames z.0.answer) does in
      record {
        accepted = ap (λ (z : Drained × List Float). code (says z.0.answer)) does;
        whole = ap length front ∙ from_length f.store f.ring.head (k * 2) ∙ ap (λ (j : ℕ). j * 2) (sym count);
        silence =
            ap (λ (z : Drained × List Float). z.1) does
            ∙ drain_block f.ring f.store held (length out)
            ∙ ap (λ (l : List Float). l ++ replicate (length out - k * 2) zero32) (sym front)
            ∙ ap (λ (j : ℕ). takes f out ++ replicate (length out - j * 2) zero32) (sym count);
      }

  drain_inside : Inside (drained_feed f out)
  drain_inside =
      subst (λ (z : Drained × List Float). ring_ok (length f.store) z.0.ring ≡ true) (sym does)
      (ring_ok_law (length f.store) _ (drain_within f.ring f.store held (length out)))

  drain_order : takes f out ++ waits (drained_feed f out) ≡ waits f
  drain_order =
      ap (λ (l : List Float). l ++ waits (drained_feed f out)) front
      ∙ ap (λ (z : Drained × List Float). from f.store f.ring.head (whole_of (length f.store) f.ring (length out) * 2) ++ waiting z.0.ring f.store) does
      ∙ sym (drain_waits f.ring f.store held (length out))

  drain_whole : held_of (length f.store) f.ring % 2 ≡ 0 → held_of (length f.store) (drained_feed f out).ring % 2 ≡ 0
  drain_whole e =
      subst (λ (z : Drained × List Float). held_of (length f.store) z.0.ring % 2 ≡ 0) (sym does) (drain_even f.ring f.store held (length out) e)

pub silence : Silence
silence f out inside = drain_silent f out inside

drain_left : (f : Feed) (out : List Float) → ring_ok (length f.store) f.ring ≡ false → draining f out ≡ (drained_of (Err Refusal.BadRing) f.ring, out)
unfolding drain_of
drain_left f out e = rw e

pub drain_refused : DrainRefused
drain_refused f out n = go (two_ways (ring_ok (length f.store) f.ring))
  where
    go : (ring_ok (length f.store) f.ring ≡ true) ⊎ (ring_ok (length f.store) f.ring ≡ false) → (drained_feed f out ≡ f) × ((draining f out).1 ≡ out)
    go (inl e) = absurd (n (drain_silent f out e).accepted)
    go (inr e) =
        (ap (λ (z : Drained × List Float). record { ring = z.0.ring; store = f.store }) (drain_left f out e), ap (λ (z : Drained × List Float). z.1) (drain_left f out e))

-- what a host reads of it is what it says
read_drained : (z : Drained) → (says_by (drained_by z).refusal (drained_by z).frames ≡ says z.answer) × ((drained_by z).ring ≡ z.ring)
read_drained z = go z.answer refl
  where
    go : (a : Result ℕ Refusal) → z.answer ≡ a → (says_by (drained_by z).refusal (drained_by z).frames ≡ says z.answer) × ((drained_by z).ring ≡ z.ring)
    go (Ok n) e = rw e (refl, refl)
    go (Err k) e = rw e (number_says k 0, refl)

pub host_drains : HostDrains
unfolding drain_host
host_drains f out = let r = read_drained (draining f out).0 in record { answer = r.0; ring = r.1; block = refl }

-- ---- a pump

module _ (x : State) (f : Feed) (n : ℕ) where
  -- one that says 0 is accepted
  pub pump_accepts : refusal (pump f n) x ≡ 0 → Accepted x.session x.queue x.capture x.pool f.ring (length f.store) n
  unfolding pump_of
  pump_accepts e =
      weighing.accepted x.session x.queue x.capture x.pool f.ring (length f.store) n (zero_fine {A = Pumped × List Float} _ _ _ (λ z. code (says_pump z.0.answer)) (λ k. refl) e)

  -- and one that is accepted says 0
  pump_says : Accepted x.session x.queue x.capture x.pool f.ring (length f.store) n → refusal (pump f n) x ≡ 0
  pump_says a = rw (pump_done_law x.session x.queue x.capture x.pool f.ring f.store n a)

  module _ (inside : Inside f) where
    within_store : Within (length f.store) f.ring
    within_store = within (length f.store) f.ring inside

    -- what a pump keeps, refused or not: the ring within its store, its order, and whole frames
    abbrev Keeps : Pumped × List Float → Type 0
    Keeps z =
        (ring_ok (length z.1) z.0.ring ≡ true)
        × (waiting z.0.ring z.1 ≡ waits f ++ makes x z.0.answer)
        × (held_of (length f.store) f.ring % 2 ≡ 0 → held_of (length z.1) z.0.ring % 2 ≡ 0)

    pump_keeps : Keeps (pumping x f n)
    unfolding pump_of block_into
    pump_keeps =
        let s = x.session in
        let made : ℕ = frames_made (length f.store) f.ring n in
        let size : length (pump_done s x.queue x.pool f.ring f.store made).1 ≡ length f.store = into_length s x.queue x.pool f.store f.ring.tail made in
        refused_or_done _ _ _ Keeps (λ k e. (inside, sym (append-nil (waits f)), λ h. h))
        (λ e. (
          ring_ok_law _ _ (pump_within s x.queue x.pool f.ring f.store n within_store),
          pump_waits s x.queue x.pool f.ring f.store n within_store,
          λ h. rw size (omega (arith, h, pump_held s x.queue x.pool f.ring f.store n within_store)),
        ))

-- ---- turns

abbrev pub Kept : Turn → Feed → Type 0
Kept t f =
    Inside (fed t f)
    × (left_in t f ++ waits (fed t f) ≡ waits f ++ made_in t f)
    × (held_of (length f.store) f.ring % 2 ≡ 0 → held_of (length (fed t f).store) (fed t f).ring % 2 ≡ 0)

pub turn_keeps : (t : Turn) (f : Feed) → Inside f → Kept t f
turn_keeps (pumped x n) f inside = pump_keeps x f n inside
turn_keeps (drained out) f inside = (drain_inside f out inside, drain_order f out inside ∙ sym (append-nil (waits f)), drain_whole f out inside)

pub in_order : InOrder
in_order [] f inside = (inside, sym (append-nil (waits f)))
in_order (t ∷ ts) f inside =
    let k = turn_keeps t f inside in
    let g : Feed = fed t f in
    let r = in_order ts g k.0 in (
      r.0,
      append_assoc (left_in t f) (all_left ts g) (waits (fed_by ts g))
          ∙ ap (λ (l : List Float). left_in t f ++ l) r.1
          ∙ sym (append_assoc (left_in t f) (waits g) (all_made ts g))
          ∙ ap (λ (l : List Float). l ++ all_made ts g) k.1
          ∙ append_assoc (waits f) (made_in t f) (all_made ts g),
    )

pub whole_frames : WholeFrames
whole_frames [] f inside e = e
whole_frames (t ∷ ts) f inside e = let k = turn_keeps t f inside in whole_frames ts (fed t f) k.0 (k.2 e)

-- ---- a pump in pieces

pub pump_cut : PumpCut
pump_cut x f a b g e =
    let s = x.session in
    let ok = pump_accepts x f (a + b) e in
    let cut = call_cut s x.queue x.capture x.pool f.ring f.store a b ok g.voices in
    record {
      first = pump_says x f a (first_accepted s x.queue x.capture x.pool f.ring f.store a b ok);
      second =
          pump_says (after (pump f a) x) (feed_of x f a) b
          (subst (λ (z : Pumped × List Float). Accepted z.0.session x.queue x.capture x.pool z.0.ring (length z.1) b)
          (sym (pump_done_law s x.queue x.capture x.pool f.ring f.store a (first_accepted s x.queue x.capture x.pool f.ring f.store a b ok)))
          (second_accepted s x.queue x.capture x.pool f.ring f.store a b ok g.voices));
      state = sym (ap (λ (z : Pumped × List Float). with_session x z.0.session) cut);
      feed = sym (ap (λ (z : Pumped × List Float). record { ring = z.0.ring; store = z.1 }) cut);
      frames = sym (ap (λ (z : Pumped × List Float). pumped_frames z.0.answer) cut);
      passes = sym (ap (λ (z : Pumped × List Float). pumped_passes z.0.answer) cut);
    }

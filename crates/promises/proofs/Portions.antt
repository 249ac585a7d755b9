-- One session pumped in portions, whatever is drained between, is one block. Assumes nothing.
use mathlib.Core.Path.{◌≡◌, refl, sym, ap, subst, ◌∙◌}
use mathlib.Core.List.{List, [], ◌∷◌, ◌++◌}
use mathlib.Core.Logic.{◌≢◌}
use Prim.Native.Nat.{ℕ, zero, suc, ◌+◌, ◌*◌, ◌%◌}
use native.Mathlib.Omega.{arith}
use lib.ListN.{length, take, drop, take-append-drop, length-append, length-take, length-drop}
use lib.Ieee.{Float}
use borrow.Author.Tests.{eqb-false, ne_eqb}
use Rattle.laws.specs.Block.{stand}
use Rattle.laws.proofs.Clock.{block_clock}
use Rattle.timeline.specs.Queue.{queue}
use Rattle.bank.specs.Sample.{frames_of}
use Rattle.bank.specs.Recording.{view_of}
use Rattle.stage.specs.Machine.{machine_of}
use Rattle.stage.proofs.Clock.{clocked}
use Rattle.session.specs.declared.Session.{Session}
use Rattle.session.proofs.Parts.{parts}
use Rattle.session.specs.declared.Answered.{Answered}
use Rattle.session.specs.Answer.{answered}
use Rattle.block.specs.Block.{ran_of, block_done, block_of, reported}
use Rattle.block.proofs.Weigh.{Accepted, block_done_law}
use Rattle.block.proofs.Cut.{block_cut}
use Rattle.pump.specs.declared.Pumped.{Pumped}
use Rattle.pump.specs.Pump.{says_pump, frames_made, pumped_frames, pumped_passes, pump_of}
use Rattle.pump.proofs.Weighing.{pump_done_law}
use Rattle.promises.specs.Calls.{State, Feed, block, pump, code, refusal, after, with_session, out_of, report_of, pumping, feed_of}
use Rattle.promises.specs.Kept.{Good}
use Rattle.promises.specs.Cut.{InPieces}
use Rattle.promises.specs.Feed.{Inside, makes, drained_feed, pumped, drained, all_made, Portion, asked, played, turns_of, portioned, all_frames, all_passes, AsOneBlock, OneBlock}
use Rattle.promises.proofs.Fine.{block_accepts, block_says_law}
use Rattle.promises.proofs.Refused.{lent_back}
use Rattle.promises.proofs.Kept.{keeps}
use Rattle.promises.proofs.Cut.{cut}
use Rattle.promises.proofs.Pumping.{as_block}
use Rattle.promises.proofs.Feed.{pump_accepts, turn_keeps}
use Rattle.std.specs.Prelude.{Ok}

-- a block of no frames is accepted
none_accepted : (x : State) → Good x → Accepted x.session x.queue x.capture x.pool []
none_accepted x g =
    record { formed = g.formed; lent = g.pooled; even = refl; clock = omega (arith, (parts x.session x.queue x.capture g.formed).clock) }

module _ (x : State) (o u : List Float) (g : Good x) (even : length o % 2 ≡ 0) (first : refusal (block o) x ≡ 0) (second : refusal (block u) (after (block o) x) ≡ 0) where
  a : Accepted x.session x.queue x.capture x.pool o
  a = block_accepts x o first

  b : Accepted (block_of x.session x.queue x.capture x.pool o).0.session x.queue x.capture x.pool u
  b = block_accepts (after (block o) x) u second

  -- where a block is accepted, and another one after it, both as one block are,
  both_accepted : Accepted x.session x.queue x.capture x.pool (o ++ u)
  unfolding ran_of
  both_accepted =
      let s : Session = x.session in
      let l = length-append o u in
      let clock = block_clock (machine_of s.settings (view_of x.pool s.bank)) (clocked s.settings (view_of x.pool s.bank)) (frames_of o) (stand s.stage (queue x.queue s.queued)) in
      let later : Accepted (block_done s (ran_of s x.queue x.pool (frames_of o))).0.session x.queue x.capture x.pool u =
      subst (λ (z : Answered ℕ × List Float). Accepted z.0.session x.queue x.capture x.pool u) (block_done_law s x.queue x.capture x.pool o a) b in
      let odd = eqb-false (length u % 2) 1 b.even in
      record {
        formed = a.formed;
        lent = a.lent;
        even = ne_eqb (length (o ++ u) % 2) 1 (λ (e : length (o ++ u) % 2 ≡ 1). omega arith);
        clock = omega (arith, later.clock, clock);
      }

  -- and is what both give
  both_cut : let y : Answered ℕ × List Float = block_of x.session x.queue x.capture x.pool o in
      let z : Answered ℕ × List Float = block_of y.0.session x.queue x.capture x.pool u in
      block_of x.session x.queue x.capture x.pool (o ++ u)
      ≡ (answered (Ok (reported y.0.answer + reported z.0.answer)) z.0.session, y.1 ++ z.1)
  both_cut = block_cut x.session x.queue x.capture x.pool o u g.voices both_accepted a.even

  both_samples : out_of x o ++ out_of (after (block o) x) u ≡ out_of x (o ++ u)
  both_samples = sym (ap (λ (z : Answered ℕ × List Float). z.1) both_cut)

  both_passes : report_of x o + report_of (after (block o) x) u ≡ report_of x (o ++ u)
  both_passes = sym (ap (λ (z : Answered ℕ × List Float). reported z.0.answer) both_cut)

  both_state : after (block u) (after (block o) x) ≡ after (block (o ++ u)) x
  both_state = sym (ap (λ (z : Answered ℕ × List Float). with_session x z.0.session) both_cut)

-- what an accepted pump makes are the samples of a block of its frames
pump_sounds : (x : State) (f : Feed) (n : ℕ) (o : List Float) → refusal (pump f n) x ≡ 0 → refusal (block o) x ≡ 0 → frames_of o ≡ frames_made (length f.store) f.ring n
    → makes x (pumping x f n).0.answer ≡ out_of x o
pump_sounds x f n o e b many =
    ap (λ (z : Pumped × List Float). makes x z.0.answer) (pump_done_law x.session x.queue x.capture x.pool f.ring f.store n (pump_accepts x f n e))
    ∙ ap (λ (k : ℕ). (block_done x.session (ran_of x.session x.queue x.pool k)).1) (sym many)
    ∙ sym (ap (λ (z : Answered ℕ × List Float). z.1) (block_done_law x.session x.queue x.capture x.pool o (block_accepts x o b)))

-- what a refused one leaves and makes
pump_leaves : (x : State) (f : Feed) (n : ℕ) → refusal (pump f n) x ≢ 0
    → ◌≡◌ {A = State × Feed × ℕ × ℕ × List Float} (after (pump f n) x, feed_of x f n, pumped_frames (pumping x f n).0.answer, pumped_passes (pumping x f n).0.answer, makes x (pumping x f n).0.answer) (x, f, 0, 0, [])
unfolding pump_of
pump_leaves x f n =
    lent_back {A = Pumped × List Float} {B = State × Feed × ℕ × ℕ × List Float} _ _ _ (λ z. code (says_pump z.0.answer))
    (λ z. (with_session x z.0.session, record { ring = z.0.ring; store = z.1 }, pumped_frames z.0.answer, pumped_passes z.0.answer, makes x z.0.answer)) (x, f, 0, 0, []) refl (λ k. refl)

-- no portions: no frames
none_asked : (x : State) (f : Feed) (out : List Float) → Good x → length out ≡ 0 * 2 → AsOneBlock [] x f out
none_asked x f [] g e =
    let none : refusal (block []) x ≡ 0 = block_says_law x [] (none_accepted x g) in
    let p : InPieces [] x = cut x [] g none tt in
    record { accepted = none; samples = p.samples; passes = p.passes; state = p.state }
none_asked x f (y ∷ out) g e = absurd (omega arith)

-- a portion more
module _ (ps : List Portion) (rest : (x : State) (f : Feed) (out : List Float) → Good x → Inside f → length out ≡ all_frames (turns_of ps x f) f * 2 → AsOneBlock ps x f out)
    (n : ℕ) (x : State) (f : Feed) (out : List Float) (g : Good x) (inside : Inside f) where
  -- where its pump is refused,
  abbrev Left : State × Feed × ℕ × ℕ × List Float → Type 0
  Left z =
      length out ≡ (z.2 + all_frames (turns_of ps z.0 z.1) z.1) * 2
      → (refusal (block out) x ≡ 0)
      × (z.4 ++ all_made (turns_of ps z.0 z.1) z.1 ≡ out_of x out)
      × (z.3 + all_passes (turns_of ps z.0 z.1) z.1 ≡ report_of x out)
      × (portioned ps z.0 z.1 ≡ after (block out) x)

  ask_refused : refusal (pump f n) x ≢ 0 → length out ≡ all_frames (turns_of (asked n ∷ ps) x f) f * 2 → AsOneBlock (asked n ∷ ps) x f out
  ask_refused e long =
      let same : Left (x, f, 0, 0, []) = λ l. let r = rest x f out g inside (omega (arith, l)) in (r.accepted, r.samples, omega (arith, r.passes), r.state) in
      let z = subst Left (sym (pump_leaves x f n e)) same long in
      record { accepted = z.0; samples = z.1; passes = z.2; state = z.3 }

  -- and where it is not
  ask_made : refusal (pump f n) x ≡ 0 → length out ≡ all_frames (turns_of (asked n ∷ ps) x f) f * 2 → AsOneBlock (asked n ∷ ps) x f out
  ask_made e long =
      let y : State = after (pump f n) x in
      let h : Feed = feed_of x f n in
      let k : ℕ = frames_made (length f.store) f.ring n in
      let made : pumped_frames (pumping x f n).0.answer ≡ k =
      ap (λ (z : Pumped × List Float). pumped_frames z.0.answer) (pump_done_law x.session x.queue x.capture x.pool f.ring f.store n (pump_accepts x f n e)) in
      let o : List Float = take (k * 2) out in
      let u : List Float = drop (k * 2) out in
      let lo : length o ≡ k * 2 = simp length-take (omega (arith, long, made)) in
      let lu : length u ≡ all_frames (turns_of ps y h) h * 2 = simp length-drop (omega (arith, long, made)) in
      let c = as_block x f n o inside lo in
      let r = rest y h u (keeps (pump f n) x tt g) (turn_keeps (pumped x n) f inside).0 lu in
      let even : length o % 2 ≡ 0 = omega (arith, lo) in
      let first : refusal (block o) x ≡ 0 = sym c.number ∙ e in
      let second : refusal (block u) (after (block o) x) ≡ 0 = subst (λ (z : State). refusal (block u) z ≡ 0) c.state r.accepted in
      subst (λ (l : List Float). AsOneBlock (asked n ∷ ps) x f l) (take-append-drop (k * 2) out)
      (record {
        accepted = block_says_law x (o ++ u) (both_accepted x o u g even first second);
        samples =
            ap (λ (l : List Float). l ++ all_made (turns_of ps y h) h) (pump_sounds x f n o e first (omega (arith, lo)))
            ∙ ap (λ (l : List Float). out_of x o ++ l) (r.samples ∙ ap (λ (z : State). out_of z u) c.state)
            ∙ both_samples x o u g even first second;
        passes =
            ap (λ (m : ℕ). m + all_passes (turns_of ps y h) h) c.passes
            ∙ ap (λ (m : ℕ). report_of x o + m) (r.passes ∙ ap (λ (z : State). report_of z u) c.state)
            ∙ both_passes x o u g even first second;
        state = r.state ∙ ap (λ (z : State). after (block u) z) c.state ∙ both_state x o u g even first second;
      })

  one_more : length out ≡ all_frames (turns_of (asked n ∷ ps) x f) f * 2 → AsOneBlock (asked n ∷ ps) x f out
  one_more = go (refusal (pump f n) x) refl
    where
      some : (m k : ℕ) → m ≡ suc k → m ≢ 0
      some m k e z = omega arith

      go : (m : ℕ) → refusal (pump f n) x ≡ m → length out ≡ all_frames (turns_of (asked n ∷ ps) x f) f * 2 → AsOneBlock (asked n ∷ ps) x f out
      go zero e = ask_made e
      go (suc m) e = ask_refused (some (refusal (pump f n) x) m e)

pub one_block : OneBlock
one_block [] x f out g inside long = none_asked x f out g long
one_block (played o ∷ ps) x f out g inside long =
    let r = one_block ps x (drained_feed f o) out g (turn_keeps (drained o) f inside).0 long in
    record { accepted = r.accepted; samples = r.samples; passes = r.passes; state = r.state }
one_block (asked n ∷ ps) x f out g inside long = one_more ps (one_block ps) n x f out g inside long

-- A block in pieces: what it gives is what its pieces give, one after the other, each on the session that the one before it left. Assumes nothing.
use mathlib.Core.Path.{◌≡◌, refl, sym, ap, ◌∙◌}
use mathlib.Core.Bool.{false}
use mathlib.Core.List.{List, [], ◌∷◌, ◌++◌}
use Prim.Native.Nat.{ℕ, ◌+◌, ◌%◌, ◌^◌, ◌≤◌}
use native.Mathlib.Omega.{arith}
use lib.ListN.{length, length-append}
use borrow.Author.Tests.{eqb-false, ne_eqb}
use lib.Ieee.{Float}
use Rattle.laws.specs.Block.{Machine, At, stand, after, block}
use Rattle.laws.specs.Queue.{Each}
use Rattle.laws.proofs.Cut.{cut, block_none}
use Rattle.laws.proofs.Clock.{block_clock}
use Rattle.laws.proofs.Samples.{samples_append}
use Rattle.timeline.specs.declared.QueueRecord.{QueueRecord}
use Rattle.timeline.specs.Queue.{queue}
use Rattle.timeline.proofs.Queue.{length_queue}
use Rattle.bank.specs.Sample.{frames_of, is_odd}
use Rattle.bank.specs.Recording.{view_of}
use Rattle.stage.specs.declared.Stage.{Stage}
use Rattle.stage.specs.Machine.{Told, FrameMade, machine_of}
use Rattle.stage.proofs.Clock.{clocked}
use Rattle.stage.proofs.Passes.{passes_append}
use Rattle.session.specs.declared.Session.{Session}
use Rattle.session.specs.Answer.{answered}
use Rattle.block.specs.Block.{ran_of, block_done, block_of, reported, blocks_of, joined}
use Rattle.block.proofs.Weigh.{Accepted, block_done_law}
use Rattle.block.proofs.Kept.{block_came, block_keeps}
use Rattle.block.proofs.Queue.{queue_ran}
use Rattle.std.specs.Prelude.{Ok}

module _ (s : Session) (q : List ℕ) (pool : List Float) where
  -- the session after n frames
  abbrev pub left_by : ℕ → Session
  left_by n = (block_done s (ran_of s q pool n)).0.session

  module _ (a b : ℕ) where
    -- a + b frames are a frames and then b frames on the session that they left,
    pub ran_cut : ran_of s q pool (a + b) ≡ after (ran_of s q pool a) (ran_of (left_by a) q pool b)
    unfolding ran_of
    ran_cut =
        let m : Machine Stage QueueRecord FrameMade Told = machine_of s.settings (view_of pool s.bank) in
        let x : At Stage QueueRecord = stand s.stage (queue q s.queued) in
        cut m a b x
        ∙ ap (λ (l : List QueueRecord). after (block m a x) (block m b (stand (block m a x).at.core l))) (sym (queue_ran s q pool a))

    -- and so are what they leave, their passes added up and their samples joined
    pub done_cut : block_done s (ran_of s q pool (a + b))
        ≡ (
          answered
              (Ok (reported (block_done s (ran_of s q pool a)).0.answer + reported (block_done (left_by a) (ran_of (left_by a) q pool b)).0.answer))
              (block_done (left_by a) (ran_of (left_by a) q pool b)).0.session,
          (block_done s (ran_of s q pool a)).1 ++ (block_done (left_by a) (ran_of (left_by a) q pool b)).1,
        )
    done_cut =
        let l : List FrameMade = (ran_of s q pool a).made in
        let k : List FrameMade = (ran_of (left_by a) q pool b).made in
        rw (ran_cut, samples_append _ _ l k, passes_append l k)

-- ---- at the call

-- frames add up where the first output is of whole frames,
pub frames_joined : (x y : List Float) → is_odd x ≡ false → frames_of (x ++ y) ≡ frames_of x + frames_of y
frames_joined x y e =
    let l = length-append x y in
    let odd = eqb-false (length x % 2) 1 e in
    omega arith

-- and whole frames, joined, are whole frames
pub joined_even : (outs : List (List Float)) → Each (λ out. is_odd out ≡ false) outs → is_odd (joined outs) ≡ false
joined_even [] e = refl
joined_even (x ∷ outs) e =
    let l = length-append x (joined outs) in
    let odd = eqb-false (length x % 2) 1 e.0 in
    let rest = eqb-false (length (joined outs) % 2) 1 (joined_even outs e.1) in
    ne_eqb (length (x ++ joined outs) % 2) 1 (λ h. omega arith)

rest_even : (x y : List Float) → is_odd x ≡ false → is_odd (x ++ y) ≡ false → is_odd y ≡ false
rest_even x y e f =
    let l = length-append x y in
    let odd = eqb-false (length x % 2) 1 e in
    let all = eqb-false (length (x ++ y) % 2) 1 f in
    ne_eqb (length y % 2) 1 (λ h. omega arith)

module _ (s : Session) (q c : List ℕ) (pool x y : List Float) (places : length s.stage.sound.voices.table ≡ 16) (a : Accepted s q c pool (x ++ y)) (e : is_odd x ≡ false) where
  room : s.stage.clock.0 + frames_of x ≤ 2 ^ 62
  room = omega (arith, a.clock, frames_joined x y e)

  -- of an accepted block the front, a whole number of frames, is accepted,
  pub front_accepted : Accepted s q c pool x
  front_accepted = record { formed = a.formed; lent = a.lent; even = e; clock = room }

  -- and then the rest
  pub rest_accepted : Accepted (block_of s q c pool x).0.session q c pool y
  unfolding ran_of
  rest_accepted =
      let m : Machine Stage QueueRecord FrameMade Told = machine_of s.settings (view_of pool s.bank) in
      let clock = block_clock m (clocked s.settings (view_of pool s.bank)) (frames_of x) (stand s.stage (queue q s.queued)) in
      rw (block_done_law s q c pool x front_accepted)
      (record {
        formed = block_keeps s q c pool a.formed places (frames_of x) room;
        lent = a.lent;
        even = rest_even x y e a.even;
        clock = omega (arith, a.clock, clock, frames_joined x y e);
      })

  -- the table keeps its places
  pub rest_places : length (block_of s q c pool x).0.session.stage.sound.voices.table ≡ 16
  rest_places = rw (block_done_law s q c pool x front_accepted) (block_came s q c pool a.formed places (frames_of x) room).stands.places

  -- THE CUT. An accepted block is a block of its front and then a block of the rest, on the session that the first left: same session, same samples,
  -- and the passes add up.
  pub block_cut : block_of s q c pool (x ++ y)
      ≡ (
        answered
            (Ok (reported (block_of s q c pool x).0.answer + reported (block_of (block_of s q c pool x).0.session q c pool y).0.answer))
            (block_of (block_of s q c pool x).0.session q c pool y).0.session,
        (block_of s q c pool x).1 ++ (block_of (block_of s q c pool x).0.session q c pool y).1,
      )
  block_cut =
      rw (block_done_law (block_of s q c pool x).0.session q c pool y rest_accepted, block_done_law s q c pool x front_accepted, block_done_law s q c pool (x ++ y) a, frames_joined x y e)
      (done_cut s q pool (frames_of x) (frames_of y))

-- a block in any pieces, each a whole number of frames
pub block_cuts : (s : Session) (q c : List ℕ) (pool : List Float) (outs : List (List Float)) → length s.stage.sound.voices.table ≡ 16
    → Accepted s q c pool (joined outs) → Each (λ out. is_odd out ≡ false) outs
    → ((block_of s q c pool (joined outs)).0.session, reported (block_of s q c pool (joined outs)).0.answer, (block_of s q c pool (joined outs)).1) ≡ blocks_of s q c pool outs
unfolding ran_of
block_cuts s q c pool [] places a e =
    rw (block_done_law s q c pool [] a, block_none (machine_of s.settings (view_of pool s.bank)) (stand s.stage (queue q s.queued)), length_queue q s.queued)
block_cuts s q c pool (x ∷ outs) places a e =
    let t : Session = (block_of s q c pool x).0.session in
    rw (
      block_cut s q c pool x (joined outs) places a e.0,
      ← block_cuts t q c pool outs (rest_places s q c pool x (joined outs) places a e.0) (rest_accepted s q c pool x (joined outs) places a e.0) e.1,
    )

-- Frames made into a ring's store: in pieces, straight, and over its end. Assumes nothing.
use mathlib.Core.Path.{◌≡◌, sym, ap, ◌∙◌}
use mathlib.Core.List.{List, [], ◌∷◌, ◌++◌}
use Prim.Native.Nat.{ℕ, ◌+◌, ◌-◌, ◌*◌, ◌^◌, ◌/◌, ◌≤◌, ◌<◌, min}
use native.Mathlib.Nat.{min-le_left}
use native.Mathlib.Omega.{arith}
use lib.ListN.{length, get_or, set, take, drop, length-take, length-drop, length-append}
use lib.Seq.{drop-drop}
use lib.Ieee.{Float}
use Rattle.laws.specs.Block.{Machine, At, stand, block}
use Rattle.laws.proofs.Clock.{block_length, block_clock}
use Rattle.laws.proofs.Samples.{samples_length}
use Rattle.laws.proofs.Stepwise.{block_stepwise}
use Rattle.timeline.specs.declared.QueueRecord.{QueueRecord}
use Rattle.timeline.specs.Queue.{queue}
use Rattle.bank.specs.Sample.{frames_of}
use Rattle.bank.specs.declared.Bank.{Bank}
use Rattle.bank.specs.Recording.{view_of}
use Rattle.stage.specs.declared.Settings.{Settings}
use Rattle.stage.specs.declared.Stage.{Stage}
use Rattle.stage.specs.Machine.{Told, FrameMade, machine_of, passes_of}
use Rattle.stage.proofs.Clock.{clocked}
use Rattle.stage.proofs.Passes.{frame_few, passes_append}
use Rattle.session.specs.declared.Desk.{Desk}
use Rattle.session.specs.declared.Session.{Session}
use Rattle.session.specs.declared.Answered.{Answered}
use Rattle.block.specs.declared.Made.{Made}
use Rattle.session.specs.Answer.{answered}
use Rattle.block.specs.Block.{of_parts, ran_of, block_done, reported}
use Rattle.block.proofs.Cut.{left_by, done_cut}
use Rattle.block.proofs.Kept.{block_came, block_keeps}
use Rattle.ring.specs.Ring.{place_at, pushed}
use Rattle.ring.proofs.Pushed.{pushed_length, pushed_append, pushed_place, pushed_straight, pushed_across}
use Rattle.pump.specs.Pump.{block_into}
use Rattle.pump.specs.Into.{Pumpable, MadeInto, made_after}
use Rattle.std.specs.Prelude.{Ok}

-- ---- a session

module _ (s : Session) (q : List ℕ) (pool : List Float) where
  abbrev machine : Machine Stage QueueRecord FrameMade Told
  machine = machine_of s.settings (view_of pool s.bank)

  -- the samples of a block of n frames
  abbrev pub sound_of : ℕ → List Float
  sound_of n = (block_done s (ran_of s q pool n)).1

  -- are two a frame,
  pub sound_length : (n : ℕ) → length (sound_of n) ≡ n * 2
  unfolding ran_of
  sound_length n =
      let x : At Stage QueueRecord = stand s.stage (queue q s.queued) in
      samples_length _ _ (block machine n x).made ∙ ap (λ (k : ℕ). k * 2) (block_length machine n x)

  -- and its passes at most two a frame
  pub passes_few : (n : ℕ) → passes_of (ran_of s q pool n).made ≤ n * 2
  unfolding ran_of
  passes_few n =
      let x : At Stage QueueRecord = stand s.stage (queue q s.queued) in
      omega (arith, few n x, block_length machine n x)
    where
      few : (n : ℕ) (x : At Stage QueueRecord) → passes_of (block machine n x).made ≤ length (block machine n x).made * 2
      few =
          block_stepwise machine (λ x r. passes_of r.made ≤ length r.made * 2)
          (record {
            commands =
                record {
                  stays = λ x. omega arith;
                  joins = λ x r t a b. omega (arith, passes_append r.made t.made, length-append r.made t.made);
                  executes = λ d x l e. omega arith;
                };
            frames = λ x l. omega (arith, frame_few s.settings (view_of pool s.bank) x);
          })

  module _ (store : List Float) (t : ℕ) where
    -- the store keeps its length
    pub into_length : (n : ℕ) → length (block_into s q pool store t n).1 ≡ length store
    unfolding block_into
    into_length n = pushed_length (length store) store t (sound_of n)

    -- IN PIECES: a + b frames into the store are a frames, and then b frames from there on, their passes added up
    pub into_cut : (a b : ℕ)
        → let y : Answered ℕ × List Float = block_into s q pool store t a in
        let z : Answered ℕ × List Float = block_into y.0.session q pool y.1 (t + a * 2) b in
        block_into s q pool store t (a + b) ≡ (answered (Ok (reported y.0.answer + reported z.0.answer)) z.0.session, z.1)
    unfolding block_into
    into_cut a b =
        let x : List Float = sound_of a in
        let k : Session = left_by s q pool a in
        let y : List Float = (block_done k (ran_of k q pool b)).1 in
        let all : Answered ℕ =
        answered (Ok (reported (block_done s (ran_of s q pool a)).0.answer + reported (block_done k (ran_of k q pool b)).0.answer)) (block_done k (ran_of k q pool b)).0.session in
        let n : ℕ = length store in
        let z : List Float = pushed n store t x in
        let e : pushed n store t (x ++ y) ≡ pushed (length z) z (t + a * 2) y =
        pushed_append n store t x y
        ∙ ap (λ (k : ℕ). pushed n z (t + k) y) (sound_length a)
        ∙ ap (λ (k : ℕ). pushed k z (t + a * 2) y) (sym (pushed_length n store t x)) in
        ap (λ (d : Answered ℕ × List Float). (d.0, pushed n store t d.1)) (done_cut s q pool a b)
        ∙ ap (λ (l : List Float). (all, l)) e

    -- a place counts as it lies in the store
    pub into_place : (k n : ℕ) → place_at (length store) t 0 ≡ place_at (length store) k 0 → block_into s q pool store t n ≡ block_into s q pool store k n
    unfolding block_into
    into_place k n e = rw (pushed_place (length store) store t k (sound_of n) e)

-- ---- its parts

module _ (x : Settings) (b : Bank) (t : Stage) (m : ℕ) (q : List ℕ) (pool : List Float) where
  abbrev at : Desk → Session
  at desk = of_parts x b t m desk

  module _ (store : List Float) (place : ℕ) where
    -- STRAIGHT: the part that a block was made into, put back, is the store with its samples pushed
    pub into_straight : (n : ℕ) → place + n * 2 ≤ length store → (made : Made) (out : List Float)
        → ((desk : Desk) → ◌≡◌ {A = Answered ℕ × List Float} (answered made.answer (of_parts x b made.stage made.queued desk), out)
        (block_done (at desk) (ran_of (at desk) q pool (frames_of (take (place + n * 2 - place) (drop place store))))))
        → MadeInto x b t m q pool store place n made (take place store ++ (out ++ drop (place + n * 2 - place) (drop place store)))
    unfolding block_into
    into_straight n h made out f desk =
        let s : Session = at desk in
        let k : place + n * 2 - place ≡ n * 2 = omega arith in
        let l : length (take (place + n * 2 - place) (drop place store)) ≡ n * 2 = simp (length-take, length-drop) (omega arith) in
        let e : frames_of (take (place + n * 2 - place) (drop place store)) ≡ n = omega arith in
        let st : pushed (length store) store place (sound_of s q pool n) ≡ take place store ++ (sound_of s q pool n ++ drop (place + n * 2 - place) (drop place store)) =
        pushed_straight store place (sound_of s q pool n) (omega (arith, sound_length s q pool n))
        ∙ ap (λ (j : ℕ). take place store ++ (sound_of s q pool n ++ drop (place + j) store)) (sound_length s q pool n)
        ∙ ap (λ (l : List Float). take place store ++ (sound_of s q pool n ++ l)) (sym (drop-drop (n * 2) place store) ∙ ap (λ (j : ℕ). drop j (drop place store)) (sym k)) in
        ap (λ (z : Answered ℕ × List Float). (z.0, take place store ++ (z.1 ++ drop (place + n * 2 - place) (drop place store)))) (f desk ∙ ap (λ (j : ℕ). block_done s (ran_of s q pool j)) e)
        ∙ ap (λ (l : List Float). ((block_done s (ran_of s q pool n)).0, l)) (sym st)

    -- OVER THE END: one frame, its right sample in the first place
    pub into_across : place + 1 ≡ length store → (made : Made) (pair : List Float) (d : Float)
        → ((desk : Desk) → ◌≡◌ {A = Answered ℕ × List Float} (answered made.answer (of_parts x b made.stage made.queued desk), pair) (block_done (at desk) (ran_of (at desk) q pool 1)))
        → MadeInto x b t m q pool store place 1 made (set (set store place (get_or pair 0 d)) 0 (get_or pair 1 d))
    unfolding block_into
    into_across e made pair d f desk =
        ap (λ (z : Answered ℕ × List Float). (z.0, set (set store place (get_or z.1 0 d)) 0 (get_or z.1 1 d))) (f desk)
        ∙ ap (λ (l : List Float). ((block_done (at desk) (ran_of (at desk) q pool 1)).0, l)) (two (sound_of (at desk) q pool 1) (sound_length (at desk) q pool 1))
      where
        two : (l : List Float) → length l ≡ 1 * 2 → set (set store place (get_or l 0 d)) 0 (get_or l 1 d) ≡ pushed (length store) store place l
        two [] h = absurd (omega arith)
        two (y ∷ []) h = absurd (omega arith)
        two (y ∷ (z ∷ (w ∷ l))) h = absurd (omega arith)
        two (y ∷ (z ∷ [])) h = sym (pushed_across store place e y z)

    -- a place counts as it lies in the store
    pub into_moved : (k n : ℕ) (made : Made) (st : List Float) → place_at (length store) place 0 ≡ place_at (length store) k 0
        → MadeInto x b t m q pool store place n made st → MadeInto x b t m q pool store k n made st
    into_moved k n made st e f desk = f desk ∙ into_place (at desk) q pool store place k n e

    -- what was made so far, and the store with it
    module _ (a : ℕ) (made : Made) (st : List Float) (e : MadeInto x b t m q pool store place a made st) where
      -- in a store of the same length,
      pub on_length : Desk → length st ≡ length store
      on_length desk = ap (λ (z : Answered ℕ × List Float). length z.1) (e desk) ∙ into_length (at desk) q pool store place a

      -- with few passes,
      pub on_few : Desk → reported made.answer ≤ a * 2
      unfolding block_into
      on_few desk = rw (ap (λ (z : Answered ℕ × List Float). reported z.0.answer) (e desk)) (passes_few (at desk) q pool a)

      -- the rest can be made,
      pub on_pumpable : (k n : ℕ) → a + k ≡ n → Pumpable x b t m q pool n → Pumpable x b made.stage made.queued q pool k
      unfolding block_into ran_of
      on_pumpable k n h p =
          let g = p.going in
          let s : Session = at g.desk in
          let left : of_parts x b made.stage made.queued g.desk ≡ left_by s q pool a = ap (λ (z : Answered ℕ × List Float). z.0.session) (e g.desk) in
          let room : t.clock.0 + a ≤ 2 ^ 62 = omega (arith, p.clock) in
          let clock = block_clock (machine s q pool) (clocked x (view_of pool b)) a (stand t (queue q m)) in
          let now : made.stage.clock.0 ≡ (left_by s q pool a).stage.clock.0 = ap (λ (z : Session). z.stage.clock.0) left in
          record {
            going =
                record {
                  desk = g.desk;
                  capture = g.capture;
                  formed = rw left (block_keeps s q g.capture pool g.formed g.places a room);
                  places = ap (λ (z : Session). length z.stage.sound.voices.table) left ∙ (block_came s q g.capture pool g.formed g.places a room).stands.places;
                  number = g.number;
                };
            lent = p.lent;
            clock = omega (arith, p.clock, clock, now);
          }

      -- and with it, from the place that was reached, it is all of them
      pub on_joined : (k n j : ℕ) (last : Made) (su : List Float) → a + k ≡ n → place_at (length store) j 0 ≡ place_at (length store) (place + a * 2) 0
          → MadeInto x b made.stage made.queued q pool st j k last su → MadeInto x b t m q pool store place n (made_after made.answer last) su
      on_joined k n j last su h pl f desk =
          let s : Session = at desk in
          let z : Answered ℕ × List Float = block_into s q pool store place a in
          let pl' : place_at (length z.1) j 0 ≡ place_at (length z.1) (place + a * 2) 0 = rw (into_length s q pool store place a) pl in
          let g : ◌≡◌ {A = Answered ℕ × List Float} (answered last.answer (of_parts x b last.stage last.queued desk), su) (block_into z.0.session q pool z.1 (place + a * 2) k) =
          f desk
          ∙ ap (λ (y : Answered ℕ × List Float). block_into y.0.session q pool y.1 j k) (e desk)
          ∙ into_place z.0.session q pool z.1 j (place + a * 2) k pl' in
          ap (λ (y : Answered ℕ × List Float). (answered (Ok (reported made.answer + reported y.0.answer)) y.0.session, y.1)) g
          ∙ ap (λ (y : Answered ℕ × List Float). (answered (Ok (reported y.0.answer + reported (block_into z.0.session q pool z.1 (place + a * 2) k).0.answer)) (block_into z.0.session q pool z.1 (place + a * 2) k).0.session, (block_into z.0.session q pool z.1 (place + a * 2) k).1)) (e desk)
          ∙ sym (into_cut s q pool store place a k)
          ∙ ap (block_into s q pool store place) h

-- where frames are left, as many as fit before the end were made: the end, or the last place, is reached
pub reached_end : (n t b f : ℕ) → t < n → b ≡ min f ((n - t) / 2) → (f - b ≡ 0 → ⊥) → (n ≤ t + b * 2 + 1) × (t + b * 2 ≤ n)
reached_end n t b f l e some =
    let m : b ≤ f = omega (arith, min-le_left f ((n - t) / 2)) in
    let h : b < f = lt_of_some b f m some in
    let k : b ≡ (n - t) / 2 = lesser_right b f ((n - t) / 2) e h in
    (omega arith, omega arith)
  where
    lt_of_some : (b f : ℕ) → b ≤ f → (f - b ≡ 0 → ⊥) → b < f
    lt_of_some b f m g = omega arith

    lesser_right : (b f k : ℕ) → b ≡ min f k → b < f → b ≡ k
    lesser_right b f k e h = omega arith

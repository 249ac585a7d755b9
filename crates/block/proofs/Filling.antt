-- The loop of a block: what it keeps, what each of its turns does with that, and what its ends show. Assumes nothing.
use mathlib.Core.Path.{◌≡◌, refl, ap, sym, subst, ◌∙◌}
use mathlib.Core.Bool.{true, false}
use mathlib.Core.List.{List, [], ◌∷◌, ◌++◌, append-nil, append_assoc}
use Prim.Native.Nat.{ℕ, suc, ◌+◌, ◌*◌, ◌-◌, ◌^◌, ◌≤◌, ◌<◌}
use native.Mathlib.Omega.{arith}
use lib.ListN.{length, get_or, take, drop, length-append, length-take, length-drop}
use lib.Seq.{take_at, take_all}
use lib.Ieee.{Float}
use Rattle.laws.specs.Block.{Machine, At, stand, ran, one, run, block}
use Rattle.laws.proofs.Cut.{block_none}
use Rattle.laws.proofs.Clock.{run_clock, run_length}
use Rattle.laws.proofs.Samples.{samples_append, samples_length}
use Rattle.laws.proofs.Partway.{Partway, partway_start, partway_exec, partway_stretch, partway_block}
use Rattle.timeline.specs.declared.QueueRecord.{QueueRecord}
use Rattle.timeline.specs.Record.{record_of}
use Rattle.timeline.specs.Store.{row_at}
use Rattle.timeline.specs.Queue.{queue}
use Rattle.timeline.proofs.Queue.{length_queue}
use Rattle.bank.specs.Sample.{frames_of, is_pool}
use Rattle.bank.specs.declared.Clip.{Clip}
use Rattle.bank.specs.declared.Bank.{Bank}
use Rattle.bank.specs.Slots.{blank, clip_of}
use Rattle.bank.specs.Recording.{view_of}
use Rattle.bank.proofs.Places.{get_d_any}
use Rattle.stage.specs.declared.Settings.{Settings}
use Rattle.stage.specs.declared.Stage.{Stage}
use Rattle.stage.specs.Machine.{Told, FrameMade, machine_of, output_of, passes_of}
use Rattle.stage.proofs.Clock.{clocked}
use Rattle.stage.proofs.Passes.{passes_append}
use Rattle.session.specs.declared.Desk.{Desk}
use Rattle.session.specs.declared.Session.{Session}
use Rattle.session.proofs.Ready.{frame_ready}
use Rattle.session.proofs.Kept.{song_fits}
use Rattle.runs.specs.Frames.{stretch_of, FramesReady}
use Rattle.runs.proofs.Runs.{stretch_few}
use Rattle.session.specs.Answer.{answered}
use Rattle.block.specs.Block.{of_parts, ran_of, block_done}
use Rattle.block.specs.Fill.{first_due, lead_of, first_done, Going, Fillable}
use Rattle.block.proofs.Kept.{Standing, run_stands, executed}
use Rattle.block.proofs.Steps.{due_some, due_at, queue_some, lead_most, lead_some, lead_clear, one_not, one_due}
use Rattle.std.specs.Prelude.{Ok}

-- a part that was lent comes back: what was written at its front stands behind what stood before it
pub part_take : {A : Type 0} (o r d e : List A) (a j : ℕ) → a ≤ length o → length r ≡ j → take (a + j) (take a o ++ ((r ++ d) ++ e)) ≡ take a o ++ r
part_take o r d e a j h l =
    rw (append_assoc r d e, ← append_assoc (take a o) r (d ++ e))
    (take_at (take a o ++ r) (d ++ e) (a + j) (simp (length-append, length-take) (omega arith)))

pub part_length : {A : Type 0} (o y : List A) (a : ℕ) → a ≤ length o → length y ≡ length o - a
    → length (take a o ++ (y ++ drop (length o - a) (drop a o))) ≡ length o
part_length o y a h e = simp (length-append, length-take, length-drop) (omega arith)

module _ (x : Settings) (b : Bank) (t : Stage) (m : ℕ) (q : List ℕ) (pool : List Float) where
  abbrev machine : Machine Stage QueueRecord FrameMade Told
  machine = machine_of x (view_of pool b)

  abbrev began : At Stage QueueRecord
  began = stand t (queue q m)

  -- the session at a stage with k commands queued
  abbrev at : Stage → ℕ → Desk → Session
  at y k desk = of_parts x b y k desk

  -- i of n frames of the block that began at t are made with p passes, and it has come to a stage y with k commands queued
  pub record Filling (n : ℕ) (o : List Float) (y : Stage) (k p i : ℕ) : Type 0 where
    pub desk : Desk
    pub capture : List ℕ
    pub stands : Standing (at t m desk) q capture k (stand y (queue q k))
    pub number : desk.number < 2 ^ 64
    pub lent : is_pool pool x.pool ≡ true
    pub most : i ≤ n
    pub size : length o ≡ n * 2
    pub clock : y.clock.0 + (n - i) ≤ 2 ^ 62
    pub made : List FrameMade
    pub told : List Told
    pub partway : Partway machine n began i y (queue q k) made told
    pub sound : output_of made ≡ take (i * 2) o
    pub passed : p ≡ passes_of made
    pub few : p ≤ i * 2

  -- at its start
  pub fill_start : (o : List Float) → Fillable x b t m q pool o → Filling (frames_of o) o t m 0 0
  fill_start o h =
      record {
        desk = h.going.desk;
        capture = h.going.capture;
        stands = record { queued = refl; formed = h.going.formed; places = h.going.places };
        number = h.going.number;
        lent = h.lent;
        most = omega arith;
        size = h.even;
        clock = omega (arith, h.clock);
        made = [];
        told = [];
        partway = partway_start machine (frames_of o) began;
        sound = refl;
        passed = refl;
        few = omega arith;
      }

  module _ (n : ℕ) (o : List Float) (y : Stage) (k p i : ℕ) (h : Filling n o y k p i) where
    -- the session so far is going
    pub fill_going : Going x b y k q
    fill_going = record { desk = h.desk; capture = h.capture; formed = h.stands.formed; places = h.stands.places; number = h.number }

    -- its song is in a slot
    pub fill_slot : y.playhead.song.slot < 32
    fill_slot = (frame_ready (at y k h.desk) q h.capture h.stands.formed pool h.lent).slot

    -- so what is read there is its clip
    pub fill_clip : length b.clips ≡ 32 → (d : Clip) → get_or b.clips y.playhead.song.slot d ≡ clip_of b y.playhead.song
    fill_clip e d = get_d_any b.clips y.playhead.song.slot d blank (omega (arith, fill_slot))

    -- a turn that executes a command, where a clip is the song that plays
    pub fill_exec : (clip : Clip) → clip ≡ clip_of b y.playhead.song → i < n → first_due q k y.clock.0 ≡ true → Filling n o (first_done x clip q k y) (k - 1) p i
    unfolding view_of
    fill_exec clip ec lt d =
        let pos : 0 < k = due_some q k y.clock.0 d in
        let e : k ≡ suc (k - 1) = omega arith in
        let r : QueueRecord = record_of (row_at q (k - 1)) in
        rw ec
        (record {
          desk = h.desk;
          capture = h.capture;
          stands =
              executed (at t m h.desk) q h.capture pool (k - 1) r y (queue q (k - 1))
              (subst (λ (j : ℕ). Standing (at t m h.desk) q h.capture j (stand y (queue q j))) e h.stands);
          number = h.number;
          lent = h.lent;
          most = h.most;
          size = h.size;
          clock = omega (arith, h.clock, (clocked x (view_of pool b)).stays r y);
          made = h.made;
          told = h.told ++ (machine.tells r y ∷ []);
          partway =
              partway_exec machine n began i y (queue q (k - 1)) h.made h.told r lt (sym (due_at q k y.clock.0 pos) ∙ d)
              (rw (queue_some q k y.clock.0 pos) at h.partway);
          sound = h.sound;
          passed = h.passed;
          few = h.few;
        })

    -- some frames can be made before the next command, into the later part of the output
    pub turn_asked : (l : ℕ) → l ≡ lead_of q k y.clock.0 (n - i) → i < n → first_due q k y.clock.0 ≡ false → FramesReady pool b l (length (take (length o - i * 2) (drop (i * 2) o))) y
    turn_asked l e lt d =
        let most = lead_most q k y.clock.0 (n - i) in
        record {
          ready = frame_ready (at y k h.desk) q h.capture h.stands.formed pool h.lent;
          fits = song_fits (at y k h.desk) q h.capture h.stands.formed;
          some = omega (arith, lead_some q k y.clock.0 (n - i) d (omega arith));
          room = simp (length-take, length-drop) (omega (arith, h.size, h.most, most));
          clock = omega (arith, h.clock, most);
        }

    module _ (j : ℕ) (few : j ≤ lead_of q k y.clock.0 (n - i)) where
      -- those that are made are no more than are left
      pub turn_most : i + j ≤ n
      turn_most = omega (arith, h.most, lead_most q k y.clock.0 (n - i))

      -- with at most two passes each the passes stay below the output's places
      pub turn_few : (v : ℕ) → v ≡ passes_of (stretch_of x (view_of pool b) j y).made → p + v ≤ length o
      turn_few v ev = rw ev (omega (arith, h.few, h.size, turn_most, stretch_few x (view_of pool b) j y))

      -- a turn that makes them
      pub fill_stretch : (r : Stage) (v : ℕ) (ys : List Float) → first_due q k y.clock.0 ≡ false
          → r ≡ (stretch_of x (view_of pool b) j y).at.core
          → ys ≡ output_of (stretch_of x (view_of pool b) j y).made ++ drop (j * 2) (take (length o - i * 2) (drop (i * 2) o))
          → length ys ≡ length (take (length o - i * 2) (drop (i * 2) o))
          → v ≡ passes_of (stretch_of x (view_of pool b) j y).made
          → Filling n (take (i * 2) o ++ (ys ++ drop (length o - i * 2) (drop (i * 2) o))) r k (p + v) (i + j)
      unfolding stretch_of
      fill_stretch r v ys d er ey ly ev =
          let two : (i + j) * 2 ≡ i * 2 + j * 2 = omega arith in
          let most = turn_most in
          let clock = run_clock machine (clocked x (view_of pool b)) j (stand y []) in
          rw (er, ev)
          (record {
            desk = h.desk;
            capture = h.capture;
            stands = run_stands (at t m h.desk) q h.capture pool k j y (queue q k) h.stands (omega (arith, h.clock));
            number = h.number;
            lent = h.lent;
            most = most;
            size = part_length o ys (i * 2) (omega (arith, h.size)) (ly ∙ simp (length-take, length-drop) (omega arith)) ∙ h.size;
            clock = omega (arith, h.clock, clock);
            made = h.made ++ (run machine j (stand y [])).made;
            told = h.told;
            partway = partway_stretch machine n began i y (queue q k) h.made h.told (clocked x (view_of pool b)) j most (lead_clear machine (λ d. refl) q k y.clock.0 (n - i) j d few) h.partway;
            sound =
                rw (samples_append _ _ h.made, h.sound, two, ey)
                (sym (part_take o _ _ _ (i * 2) (j * 2) (omega (arith, h.size))
                (samples_length _ _ (run machine j (stand y [])).made ∙ ap (λ (l : ℕ). l * 2) (run_length machine j (stand y [])))));
            passed = rw (passes_append h.made, h.passed) refl;
            few = omega (arith, h.few, stretch_few x (view_of pool b) j y);
          })

    -- what the block gives, whatever the desk
    module _ (pos : 0 < n) (e : i ≡ n) (desk : Desk) where
      ends_at : (c : Stage) (l : ℕ) (told : List Told) → one machine y (queue q k) ≡ ran (stand c (queue q l)) [] told
          → (answered (Ok p) (at c l desk), o) ≡ block_done (at t m desk) (ran_of (at t m desk) q pool n)
      unfolding ran_of
      ends_at c l told w =
          let r : block machine n began ≡ ran (stand c (queue q l)) h.made (h.told ++ told) =
          partway_block machine n began i y (queue q k) h.made h.told (omega arith) h.partway pos ∙ rw (w, append-nil h.made) in
          rw (r, length_queue q l, h.sound, h.passed, take_all (i * 2) o (omega (arith, h.size)))

      -- left after the single command at the block's end
      pub fill_last : (clip : Clip) → clip ≡ clip_of b y.playhead.song → first_due q k y.clock.0 ≡ true
          → (answered (Ok p) (at (first_done x clip q k y) (k - 1) desk), o) ≡ block_done (at t m desk) (ran_of (at t m desk) q pool n)
      unfolding view_of
      fill_last clip ec d =
          let r : QueueRecord = record_of (row_at q (k - 1)) in
          rw ec (ends_at (machine.exec r y) (k - 1) (machine.tells r y ∷ []) (one_due machine (λ d. refl) q k y d))

      -- left with nothing due at the block's end
      pub fill_end : first_due q k y.clock.0 ≡ false → (answered (Ok p) (at y k desk), o) ≡ block_done (at t m desk) (ran_of (at t m desk) q pool n)
      fill_end d = ends_at y k [] (one_not machine (λ d. refl) q k y d)

  -- a block of no frames
  pub fill_none : (o : List Float) → length o ≡ frames_of o * 2 → frames_of o ≡ 0 → (desk : Desk)
      → (answered (Ok 0) (at t m desk), o) ≡ block_done (at t m desk) (ran_of (at t m desk) q pool (frames_of o))
  unfolding ran_of
  fill_none [] e z desk = rw (block_none machine began, length_queue q m)
  fill_none (f ∷ o) e z desk = absurd (omega arith)

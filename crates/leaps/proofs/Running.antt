-- The dry run's loop: what it keeps, what each of its turns does with that, and what its ends show. Assumes nothing.
use mathlib.Core.Path.{◌≡◌, refl, sym, ap, subst, ◌∙◌}
use mathlib.Core.Bool.{true, false}
use mathlib.Core.List.{List, [], ◌∷◌, ◌++◌, append-nil}
use Prim.Native.Nat.{ℕ, zero, suc, ◌+◌, ◌-◌, ◌*◌, ◌≤◌, ◌<◌}
use native.Mathlib.Nat.{add-zero}
use native.Mathlib.Numerals.{add-one}
use native.Mathlib.Omega.{arith}
use lib.ListN.{length, length-append}
use Rattle.laws.specs.Block.{Machine, At, stand, ran, one, run}
use Rattle.laws.specs.Queue.{Clocked}
use Rattle.laws.proofs.Cut.{block_none}
use Rattle.laws.proofs.Stepwise.{run_keeps}
use Rattle.laws.proofs.Partway.{Partway, partway_start, partway_exec, partway_stretch, partway_block}
use Rattle.timeline.specs.declared.QueueRecord.{QueueRecord}
use Rattle.timeline.specs.Record.{row, row_of}
use Rattle.timeline.specs.Store.{put_row}
use Rattle.timeline.specs.Queue.{queue}
use Rattle.timeline.proofs.Rows.{length_put}
use Rattle.timeline.proofs.Queue.{length_queue}
use Rattle.transport.specs.Transport.{transport_fits}
use Rattle.transport.specs.Leap.{leap_of}
use Rattle.transport.proofs.Fits.{step_fits}
use Rattle.bank.specs.declared.Bank.{Bank}
use Rattle.stage.proofs.Keeps.{fits_by}
use Rattle.block.specs.Fill.{first_due, lead_of}
use Rattle.block.proofs.Steps.{due_some, due_at, queue_some, lead_most, lead_some, lead_clear, one_not, one_due}
use Rattle.leaps.specs.declared.Dry.{Dry}
use Rattle.leaps.specs.declared.Run.{Run}
use Rattle.leaps.specs.Laps.{Lapped}
use Rattle.leaps.specs.Dry.{Lengths, lengths_in, dry_next, dry_exec, dry_machine}
use Rattle.leaps.specs.Run.{put_told, written, dry_leap, first_of, first_run, first_told, leap_run, Executable, Stretchable, ran_from, run_done, Runnable}

-- ---- the machine

-- a frame moves the clock by one, and a command leaves it
pub dry_clocked : (long : Lengths) → Clocked (dry_machine long)
unfolding dry_next dry_exec
dry_clocked long = record { ticks = λ s. add-one s.clock.0; stays = λ d s. refl }

-- a dry run stands where it may: its transport fits its song, and its cursor is 0
pub record Stands (long : Lengths) (s : Dry) : Type 0 where
  pub fits : transport_fits (long s.playhead.song) s.playhead.transport ≡ true
  pub blind : s.playhead.transport.cursor.0 ≡ 0

-- every command keeps it so,
pub exec_stands : (long : Lengths) (d : QueueRecord) (s : Dry) → Stands long s → Stands long (dry_exec long d s)
unfolding dry_exec
exec_stands long d s h = record { fits = fits_by long d.command s.playhead h.fits; blind = refl }

-- and every frame
next_stands : (long : Lengths) (s : Dry) → Stands long s → Stands long (dry_next long s)
unfolding dry_next
next_stands long s h = record { fits = step_fits false 0 (long s.playhead.song) s.playhead.transport h.fits; blind = refl }

-- a leap of no frames
leap_none : (long : Lengths) (s : Dry) → Stands long s → s ≡ dry_leap long 0 s
unfolding dry_leap leap_of
leap_none long s h = rw (add-zero s.clock.0, ← h.blind)

-- a leap, and one frame
leap_more : (long : Lengths) (n : ℕ) (s : Dry) → dry_next long (dry_leap long n s) ≡ dry_leap long (suc n) s
unfolding dry_next dry_leap leap_of
leap_more long n s = let e : s.clock.0 + n + 1 ≡ s.clock.0 + suc n = omega arith in rw e

-- one frame, and a leap
leap_front : (long : Lengths) (n : ℕ) (s : Dry) → Stands long s → dry_leap long n (dry_next long s) ≡ dry_leap long (suc n) s
leap_front long zero s h =
    sym (leap_none long (dry_next long s) (next_stands long s h)) ∙ ap (dry_next long) (leap_none long s h) ∙ leap_more long zero s
leap_front long (suc n) s h =
    sym (leap_more long n (dry_next long s)) ∙ ap (dry_next long) (leap_front long n s h) ∙ leap_more long (suc n) s

-- A LEAP is its frames, where nothing is queued
pub run_leaps : (long : Lengths) (n : ℕ) (s : Dry) → Stands long s → (run (dry_machine long) n (stand s [])).at.core ≡ dry_leap long n s
unfolding run
run_leaps long zero s h = leap_none long s h
run_leaps long (suc n) s h = run_leaps long n (dry_next long s) (next_stands long s h) ∙ leap_front long n s h

pub leap_stands : (long : Lengths) (n : ℕ) (s : Dry) → Stands long s → Stands long (dry_leap long n s)
leap_stands long n s h = rw (← run_leaps long n s h) (run_keeps (dry_machine long) (Stands long) (next_stands long) n s h)

-- ---- the sheet

-- a row written over leaves its length
pub length_told : (ws : List ℕ) (i : ℕ) (t : Lapped) → length (put_told ws i t) ≡ length ws
length_told ws i t =
    length_put (put_row ws (i * 2) (row_of t.told.command)) (i * 2 + 1) (row t.told.clock.0 t.told.before.0 t.told.after.0 t.laps_before t.laps_after)
    ∙ length_put ws (i * 2) (row_of t.told.command)

-- what is told last is the last row
pub written_more : (ws : List ℕ) (k : ℕ) (l : List Lapped) (t : Lapped) → written ws k (l ++ (t ∷ [])) ≡ put_told (written ws k l) (k + length l) t
unfolding written
written_more ws k [] t = rw (add-zero k)
written_more ws k (x ∷ l) t =
    let e : k + 1 + length l ≡ k + suc (length l) = omega arith in
    written_more (put_told ws k x) (k + 1) l t ∙ rw e

-- ---- the loop

module _ (b : Bank) (q : List ℕ) (r₀ : Run) (n : ℕ) (sheet₀ : List ℕ) where
  abbrev machine : Machine Dry QueueRecord (Unit {0}) Lapped
  machine = dry_machine (lengths_in b)

  abbrev began : At Dry QueueRecord
  began = stand r₀.dry (queue q r₀.queued)

  -- i of n frames are behind, r is the run so far, and the sheet holds what was told
  pub record Running (sheet : List ℕ) (r : Run) (i : ℕ) : Type 0 where
    pub most : i ≤ n
    pub ready : Runnable b q r (n - i) (length sheet)
    pub made : List (Unit {0})
    pub told : List Lapped
    pub partway : Partway machine n began i r.dry (queue q r.queued) made told
    pub rows : r.rows ≡ r₀.rows + length told
    pub size : length sheet ≡ length sheet₀
    pub lines : sheet ≡ written sheet₀ r₀.rows told

  -- at its start
  pub run_start : Runnable b q r₀ n (length sheet₀) → Running sheet₀ r₀ 0
  unfolding written
  run_start h =
      record {
        most = omega arith;
        ready = subst (λ (j : ℕ). Runnable b q r₀ j (length sheet₀)) (omega arith) h;
        made = [];
        told = [];
        partway = partway_start machine n began;
        rows = sym (add-zero r₀.rows);
        size = refl;
        lines = refl;
      }

  module _ (sheet : List ℕ) (r : Run) (i : ℕ) (h : Running sheet r i) where
    stands : Stands (lengths_in b) r.dry
    stands = record { fits = h.ready.fits; blind = h.ready.blind }

    -- the queued records lie in their store
    pub run_lies : r.queued * 5 ≤ length q
    run_lies = h.ready.lies

    -- all frames are behind, and one command, if it is due, was executed
    ends_at : 0 < n → i ≡ n → (c : Run) (sheet' : List ℕ) (told : List Lapped) → one machine r.dry (queue q r.queued) ≡ ran (stand c.dry (queue q c.queued)) [] told
        → c.rows ≡ r₀.rows + length (h.told ++ told) → sheet' ≡ written sheet₀ r₀.rows (h.told ++ told) → (c, sheet') ≡ run_done r₀ sheet₀ (ran_from b q r₀ n)
    unfolding ran_from
    ends_at pos e c sheet' told w rows lines =
        let x : ran_from b q r₀ n ≡ ran (stand c.dry (queue q c.queued)) h.made (h.told ++ told) =
        partway_block machine n began i r.dry (queue q r.queued) h.made h.told (omega arith) h.partway pos ∙ rw (w, append-nil h.made) in
        rw (x, length_queue q c.queued, ← rows, ← lines)

    module _ (due : first_due q r.queued r.dry.clock.0 ≡ true) where
      some : 0 < r.queued
      some = due_some q r.queued r.dry.clock.0 due

      -- a command that is due can be executed
      pub run_executable : Executable r q (length sheet)
      run_executable =
          let s = some in
          record {
            some = s;
            lies = h.ready.lies;
            reads = h.ready.reads (r.queued - 1) (omega arith);
            gain = h.ready.gains (r.queued - 1) (omega arith);
            room = omega (arith, h.ready.room);
          }

      abbrev next : Run
      next = first_run b q r

      abbrev line : List ℕ
      line = put_told sheet r.rows (first_told b q r)

      next_ready : Runnable b q next (n - i) (length line)
      unfolding dry_exec
      next_ready =
          let s = some in
          let e = exec_stands (lengths_in b) (first_of q r.queued) r.dry stands in
          record {
            short = h.ready.short;
            fits = e.fits;
            blind = refl;
            clock = h.ready.clock;
            lies = omega (arith, h.ready.lies);
            reads = λ j l. h.ready.reads j (omega arith);
            gains = λ j l. h.ready.gains j (omega arith);
            room = rw (length_told sheet r.rows (first_told b q r)) (omega (arith, h.ready.room));
          }

      next_rows : next.rows ≡ r₀.rows + length (h.told ++ (first_told b q r ∷ []))
      next_rows = rw (length-append h.told (first_told b q r ∷ [])) (let e = h.rows in omega arith)

      next_lines : line ≡ written sheet₀ r₀.rows (h.told ++ (first_told b q r ∷ []))
      next_lines = sym (written_more sheet₀ r₀.rows h.told (first_told b q r) ∙ rw (← h.rows, ← h.lines))

      -- a turn that executes it
      pub run_exec : i < n → Running line next i
      run_exec lt =
          record {
            most = h.most;
            ready = next_ready;
            made = h.made;
            told = h.told ++ (first_told b q r ∷ []);
            partway =
                partway_exec machine n began i r.dry (queue q (r.queued - 1)) h.made h.told (first_of q r.queued) lt
                (sym (due_at q r.queued r.dry.clock.0 some) ∙ due)
                (rw (queue_some q r.queued r.dry.clock.0 some) at h.partway);
            rows = next_rows;
            size = length_told sheet r.rows (first_told b q r) ∙ h.size;
            lines = next_lines;
          }

      -- left after the single command at the block's end
      pub run_last : 0 < n → i ≡ n → (next, line) ≡ run_done r₀ sheet₀ (ran_from b q r₀ n)
      run_last pos e = ends_at pos e next line (first_told b q r ∷ []) (one_due machine (λ d. refl) q r.queued r.dry due) next_rows next_lines

    module _ (not : first_due q r.queued r.dry.clock.0 ≡ false) where
      -- left with nothing due at the block's end
      pub run_end : 0 < n → i ≡ n → (r, sheet) ≡ run_done r₀ sheet₀ (ran_from b q r₀ n)
      run_end pos e =
          ends_at pos e r sheet [] (one_not machine (λ d. refl) q r.queued r.dry not) (rw (append-nil h.told) h.rows) (rw (append-nil h.told) h.lines)

      module _ (j : ℕ) (ej : j ≡ lead_of q r.queued r.dry.clock.0 (n - i)) where
        -- a turn makes no more frames than are left,
        pub turn_most : i + j ≤ n
        turn_most = omega (arith, h.most, lead_most q r.queued r.dry.clock.0 (n - i))

        -- and at least one
        pub turn_some : i < n → 0 < j
        turn_some lt = omega (arith, lead_some q r.queued r.dry.clock.0 (n - i) not (omega arith))

        -- they can be made at once
        pub turn_asked : Stretchable r b j
        turn_asked =
            let m = turn_most in
            let c = h.ready.clock in
            record {
              leaps = record { fits = h.ready.fits; long = h.ready.short r.dry.playhead.song; some = omega arith };
              clock = omega arith;
            }

        -- a turn that makes them
        pub run_stretch : Running sheet (leap_run b j r) (i + j)
        unfolding dry_leap
        run_stretch =
            let m = turn_most in
            let s = leap_stands (lengths_in b) j r.dry stands in
            record {
              most = m;
              ready =
                  record {
                    short = h.ready.short;
                    fits = s.fits;
                    blind = s.blind;
                    clock = omega (arith, h.ready.clock);
                    lies = h.ready.lies;
                    reads = h.ready.reads;
                    gains = h.ready.gains;
                    room = h.ready.room;
                  };
              made = h.made ++ (run machine j (stand r.dry [])).made;
              told = h.told;
              partway =
                  subst (λ (x : Dry). Partway machine n began (i + j) x (queue q r.queued) (h.made ++ (run machine j (stand r.dry [])).made) h.told)
                  (run_leaps (lengths_in b) j r.dry stands)
                  (partway_stretch machine n began i r.dry (queue q r.queued) h.made h.told (dry_clocked (lengths_in b)) j m
                  (lead_clear machine (λ d. refl) q r.queued r.dry.clock.0 (n - i) j not (omega arith)) h.partway);
              rows = h.rows;
              size = h.size;
              lines = h.lines;
            }

  -- no frames: nothing
  pub run_nothing : n ≡ 0 → (r₀, sheet₀) ≡ run_done r₀ sheet₀ (ran_from b q r₀ n)
  unfolding ran_from written
  run_nothing e = rw (e, block_none machine began, length_queue q r₀.queued, add-zero r₀.rows)

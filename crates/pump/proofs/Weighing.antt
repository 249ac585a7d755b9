-- When a pump is accepted, how many frames it then makes, and what it gives. Assumes nothing.
use mathlib.Core.Path.{◌≡◌, refl, sym, ap, ◌∙◌}
use mathlib.Core.Bool.{true, not}
use mathlib.Core.List.{List}
use Prim.Native.Nat.{ℕ, ◌+◌, ◌*◌, ◌/◌, ◌^◌, ◌≤◌, ◌<◌}
use native.Mathlib.Omega.{arith}
use native.Mathlib.Nat.{min-le_right}
use lib.ListN.{length}
use lib.Ieee.{Float}
use borrow.Author.Tests.{not-false, ltb-false, le-ltb}
use Rattle.bank.specs.Sample.{is_pool}
use Rattle.session.specs.declared.Session.{Session}
use Rattle.session.specs.declared.Refusal.{Refusal}
use Rattle.session.specs.Session.{with_stage}
use Rattle.session.specs.WellFormed.{well_formed}
use Rattle.session.proofs.Refuse.{passed, skip, unless_fine, unless_refused}
use Rattle.session.specs.declared.Answered.{Answered}
use Rattle.block.specs.declared.Made.{Made}
use Rattle.block.specs.Block.{reported}
use Rattle.ring.specs.declared.SampleRing.{SampleRing}
use Rattle.ring.specs.Ring.{ring_at, Within, held_of, free_of, place_at}
use Rattle.ring.proofs.Places.{within, ring_ok_law, held_lt}
use Rattle.pump.specs.declared.Pumped.{Pumped}
use Rattle.pump.specs.Into.{Pumpable, MadeInto}
use Rattle.pump.specs.Pump.{frames_made, weigh_pump, pumped, pump_done, pump_of}
use Rattle.std.specs.Prelude.{Ok, Err}

-- ---- the frames made

module _ (n : ℕ) (r : SampleRing) (frames : ℕ) (w : Within n r) where
  -- they fit beside what waits, and one place stays empty,
  pub made_fits : frames_made n r frames * 2 + held_of n r < n
  unfolding free_of
  made_fits = omega (arith, min-le_right frames (free_of n r / 2), held_lt n r w)

  -- and they are few
  pub made_small : frames_made n r frames ≤ 65536
  made_small = omega (arith, made_fits, w.most)

-- ---- the chain

-- none of 1, 23, 2 and 4
pub record Accepted (s : Session) (q c : List ℕ) (pool : List Float) (r : SampleRing) (n frames : ℕ) : Type 0 where
  pub formed : well_formed s q c ≡ true
  pub inside : Within n r
  pub lent : is_pool pool s.settings.pool ≡ true
  pub clock : s.stage.clock.0 + frames_made n r frames ≤ 2 ^ 62

module _ (s : Session) (q c : List ℕ) (pool : List Float) (r : SampleRing) (n frames : ℕ) where
  -- a pump that is not refused is none of them,
  pub accepted : weigh_pump s q c pool r n frames ≡ Ok tt → Accepted s q c pool r n frames
  unfolding weigh_pump
  accepted e =
      let p1 = passed _ _ _ e in
      let p2 = passed _ _ _ p1.1 in
      let p3 = passed _ _ _ p2.1 in
      let p4 = passed _ _ _ p3.1 in
      record {
        formed = not-false _ p1.0;
        inside = within n r (not-false _ p2.0);
        lent = not-false _ p3.0;
        clock = ltb-false (2 ^ 62) (s.stage.clock.0 + frames_made n r frames) p4.0;
      }

  -- one that is none of them is not refused,
  pub fine : Accepted s q c pool r n frames → weigh_pump s q c pool r n frames ≡ Ok tt
  unfolding weigh_pump
  fine a =
      sym
      (skip _ _ _ _ (ap not a.formed)
      (skip _ _ _ _ (ap not (ring_ok_law n r a.inside)) (skip _ _ _ _ (ap not a.lent) (skip _ _ _ _ (le-ltb _ _ a.clock) refl))))

  -- and its frames can be made, where its numbers are of their types
  pub pumpable : Accepted s q c pool r n frames → length s.stage.sound.voices.table ≡ 16 → s.desk.number < 2 ^ 64
      → Pumpable s.settings s.bank s.stage s.queued q pool (frames_made n r frames)
  pumpable a places number =
      record { going = record { desk = s.desk; capture = c; formed = a.formed; places = places; number = number }; lent = a.lent; clock = a.clock }

module _ (s : Session) (q c : List ℕ) (pool : List Float) (r : SampleRing) (store : List Float) (frames : ℕ) where
  -- what it then gives,
  pub pump_done_law : Accepted s q c pool r (length store) frames → pump_of s q c pool r store frames ≡ pump_done s q pool r store (frames_made (length store) r frames)
  unfolding pump_of
  pump_done_law a = unless_fine _ _ _ (fine s q c pool r (length store) frames a)

  -- and what a refused one does: session, ring and store as they were
  pub pump_refused_law : (k : Refusal) → weigh_pump s q c pool r (length store) frames ≡ Err k → pump_of s q c pool r store frames ≡ (pumped (Err k) s r, store)
  unfolding pump_of
  pump_refused_law k e = unless_refused _ _ _ k e

  -- so the frames made into its store, with the tail past them, are what an accepted one gives
  pub pump_gives : Accepted s q c pool r (length store) frames → (n : ℕ) → n ≡ frames_made (length store) r frames → (m : Made) (st : List Float)
      → MadeInto s.settings s.bank s.stage s.queued q pool store r.tail n m st
      → (passes : ℕ) → passes ≡ reported m.answer → (p : ℕ) → p ≡ place_at (length store) r.tail (n * 2)
      → ◌≡◌ {A = Pumped × List Float} (pumped (Ok (record { frames = n; passes = passes })) (with_stage s m.stage m.queued) (ring_at r.head p), st) (pump_of s q c pool r store frames)
  pump_gives a n e m st f passes g p h =
      rw (g, h)
      (ap (λ (z : Answered ℕ × List Float). (pumped (Ok (record { frames = n; passes = reported z.0.answer })) z.0.session (ring_at r.head (place_at (length store) r.tail (n * 2))), z.1)) (f s.desk)
      ∙ ap (pump_done s q pool r store) e
      ∙ sym (pump_done_law a))

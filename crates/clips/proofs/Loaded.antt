-- What an accepted load answers and leaves: the lowest free slot with the next serial, the clip there, and every other clip as it was. Assumes nothing.
use mathlib.Core.Path.{◌≡◌, refl}
use mathlib.Core.Bool.{true, false, ◌&&◌}
use mathlib.Core.Logic.{◌⊎◌, inl, inr}
use mathlib.Core.List.{List}
use Prim.Native.Nat.{ℕ, ◌+◌, ◌-◌, ◌*◌, ◌%◌, ◌^◌, ◌≤◌, ◌<◌}
use native.Mathlib.Omega.{arith}
use lib.Dec.{eqb}
use lib.ListN.{length}
use lib.Ieee.{Float}
use borrow.Author.Tests.{not-false, eqb-true, eqb-false}
use Rattle.counts.specs.declared.Handle.{Handle}
use Rattle.counts.proofs.Truth.{and_l, and_r}
use Rattle.bank.specs.declared.Kind.{Kind}
use Rattle.bank.specs.Sample.{frames_of, is_odd, is_pool, samples_ok}
use Rattle.bank.specs.Slots.{used_at, free_slot, clip_of, live, extent_of}
use Rattle.bank.specs.Room.{fits, nowhere}
use Rattle.bank.specs.Recording.{view_of}
use Rattle.bank.specs.WellFormed.{rate_ok, extent_ok}
use Rattle.bank.proofs.Slots.{free_slot_lowest}
use Rattle.bank.proofs.Fit.{first_fits, fit_lies}
use Rattle.bank.proofs.Kept.{Placed, load_places, clip_here}
use Rattle.bank.proofs.Handles.{new_live, load_keeps_live, load_keeps_clip}
use Rattle.bank.proofs.Pool.{new_view, load_view}
use Rattle.session.specs.declared.Session.{Session}
use Rattle.session.specs.WellFormed.{well_formed}
use Rattle.session.specs.Answer.{gives, says}
use Rattle.session.proofs.Parts.{parts}
use Rattle.session.proofs.Refuse.{passed, unless_fine, gives_fine}
use Rattle.session.proofs.Typed.{Typed}
use Rattle.session.specs.declared.Answered.{Answered}
use Rattle.clips.specs.Load.{start_for, weigh_load, handle_for, clip_for, load_done, load_of}
use Rattle.std.specs.Prelude.{Ok}

-- a sample count that is neither odd nor 0 is a whole number of frames, and at least one
pub whole_frames : (samples : List Float) → is_odd samples ≡ false → eqb (length samples) 0 ≡ false → (frames_of samples * 2 ≡ length samples) × (1 ≤ frames_of samples)
whole_frames samples e f =
    let odd : length samples % 2 ≡ 1 → ⊥ = eqb-false (length samples % 2) 1 e in
    let none : length samples ≡ 0 → ⊥ = eqb-false (length samples) 0 f in
    (omega arith, omega arith)

-- none of 1, 2, 3, 5 to 10
pub record Accepted (s : Session) (q c : List ℕ) (pool samples : List Float) (kind : Kind) (rate : ℕ) : Type 0 where
  pub formed : well_formed s q c ≡ true
  pub lent : is_pool pool s.settings.pool ≡ true
  pub even : frames_of samples * 2 ≡ length samples
  pub some : 1 ≤ frames_of samples
  pub sound : samples_ok samples ≡ true
  pub rated : rate_ok rate ≡ true
  pub lasts : extent_ok kind (frames_of samples) ≡ true
  pub slots : s.bank.used ≡ 2 ^ 32 - 1 → ⊥
  pub serials : s.bank.last ≡ 2 ^ 32 - 1 → ⊥
  pub room : start_for s samples ≡ nowhere → ⊥

-- a load that gives a handle is not refused
pub load_fine : (s : Session) (q c : List ℕ) (pool samples : List Float) (kind : Kind) (rate : ℕ) (h : Handle)
    → says (load_of s q c pool samples kind rate).0.answer ≡ gives h → weigh_load s q c pool samples kind rate ≡ Ok tt
unfolding load_of
load_fine s q c pool samples kind rate h e = gives_fine {A = Answered Handle × List Float} _ _ _ (λ a. says a.0.answer) (λ k. refl) h e

module _ (s : Session) (q c : List ℕ) (pool samples : List Float) (kind : Kind) (rate : ℕ) (fine : weigh_load s q c pool samples kind rate ≡ Ok tt) where
  -- a load that is not refused is none of them
  pub accepted : Accepted s q c pool samples kind rate
  unfolding weigh_load
  accepted =
      let p1 = passed _ _ _ fine in
      let p2 = passed _ _ _ p1.1 in
      let p3 = passed _ _ _ p2.1 in
      let p5 = passed _ _ _ p3.1 in
      let p6 = passed _ _ _ p5.1 in
      let p7 = passed _ _ _ p6.1 in
      let p8 = passed _ _ _ p7.1 in
      let p9 = passed _ _ _ p8.1 in
      let p10 = passed _ _ _ p9.1 in
      let frames = whole_frames samples p3.0 p5.0 in
      let ranged : rate_ok rate && extent_ok kind (frames_of samples) ≡ true = not-false _ p7.0 in
      record {
        formed = not-false _ p1.0;
        lent = not-false _ p2.0;
        even = frames.0;
        some = frames.1;
        sound = not-false _ p6.0;
        rated = and_l (rate_ok rate) (extent_ok kind (frames_of samples)) ranged;
        lasts = and_r (rate_ok rate) (extent_ok kind (frames_of samples)) ranged;
        slots = eqb-false s.bank.used (2 ^ 32 - 1) p8.0;
        serials = eqb-false s.bank.last (2 ^ 32 - 1) p9.0;
        room = eqb-false (start_for s samples) nowhere p10.0;
      }

  -- it answers the next serial in the lowest free slot, and leaves the clip there and its samples in the pool
  pub load_done_law : load_of s q c pool samples kind rate ≡ load_done s pool samples kind rate
  unfolding load_of
  load_done_law = unless_fine (weigh_load s q c pool samples kind rate) _ _ fine

  -- it has what placing the clip asks: a slot and a serial are left, the clip has a frame, and from its start on it lies in the lent pool
  pub load_ready : (s.bank.used ≡ 2 ^ 32 - 1 → ⊥) × (s.bank.last ≡ 2 ^ 32 - 1 → ⊥) × (1 ≤ frames_of samples) × (start_for s samples * 2 + length samples ≤ length pool)
  load_ready =
      let a : Accepted s q c pool samples kind rate = accepted in
      let l = lies (first_fits s.bank s.settings.pool (frames_of samples)) in
      let n : length pool ≡ s.settings.pool * 2 = eqb-true (length pool) (s.settings.pool * 2) a.lent in
      (a.slots, a.serials, a.some, omega arith)
    where
      lies : (start_for s samples ≡ nowhere) ⊎ (fits s.bank s.settings.pool (frames_of samples) (start_for s samples) ≡ true) → start_for s samples + frames_of samples ≤ s.settings.pool
      lies (inl e) = absurd (accepted.room e)
      lies (inr e) = fit_lies s.bank s.settings.pool (frames_of samples) (start_for s samples) e

  -- it gives the handle
  pub load_gives : says (load_of s q c pool samples kind rate).0.answer ≡ gives (handle_for s)
  load_gives = rw load_done_law

  module _ (t : Typed s) where
    -- the clip goes into a free slot, to a start where it meets no loaded clip, under a serial that was not given before
    pub load_placed : Placed s.bank s.settings.pool (free_slot s.bank.used) (clip_for s samples kind rate)
    load_placed =
        let a : Accepted s q c pool samples kind rate = accepted in
        load_places (
        record {
          places = t.bank.places;
          ok = (parts s q c a.formed).bank;
          bits = t.bank.bits;
          some = a.slots;
          serial = refl;
          start = refl;
          found = a.room;
          long = a.some;
          rated = a.rated;
          lasts = a.lasts;
        })

    -- the slot is one of the 32, it was free, and every lower one is used
    pub load_slot : ((handle_for s).slot < 32) × (used_at s.bank.used (handle_for s).slot ≡ false) × ((i : ℕ) → i < (handle_for s).slot → used_at s.bank.used i ≡ true)
    load_slot = (load_placed.among, load_placed.free, free_slot_lowest s.bank.used t.bank.bits)

    -- the handle is live
    pub load_live : live (load_of s q c pool samples kind rate).0.session.bank (handle_for s) ≡ true
    load_live = rw load_done_law (new_live load_placed)

    -- it stands for the clip that was given,
    pub load_clip : clip_of (load_of s q c pool samples kind rate).0.session.bank (handle_for s) ≡ clip_for s samples kind rate
    load_clip = rw load_done_law (clip_here load_placed)

    -- which sounds as it was given
    pub load_sounds : view_of (load_of s q c pool samples kind rate).1 (load_of s q c pool samples kind rate).0.session.bank (handle_for s)
        ≡ record { frames = frames_of samples; extent = extent_of kind; samples = samples }
    load_sounds = rw load_done_law (new_view load_placed pool samples accepted.lent accepted.even)

    module _ (h : Handle) (e : live s.bank h ≡ true) where
      -- every live handle stays live,
      pub load_leaves_live : live (load_of s q c pool samples kind rate).0.session.bank h ≡ true
      load_leaves_live = rw load_done_law (load_keeps_live load_placed h e)

      -- keeps its clip
      pub load_leaves_clip : clip_of (load_of s q c pool samples kind rate).0.session.bank h ≡ clip_of s.bank h
      load_leaves_clip = rw load_done_law (load_keeps_clip load_placed h e)

      -- and sounds as it did
      pub load_leaves_sound : view_of (load_of s q c pool samples kind rate).1 (load_of s q c pool samples kind rate).0.session.bank h ≡ view_of pool s.bank h
      load_leaves_sound = rw load_done_law (load_view load_placed pool samples accepted.lent accepted.even h e)

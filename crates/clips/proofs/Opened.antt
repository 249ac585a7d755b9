-- What an accepted opening leaves: a well formed session, whose song stands for the samples given. A refused one leaves none. Assumes nothing.
use mathlib.Core.Path.{◌≡◌, refl, sym, ap, ◌∙◌}
use mathlib.Core.Bool.{Bool, true, false, ◌&&◌}
use mathlib.Core.Logic.{◌⊎◌, inl, inr}
use mathlib.Core.List.{List}
use Prim.Native.Nat.{ℕ, ◌+◌, ◌*◌, ◌≤◌}
use native.Mathlib.Omega.{arith}
use lib.Dec.{eqb}
use lib.ListN.{length}
use lib.Ieee.{Float, le}
use borrow.Author.Tests.{not-false, eqb-true, ltb-false, le-leb}
use Rattle.counts.specs.declared.SongFrame.{SongFrame}
use Rattle.counts.specs.declared.Handle.{Handle}
use Rattle.counts.specs.Below.{count_below}
use Rattle.counts.proofs.Truth.{two_ways, never, and_true, and_l, and_r}
use Rattle.counts.proofs.Below.{all_true}
use Rattle.timeline.proofs.WellFormed.{queue_none, capture_none}
use Rattle.bank.specs.declared.Kind.{Kind}
use Rattle.bank.specs.declared.Clip.{Clip}
use Rattle.bank.specs.declared.Bank.{Bank}
use Rattle.bank.specs.Sample.{frames_of, is_pool, samples_ok}
use Rattle.bank.specs.Slots.{used_at, empty_bank, clip_of, loaded_in}
use Rattle.bank.specs.Room.{clear_at, fits}
use Rattle.bank.specs.Recording.{view_of}
use Rattle.bank.specs.WellFormed.{rate_ok, extent_ok}
use Rattle.bank.proofs.Slots.{none_used}
use Rattle.bank.proofs.Kept.{empty_ok, empty_places, Placed, clip_here, load_keeps, load_length}
use Rattle.bank.proofs.Handles.{new_live}
use Rattle.bank.proofs.Pool.{load_pool, new_view}
use Rattle.bank.proofs.Claims.{song_is}
use Rattle.oneshot.specs.Mix.{no_voices}
use Rattle.oneshot.proofs.Fires.{places_none}
use Rattle.stage.specs.declared.Settings.{Settings}
use Rattle.session.specs.declared.Session.{Session}
use Rattle.session.specs.WellFormed.{settings_ok, stores_ok, well_formed}
use Rattle.session.specs.Answer.{refused, gives, says}
use Rattle.session.proofs.Parts.{parts, whole}
use Rattle.session.proofs.Refuse.{passed, unless_fine, unless_both, refused_leaves, gives_fine}
use Rattle.session.proofs.Typed.{Typed}
use Rattle.session.specs.declared.Answered.{Answered}
use Rattle.clips.specs.Open.{weigh_open, first_handle, first_clip, session_of, no_session, open_done, open_of}
use Rattle.clips.proofs.Loaded.{whole_frames}
use Rattle.std.specs.Prelude.{Ok}

-- none of 7, 1, 2, 3, 5, 6, 13 and 10
pub record Accepted (x : Settings) (q c : List ℕ) (pool samples : List Float) (rate : ℕ) (extent : SongFrame) : Type 0 where
  pub settings : settings_ok x ≡ true
  pub rated : rate_ok rate ≡ true
  pub lasts : extent_ok (Kind.Song extent) (frames_of samples) ≡ true
  pub stores : stores_ok x q c ≡ true
  pub lent : is_pool pool x.pool ≡ true
  pub even : frames_of samples * 2 ≡ length samples
  pub some : 1 ≤ frames_of samples
  pub sound : samples_ok samples ≡ true
  pub rate_is : rate ≡ x.rate
  pub room : frames_of samples ≤ x.pool

-- an opening that gives a handle is not refused
pub open_fine : (x : Settings) (q c : List ℕ) (pool samples : List Float) (rate : ℕ) (extent : SongFrame) (h : Handle)
    → says (open_of x q c pool samples rate extent).0.answer ≡ gives h → weigh_open x q c pool samples rate extent ≡ Ok tt
unfolding open_of
open_fine x q c pool samples rate extent h e = gives_fine {A = Answered Handle × List Float} _ _ _ (λ a. says a.0.answer) (λ k. refl) h e

module _ (x : Settings) (q c : List ℕ) (pool samples : List Float) (rate : ℕ) (extent : SongFrame) (fine : weigh_open x q c pool samples rate extent ≡ Ok tt) where
  -- an opening that is not refused is none of them
  pub accepted : Accepted x q c pool samples rate extent
  unfolding weigh_open
  accepted =
      let p7 = passed _ _ _ fine in
      let p1 = passed _ _ _ p7.1 in
      let p2 = passed _ _ _ p1.1 in
      let p3 = passed _ _ _ p2.1 in
      let p5 = passed _ _ _ p3.1 in
      let p6 = passed _ _ _ p5.1 in
      let p13 = passed _ _ _ p6.1 in
      let p10 = passed _ _ _ p13.1 in
      let frames = whole_frames samples p3.0 p5.0 in
      let ranged : settings_ok x && rate_ok rate && extent_ok (Kind.Song extent) (frames_of samples) ≡ true = not-false _ p7.0 in
      let numbers : settings_ok x && rate_ok rate ≡ true = and_l (settings_ok x && rate_ok rate) (extent_ok (Kind.Song extent) (frames_of samples)) ranged in
      record {
        settings = and_l (settings_ok x) (rate_ok rate) numbers;
        rated = and_r (settings_ok x) (rate_ok rate) numbers;
        lasts = and_r (settings_ok x && rate_ok rate) (extent_ok (Kind.Song extent) (frames_of samples)) ranged;
        stores = not-false _ p1.0;
        lent = not-false _ p2.0;
        even = frames.0;
        some = frames.1;
        sound = not-false _ p6.0;
        rate_is = eqb-true rate x.rate (not-false _ p13.0);
        room = ltb-false x.pool (frames_of samples) p10.0;
      }

  -- the song lies at the pool's start, in slot 0 and with serial 1
  pub open_done_law : open_of x q c pool samples rate extent ≡ open_done x pool samples rate extent
  unfolding open_of
  open_done_law = unless_fine (weigh_open x q c pool samples rate extent) _ _ fine

  -- the song lies in the lent pool
  pub open_ready : length samples ≤ length pool
  open_ready = let a = accepted in let n : length pool ≡ x.pool * 2 = eqb-true (length pool) (x.pool * 2) a.lent in omega arith

  -- it gives that handle
  pub open_gives : says (open_of x q c pool samples rate extent).0.answer ≡ gives first_handle
  open_gives = rw open_done_law

  free : (i : ℕ) → used_at empty_bank.used i ≡ false
  unfolding empty_bank
  free i = none_used i

  -- the song goes to slot 0 and to the pool's start
  pub placed : Placed empty_bank x.pool 0 (first_clip samples rate extent)
  unfolding fits empty_bank
  placed =
      let a = accepted in
      record {
        places = empty_places;
        ok = empty_ok x.pool;
        among = omega arith;
        free = free 0;
        new = omega arith;
        own = record { long = a.some; rated = a.rated; lasts = a.lasts; lies = omega arith; first = omega arith; given = omega arith };
        fit = and_true (le-leb (0 + frames_of samples) x.pool (omega arith)) (all_true (clear_at empty_bank 0 (frames_of samples)) 32 (λ i l. rw (free i)));
      }

  -- it stands for the song that was given, sample by sample
  pub open_sounds : view_of (open_of x q c pool samples rate extent).1 (open_of x q c pool samples rate extent).0.session.bank first_handle
      ≡ record { frames = frames_of samples; extent = extent.0; samples = samples }
  open_sounds = rw open_done_law (new_view placed pool samples accepted.lent accepted.even)

  -- the pool has the length that was named
  pub open_pooled : is_pool (open_of x q c pool samples rate extent).1 (open_of x q c pool samples rate extent).0.session.settings.pool ≡ true
  open_pooled = rw open_done_law (load_pool placed pool samples accepted.lent accepted.even)

  -- the session is well formed
  pub open_formed : well_formed (open_of x q c pool samples rate extent).0.session q c ≡ true
  unfolding stores_ok no_voices count_below le
  open_formed =
      let a = accepted in
      let b : Bank = loaded_in empty_bank 0 (first_clip samples rate extent) in
      let its : clip_of b first_handle ≡ first_clip samples rate extent = clip_here placed in
      let queued : Bool = eqb (length q) (x.queue * 5) in
      let captured : Bool = eqb (length c) (x.capture * 5) in
      rw open_done_law
      (whole (session_of x b first_handle) q c (
      record {
        settings = a.settings;
        clock = omega arith;
        queued = omega arith;
        captured = omega arith;
        voices = omega arith;
        queue_size = eqb-true (length q) (x.queue * 5) (and_l queued captured a.stores);
        capture_size = eqb-true (length c) (x.capture * 5) (and_r queued captured a.stores);
        bank = load_keeps placed;
        queue = queue_none 0 q;
        capture = capture_none 0 c;
        song = song_is b x.rate first_handle (record { alive = new_live placed; song = (extent, ap (λ (d : Clip). d.kind) its); rated = ap (λ (d : Clip). d.rate) its ∙ a.rate_is });
        tail = refl;
        voices_held = λ i l. absurd (omega arith);
        queue_held = λ j l. absurd (omega arith);
        capture_held = λ j l. absurd (omega arith);
        position = omega arith;
        looped = refl;
        stinging = omega arith;
        heads = λ i l. absurd (omega arith);
        master = omega arith;
        master_target = refl;
        weight = refl;
        gains = λ i l. absurd (omega arith);
        executed = omega arith;
        special = omega arith;
      }))

-- no call takes what a refused opening hands back: its settings are out of range
pub none_formed : (q c : List ℕ) → well_formed no_session q c ≡ false
unfolding settings_ok
none_formed q c = go (two_ways (well_formed no_session q c))
  where
    go : (well_formed no_session q c ≡ true) ⊎ (well_formed no_session q c ≡ false) → well_formed no_session q c ≡ false
    go (inl e) = absurd (never (sym (parts no_session q c e).settings))
    go (inr e) = e

module _ (x : Settings) (q c : List ℕ) (pool samples : List Float) (rate : ℕ) (extent : SongFrame) where
  -- a refused opening leaves the pool, and no session
  pub open_refused : (n : ℕ) → says (open_of x q c pool samples rate extent).0.answer ≡ refused n
      → ◌≡◌ {A = Session × List Float} ((open_of x q c pool samples rate extent).0.session, (open_of x q c pool samples rate extent).1) (no_session, pool)
  unfolding open_of
  open_refused =
      refused_leaves {A = Answered Handle × List Float} _ _ _ {B = Session × List Float} (λ a. says a.0.answer) (λ a. (a.0.session, a.1)) first_handle (no_session, pool) refl
      (λ k. refl)

  -- what opening hands back has numbers of their types
  pub open_typed : Typed (open_of x q c pool samples rate extent).0.session
  unfolding open_of empty_bank loaded_in
  open_typed =
      unless_both {A = Answered Handle × List Float} _ _ _ (λ a. Typed a.0.session)
      (λ k. record { bank = record { bits = omega arith; serials = omega arith; places = empty_places }; voices = places_none })
      (λ fine. record { bank = record { bits = omega arith; serials = omega arith; places = load_length (placed x q c pool samples rate extent fine) }; voices = places_none })

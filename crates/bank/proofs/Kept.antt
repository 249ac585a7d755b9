-- A bank stays well formed when a clip is loaded and when one is retired. Assumes nothing.
use mathlib.Core.Path.{◌≡◌, refl, sym, ap, ◌∙◌}
use mathlib.Core.Bool.{Bool, true, false, not, ◌||◌, cond}
use mathlib.Core.Logic.{◌⊎◌, inl, inr}
use Prim.Native.Nat.{ℕ, ◌+◌, ◌-◌, ◌≤◌, ◌<◌, ◌^◌}
use native.Mathlib.Omega.{arith}
use native.Mathlib.Decide.{ℕ_discrete}
use lib.Dec.{leb, eqb}
use lib.ListN.{length, length-set}
use borrow.Author.Tests.{le-leb, leb-true}
use lib.Seq.{get_or-set_same, get_or-set_other}
use Rattle.counts.proofs.Truth.{lt_or_le, never, and_true, and_l, or_l, or_r, or_cases}
use Rattle.counts.proofs.Below.{all_true}
use Rattle.counts.specs.declared.Handle.{Handle}
use Rattle.bank.specs.declared.Clip.{Clip}
use Rattle.bank.specs.declared.Bank.{Bank}
use Rattle.bank.specs.Slots.{used_at, free_slot, blank, empty_bank, clip_in, clip_of, live, loaded_in, retired_from}
use Rattle.bank.specs.Room.{apart, fits, nowhere, first_fit}
use Rattle.bank.specs.WellFormed.{rate_ok, extent_ok, pair_ok, bank_ok}
use Rattle.bank.proofs.Slots.{none_used, marked_here, marked_there, marked_below, unmarked_here, unmarked_there, free_slot_law, free_slot_free, free_slot_lowest, free_slot_full}
use Rattle.bank.proofs.Fit.{fit_lies, fit_apart, first_fits, first_lowest}
use Rattle.bank.proofs.Clauses.{Clauses, bank_clip, bank_pair, bank_is, pair_is, pair_sym, live_has}

-- the bank at opening is well formed
pub empty_ok : (room : ℕ) → bank_ok empty_bank room ≡ true
unfolding empty_bank
empty_ok room = bank_is empty_bank room (λ i l u. absurd (free i u)) (λ i j l q u v. absurd (free i u))
  where
    free : (i : ℕ) → used_at 0 i ≡ true → ⊥
    free i u = never (sym u ∙ none_used i)

-- the bank at opening has 32 places
pub empty_places : length empty_bank.clips ≡ 32
unfolding empty_bank
empty_places = refl

-- ---- load

-- a clip goes into a free slot, to a start where it fits, under a serial that was not given before
pub record Placed (b : Bank) (room slot : ℕ) (c : Clip) : Type 0 where
  pub places : length b.clips ≡ 32
  pub ok : bank_ok b room ≡ true
  pub among : slot < 32
  pub free : used_at b.used slot ≡ false
  pub new : b.last < c.serial
  pub own : Clauses room c.serial c
  pub fit : fits b room c.frames c.start ≡ true

-- what the load call has weighed once it loads the clip
pub record Weighed (b : Bank) (room : ℕ) (c : Clip) : Type 0 where
  pub places : length b.clips ≡ 32
  pub ok : bank_ok b room ≡ true
  pub bits : b.used < 2 ^ 32
  pub some : b.used ≡ 2 ^ 32 - 1 → ⊥
  pub serial : c.serial ≡ b.last + 1
  pub start : c.start ≡ first_fit b room c.frames
  pub found : c.start ≡ nowhere → ⊥
  pub long : 1 ≤ c.frames
  pub rated : rate_ok c.rate ≡ true
  pub lasts : extent_ok c.kind c.frames ≡ true

-- the load call places its clip in the lowest free slot
pub load_places : {b : Bank} {room : ℕ} {c : Clip} → Weighed b room c → Placed b room (free_slot b.used) c
load_places {b} {room} {c} w =
    let l = free_slot_law b.used w.bits w.some in
    let f = fit (first_fits b room c.frames) in
    record {
      places = w.places;
      ok = w.ok;
      among = l;
      free = free_slot_free b.used w.bits l;
      new = omega arith;
      own = record { long = w.long; rated = w.rated; lasts = w.lasts; lies = fit_lies b room c.frames c.start f; first = omega arith; given = omega arith };
      fit = f;
    }
  where
    fit : (first_fit b room c.frames ≡ nowhere) ⊎ (fits b room c.frames (first_fit b room c.frames) ≡ true) → fits b room c.frames c.start ≡ true
    fit (inl e) = absurd (w.found (w.start ∙ e))
    fit (inr e) = rw w.start e

module _ {b : Bank} {room slot : ℕ} {c : Clip} (p : Placed b room slot c) where
  -- after a load its slot is used
  pub used_here : used_at (loaded_in b slot c).used slot ≡ true
  unfolding loaded_in
  used_here = marked_here b.used slot p.free

  -- every other slot is used or free as it was
  pub used_there : (i : ℕ) → (i ≡ slot → ⊥) → used_at (loaded_in b slot c).used i ≡ used_at b.used i
  unfolding loaded_in
  used_there i n = marked_there b.used slot p.free i n

  -- after a load its slot has the clip
  pub clip_here : clip_in (loaded_in b slot c) slot ≡ c
  unfolding loaded_in
  clip_here = get_or-set_same b.clips slot c blank (omega arith)

  -- every other slot has what it had
  pub clip_there : (i : ℕ) → (i ≡ slot → ⊥) → clip_in (loaded_in b slot c) i ≡ clip_in b i
  unfolding loaded_in
  clip_there i n = get_or-set_other b.clips slot i c blank n

  -- there are 32 places still
  pub load_length : length (loaded_in b slot c).clips ≡ 32
  unfolding loaded_in
  load_length = length-set b.clips slot c ∙ p.places

  -- the number of used slots still has 32 bits
  pub load_bits : b.used < 2 ^ 32 → (loaded_in b slot c).used < 2 ^ 32
  unfolding loaded_in
  load_bits h = marked_below b.used slot p.free h p.among

  -- a used slot's clip, old or new
  clauses : (i : ℕ) → i < 32 → used_at (loaded_in b slot c).used i ≡ true → Clauses room (loaded_in b slot c).last (clip_in (loaded_in b slot c) i)
  unfolding loaded_in
  clauses i l u = go (ℕ_discrete i slot)
    where
      go : Dec (i ≡ slot) → Clauses room (loaded_in b slot c).last (clip_in (loaded_in b slot c) i)
      go (yes e) = rw (e, clip_here) p.own
      go (no n) =
          let f = bank_clip b room p.ok i l (sym (used_there i n) ∙ u) in
          rw (clip_there i n) (record { long = f.long; rated = f.rated; lasts = f.lasts; lies = f.lies; first = f.first; given = omega arith })

  -- an older clip beside the new one
  old_new : (i : ℕ) → i < 32 → used_at b.used i ≡ true → pair_ok (clip_in b i) c ≡ true
  old_new i l u =
      let f = bank_clip b room p.ok i l u in
      pair_is (clip_in b i) c (fit_apart b room c.frames c.start i p.fit l u) (λ e. omega arith)

  pairs : (i j : ℕ) → i < 32 → j < i → used_at (loaded_in b slot c).used i ≡ true → used_at (loaded_in b slot c).used j ≡ true
      → pair_ok (clip_in (loaded_in b slot c) i) (clip_in (loaded_in b slot c) j) ≡ true
  pairs i j l q u v = go (ℕ_discrete i slot) (ℕ_discrete j slot)
    where
      go : Dec (i ≡ slot) → Dec (j ≡ slot) → pair_ok (clip_in (loaded_in b slot c) i) (clip_in (loaded_in b slot c) j) ≡ true
      go (yes d) (yes e) = absurd (omega arith)
      go (yes d) (no m) = rw (d, clip_here, clip_there j m) (pair_sym (clip_in b j) c (old_new j (omega arith) (sym (used_there j m) ∙ v)))
      go (no n) (yes e) = rw (e, clip_here, clip_there i n) (old_new i l (sym (used_there i n) ∙ u))
      go (no n) (no m) =
          rw (clip_there i n, clip_there j m)
          (bank_pair b room p.ok i j l (omega arith) (λ e. omega arith) (sym (used_there i n) ∙ u) (sym (used_there j m) ∙ v))

  -- a load keeps the bank well formed
  pub load_keeps : bank_ok (loaded_in b slot c) room ≡ true
  load_keeps = bank_is (loaded_in b slot c) room clauses pairs

-- ---- retire

-- what has none of some frames has none of fewer
narrow : (c : Clip) (s m n : ℕ) → n ≤ m → apart c s m ≡ true → apart c s n ≡ true
unfolding apart
narrow c s m n l e = go (or_cases (leb (c.start + c.frames) s) (leb (s + m) c.start) e)
  where
    go : (leb (c.start + c.frames) s ≡ true) ⊎ (leb (s + m) c.start ≡ true) → leb (c.start + c.frames) s || leb (s + n) c.start ≡ true
    go (inl p) = or_l (leb (s + n) c.start) p
    go (inr p) = let q : s + m ≤ c.start = leb-true (s + m) c.start p in or_r (leb (c.start + c.frames) s) (le-leb (s + n) c.start (omega arith))

-- there are as many places as before
pub retire_length : (b : Bank) (h : Handle) → length (retired_from b h).clips ≡ length b.clips
unfolding retired_from
retire_length b h = refl

-- the number of used slots still has 32 bits
pub retire_bits : (b : Bank) (h : Handle) → b.used < 2 ^ 32 → (retired_from b h).used < 2 ^ 32
unfolding retired_from
retire_bits b h l = omega arith

module _ (b : Bank) (h : Handle) (e : live b h ≡ true) where
  -- once its clip is retired a slot is free
  pub retired_here : used_at (retired_from b h).used h.slot ≡ false
  unfolding retired_from
  retired_here = unmarked_here b.used h.slot (live_has b h e).used

  -- every other slot is used or free as it was
  pub retired_there : (i : ℕ) → (i ≡ h.slot → ⊥) → used_at (retired_from b h).used i ≡ used_at b.used i
  unfolding retired_from
  retired_there i n = unmarked_there b.used h.slot (live_has b h e).used i n

  before : (i : ℕ) → used_at (retired_from b h).used i ≡ true → used_at b.used i ≡ true
  before i u = go (ℕ_discrete i h.slot)
    where
      go : Dec (i ≡ h.slot) → used_at b.used i ≡ true
      go (yes q) = absurd (never (sym (rw q at u) ∙ retired_here))
      go (no n) = sym (retired_there i n) ∙ u

  -- a retirement keeps the bank well formed
  pub retire_keeps : (room : ℕ) → bank_ok b room ≡ true → bank_ok (retired_from b h) room ≡ true
  unfolding retired_from
  retire_keeps room ok =
      bank_is (retired_from b h) room (λ i l u. bank_clip b room ok i l (before i u))
      (λ i j l q u v. bank_pair b room ok i j l (omega arith) (λ x. omega arith) (before i u) (before j v))

  -- so not all slots are used
  pub retired_slot : b.used < 2 ^ 32 → (retired_from b h).used ≡ 2 ^ 32 - 1 → ⊥
  retired_slot l q =
      let full : free_slot (retired_from b h).used ≡ 32 = ap free_slot q ∙ free_slot_full in
      never (sym (free_slot_lowest (retired_from b h).used (retire_bits b h l) h.slot (omega (arith, full, (live_has b h e).among))) ∙ retired_here)

  -- ---- retired room is used again

  module _ (room : ℕ) (ok : bank_ok b room ≡ true) where
    -- a clip that stays has no frame of the one that went
    stays_apart : (i : ℕ) → i < 32 → used_at (retired_from b h).used i ≡ true → apart (clip_in b i) (clip_of b h).start (clip_of b h).frames ≡ true
    unfolding pair_ok
    stays_apart i l u =
        let a = live_has b h e in
        and_l (apart (clip_in b i) (clip_of b h).start (clip_of b h).frames) (not (eqb (clip_in b i).serial (clip_of b h).serial))
        (bank_pair b room ok i h.slot l a.among (λ (q : i ≡ h.slot). never (sym (rw q at u) ∙ retired_here)) (before i u) a.used)

    -- so what has at most its frames fits where it lay,
    pub room_fits : (n : ℕ) → n ≤ (clip_of b h).frames → fits (retired_from b h) room n (clip_of b h).start ≡ true
    unfolding fits retired_from
    room_fits n m =
        let a = live_has b h e in
        let c = bank_clip b room ok h.slot a.among a.used in
        and_true (le-leb ((clip_of b h).start + n) room (omega (arith, c.lies))) (all_true _ 32 (λ i l. go i l (used_at (retired_from b h).used i) refl))
      where
        go : (i : ℕ) → i < 32 → (u : Bool) → used_at (retired_from b h).used i ≡ u → cond u (apart (clip_in b i) (clip_of b h).start n) true ≡ true
        go i l true used = narrow (clip_in b i) (clip_of b h).start (clip_of b h).frames n m (stays_apart i l used)
        go i l false free = refl

    -- and the first fit comes no later
    pub room_again : (n : ℕ) → 1 ≤ n → n ≤ (clip_of b h).frames → first_fit (retired_from b h) room n ≤ (clip_of b h).start
    room_again n some m = go (lt_or_le (clip_of b h).start (first_fit (retired_from b h) room n))
      where
        go : ((clip_of b h).start < first_fit (retired_from b h) room n) ⊎ (first_fit (retired_from b h) room n ≤ (clip_of b h).start) → first_fit (retired_from b h) room n ≤ (clip_of b h).start
        go (inl l) = absurd (never (sym (room_fits n m) ∙ first_lowest (retired_from b h) room n some (clip_of b h).start l))
        go (inr l) = l

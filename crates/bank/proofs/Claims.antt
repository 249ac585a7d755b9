-- What a command or a voice claims of the bank: what a claim that is in order says, and that loads and retirements of other clips keep it.
-- Assumes nothing.
use mathlib.Core.Path.{◌≡◌, refl, sym, ap, ◌∙◌}
use mathlib.Core.Bool.{Bool, true, false, not, ◌||◌, cond}
use Prim.Native.Nat.{ℕ, ◌≤◌, ◌^◌}
use borrow.Author.Tests.{eqb-true, eq-eqb, not-true, not-false}
use lib.Dec.{eqb}
use Rattle.counts.specs.Below.{within}
use Rattle.counts.specs.Handles.{same_handle, claims}
use Rattle.counts.specs.declared.Handle.{Handle}
use Rattle.counts.specs.declared.Claim.{Claim}
use Rattle.counts.specs.declared.SongFrame.{SongFrame}
use Rattle.counts.proofs.Truth.{never, or_none}
use Rattle.counts.proofs.Below.{within_low, within_high}
use Rattle.bank.specs.declared.Kind.{Kind}
use Rattle.bank.specs.declared.Clip.{Clip}
use Rattle.bank.specs.declared.Bank.{Bank}
use Rattle.bank.specs.declared.Stands.{Stands}
use Rattle.bank.specs.Slots.{clip_of, live, extent_of, clip_stands, stands_for, stands_in, is_stale, stands_song, stands_stinger, wrong_kind, wrong_rate, claim_ok, loaded_in, retired_from}
use Rattle.bank.specs.WellFormed.{extent_ok, bank_ok}
use Rattle.bank.proofs.Kept.{Placed}
use Rattle.bank.proofs.Handles.{live_clip, load_keeps_live, load_keeps_clip, retire_live, retire_clip}

-- ---- what a claim says

-- the handle is live, and stands for a song of the rate
pub record SongHeld (b : Bank) (rate : ℕ) (h : Handle) : Type 0 where
  pub alive : live b h ≡ true
  pub song : (n : SongFrame) × ((clip_of b h).kind ≡ Kind.Song n)
  pub rated : (clip_of b h).rate ≡ rate

-- the handle is live, and stands for a stinger of the rate
pub record StingerHeld (b : Bank) (rate : ℕ) (h : Handle) : Type 0 where
  pub alive : live b h ≡ true
  pub stinger : (clip_of b h).kind ≡ Kind.Stinger
  pub rated : (clip_of b h).rate ≡ rate

-- where nothing is wrong with a claim its handle is live, its clip of the right kind and rate
right : (rate : ℕ) (q : Claim) (l : Bool) (k : Kind) (r : ℕ) → let x : Stands = cond l (clip_stands k r) Stands.Stale in not (is_stale x || wrong_kind q x || wrong_rate rate x) ≡ true
    → (l ≡ true) × (wrong_kind q (clip_stands k r) ≡ false) × (r ≡ rate)
right rate q true (Kind.Song n) r e = let t = or_none (wrong_kind q (Stands.Song r)) (not (eqb r rate)) (not-true _ e) in (refl, t.0, eqb-true r rate (not-false (eqb r rate) t.1))
right rate q true Kind.Stinger r e = let t = or_none (wrong_kind q (Stands.Stinger r)) (not (eqb r rate)) (not-true _ e) in (refl, t.0, eqb-true r rate (not-false (eqb r rate) t.1))
right rate q false k r e = absurd (never (sym e))

is_song : (k : Kind) (r : ℕ) → stands_stinger (clip_stands k r) ≡ false → (n : SongFrame) × (k ≡ Kind.Song n)
is_song (Kind.Song n) r e = (n, refl)
is_song Kind.Stinger r e = absurd (never e)

is_stinger_law : (k : Kind) (r : ℕ) → stands_song (clip_stands k r) ≡ false → k ≡ Kind.Stinger
is_stinger_law (Kind.Song n) r e = absurd (never e)
is_stinger_law Kind.Stinger r e = refl

module _ (b : Bank) (rate : ℕ) (h : Handle) where
  -- a song's claim that is in order says so
  pub song_has : claim_ok b rate (Claim.Song h) ≡ true → SongHeld b rate h
  unfolding claim_ok stands_for
  song_has e =
      let t = right rate (Claim.Song h) (live b h) (clip_of b h).kind (clip_of b h).rate e in
      record { alive = t.0; song = is_song (clip_of b h).kind (clip_of b h).rate t.1; rated = t.2 }

  -- and is in order if that holds
  pub song_is : SongHeld b rate h → claim_ok b rate (Claim.Song h) ≡ true
  unfolding claim_ok stands_for
  song_is s = simp (s.alive, s.song.1, s.rated, eq-eqb rate rate refl)

  -- a stinger's claim that is in order says so
  pub stinger_has : claim_ok b rate (Claim.Stinger h) ≡ true → StingerHeld b rate h
  unfolding claim_ok stands_for
  stinger_has e =
      let t = right rate (Claim.Stinger h) (live b h) (clip_of b h).kind (clip_of b h).rate e in
      record { alive = t.0; stinger = is_stinger_law (clip_of b h).kind (clip_of b h).rate t.1; rated = t.2 }

  -- and is in order if that holds
  pub stinger_is : StingerHeld b rate h → claim_ok b rate (Claim.Stinger h) ≡ true
  unfolding claim_ok stands_for
  stinger_is s = simp (s.alive, s.stinger, s.rated, eq-eqb rate rate refl)

-- a song that is claimed has a length from its frame count to 2^40
pub song_length : (b : Bank) (room rate : ℕ) (h : Handle) → bank_ok b room ≡ true → SongHeld b rate h
    → ((clip_of b h).frames ≤ extent_of (clip_of b h).kind) × (extent_of (clip_of b h).kind ≤ 2 ^ 40)
song_length b room rate h ok s = go (clip_of b h).kind s.song.1 (live_clip b room ok h s.alive).lasts
  where
    go : (k : Kind) → k ≡ Kind.Song s.song.0 → extent_ok k (clip_of b h).frames ≡ true → ((clip_of b h).frames ≤ extent_of k) × (extent_of k ≤ 2 ^ 40)
    go k p e =
        let w : within (clip_of b h).frames (2 ^ 40) s.song.0.0 ≡ true = rw p at e in
        rw p (within_low (clip_of b h).frames (2 ^ 40) s.song.0.0 w, within_high (clip_of b h).frames (2 ^ 40) s.song.0.0 w)

-- ---- claims kept

-- a handle that is live alike, with the same clip, stands for the same
stands_same : (b d : Bank) (h : Handle) → live d h ≡ live b h → clip_of d h ≡ clip_of b h → stands_for d h ≡ stands_for b h
unfolding stands_for
stands_same b d h e f = rw (e, f)

-- where a claim stands for the same it is in order alike
claim_same : (b d : Bank) (rate : ℕ) (q : Claim) → stands_in d q ≡ stands_in b q → claim_ok d rate q ≡ claim_ok b rate q
unfolding claim_ok
claim_same b d rate q e = ap (λ (x : Stands). not (is_stale x || wrong_kind q x || wrong_rate rate x)) e

module _ {b : Bank} {room slot : ℕ} {c : Clip} (p : Placed b room slot c) where
  -- a live handle stands for what it stood for
  pub load_stands : (h : Handle) → live b h ≡ true → stands_for (loaded_in b slot c) h ≡ stands_for b h
  load_stands h e = stands_same b (loaded_in b slot c) h (load_keeps_live p h e ∙ sym e) (load_keeps_clip p h e)

  -- a load keeps every claim that is in order
  pub load_claim : (rate : ℕ) (q : Claim) → claim_ok b rate q ≡ true → claim_ok (loaded_in b slot c) rate q ≡ true
  load_claim rate q e = claim_same b (loaded_in b slot c) rate q (go q e) ∙ e
    where
      go : (q : Claim) → claim_ok b rate q ≡ true → stands_in (loaded_in b slot c) q ≡ stands_in b q
      go Claim.Nothing e = refl
      go (Claim.Song h) e = load_stands h (song_has b rate h e).alive
      go (Claim.Stinger h) e = load_stands h (stinger_has b rate h e).alive

module _ (b : Bank) (h : Handle) (e : live b h ≡ true) where
  -- every other handle stands for what it stood for
  pub retire_stands : (k : Handle) → same_handle h k ≡ false → stands_for (retired_from b h) k ≡ stands_for b k
  retire_stands k n = stands_same b (retired_from b h) k (retire_live b h e k n) (retire_clip b h k)

  -- a retirement keeps every claim that does not hold the handle
  pub retire_claim : (rate : ℕ) (q : Claim) → claims h q ≡ false → claim_ok (retired_from b h) rate q ≡ claim_ok b rate q
  retire_claim rate q n = claim_same b (retired_from b h) rate q (go q n)
    where
      go : (q : Claim) → claims h q ≡ false → stands_in (retired_from b h) q ≡ stands_in b q
      go Claim.Nothing n = refl
      go (Claim.Song k) n = retire_stands k n
      go (Claim.Stinger k) n = retire_stands k n

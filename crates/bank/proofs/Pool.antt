-- What a load writes in the pool and what it leaves: every clip but the new one sounds as it did, and so does each when one is retired. Assumes nothing.
use mathlib.Core.Path.{◌≡◌, refl, sym, ap, ◌∙◌}
use mathlib.Core.Bool.{true}
use mathlib.Core.Logic.{◌⊎◌, inl, inr}
use mathlib.Core.List.{List, ◌++◌}
use Prim.Native.Nat.{ℕ, ◌+◌, ◌-◌, ◌*◌, ◌≤◌}
use native.Mathlib.Omega.{arith}
use borrow.Author.Tests.{eqb-true}
use lib.Ieee.{Float}
use lib.ListN.{length, length-append, length-drop, take, drop}
use lib.Seq.{length-take-le, take_at, drop_at, take-append_seam, drop-append_seam, take-take, take-add, drop-drop}
use Rattle.counts.specs.declared.Handle.{Handle}
use Rattle.bank.specs.declared.Clip.{Clip}
use Rattle.bank.specs.declared.Bank.{Bank}
use Rattle.bank.specs.Slots.{clip_of, live, extent_of, handle_of, loaded_in, retired_from}
use Rattle.bank.specs.Sample.{is_pool}
use Rattle.bank.specs.Room.{pasted}
use Rattle.bank.specs.Recording.{view_of}
use Rattle.bank.specs.WellFormed.{bank_ok}
use Rattle.bank.proofs.Fit.{fit_apart}
use Rattle.bank.proofs.Clauses.{apart_has, live_has}
use Rattle.bank.proofs.Kept.{Placed, clip_here}
use Rattle.bank.proofs.Handles.{live_clip, load_keeps_clip}

-- ---- samples from a place on

module _ {ℓ} {A : Type ℓ} where
  -- a part of a list stands at the end of the list's front
  pub part_of_front : (l : List A) (from n : ℕ) → from ≤ length l → take n (drop from l) ≡ drop from (take (from + n) l)
  part_of_front l from n h = sym (rw (take-add from n l) (drop_at (take from l) (take n (drop from l)) from (length-take-le from l h)))

  module _ (pool : List A) (at : ℕ) (samples : List A) (h : at + length samples ≤ length pool) where
    front : length (take at pool) ≡ at
    front = length-take-le at pool (omega arith)

    from_on : drop at (pasted pool at samples) ≡ samples ++ drop (at + length samples) pool
    unfolding pasted
    from_on = drop_at (take at pool) (samples ++ drop (at + length samples) pool) at front

    -- the pool is as long as it was
    pub pasted_length : length (pasted pool at samples) ≡ length pool
    unfolding pasted
    pasted_length = simp (length-append, length-drop, front) (omega arith)

    -- the samples stand from their place on
    pub pasted_there : take (length samples) (drop at (pasted pool at samples)) ≡ samples
    pasted_there = rw from_on (take-append_seam samples (drop (at + length samples) pool))

    -- every sample before is as it was
    pub pasted_before : take at (pasted pool at samples) ≡ take at pool
    unfolding pasted
    pasted_before = take_at (take at pool) (samples ++ drop (at + length samples) pool) at front

    -- and every sample after
    pub pasted_after : drop (at + length samples) (pasted pool at samples) ≡ drop (at + length samples) pool
    pasted_after = sym (drop-drop (length samples) at (pasted pool at samples)) ∙ rw from_on (drop-append_seam samples (drop (at + length samples) pool))

    -- so is every part that meets none of them
    pub pasted_apart : (from n : ℕ) → (from + n ≤ at) ⊎ (at + length samples ≤ from) → take n (drop from (pasted pool at samples)) ≡ take n (drop from pool)
    pasted_apart from n (inl l) =
        let k : from ≤ length (pasted pool at samples) = rw pasted_length (omega arith) in
        part_of_front (pasted pool at samples) from n k
        ∙ ap (drop from) (sym (take-take (from + n) at (pasted pool at samples) l) ∙ rw pasted_before (take-take (from + n) at pool l))
        ∙ sym (part_of_front pool from n (omega arith))
    pasted_apart from n (inr l) =
        let end : ℕ = at + length samples in
        let m : end + (from - end) ≡ from = omega arith in
        ap (take n) (rw (sym m) (sym (drop-drop (from - end) end (pasted pool at samples)) ∙ rw pasted_after (drop-drop (from - end) end pool)))

-- ---- clips in the pool

-- a live handle's clip lies in the pool
pub live_lies : (b : Bank) (room : ℕ) → bank_ok b room ≡ true → (pool : List Float) → is_pool pool room ≡ true → (h : Handle) → live b h ≡ true
    → ((clip_of b h).start + (clip_of b h).frames) * 2 ≤ length pool
live_lies b room ok pool q h e = let f = live_clip b room ok h e in omega (arith, eqb-true (length pool) (room * 2) q)

module _ {b : Bank} {room slot : ℕ} {c : Clip} (p : Placed b room slot c) (pool samples : List Float) (q : is_pool pool room ≡ true) (n : c.frames * 2 ≡ length samples) where
  room_there : c.start * 2 + length samples ≤ length pool
  room_there = omega (arith, eqb-true (length pool) (room * 2) q)

  -- the pool has its length still
  pub load_pool : is_pool (pasted pool (c.start * 2) samples) room ≡ true
  load_pool = rw (pasted_length pool (c.start * 2) samples room_there) q

  -- the new handle stands for the samples
  pub new_view : view_of (pasted pool (c.start * 2) samples) (loaded_in b slot c) (handle_of slot c) ≡ record { frames = c.frames; extent = extent_of c.kind; samples = samples }
  unfolding view_of
  new_view = rw (clip_here p, n, pasted_there pool (c.start * 2) samples room_there)

  -- every live handle for the clip that it stood for, sample by sample
  pub load_view : (h : Handle) → live b h ≡ true → view_of (pasted pool (c.start * 2) samples) (loaded_in b slot c) h ≡ view_of pool b h
  unfolding view_of
  load_view h e =
      let a = live_has b h e in
      let d : Clip = clip_of b h in
      let apart = apart_has d c.start c.frames (fit_apart b room c.frames c.start h.slot p.fit a.among a.used) in
      rw (load_keeps_clip p h e, pasted_apart pool (c.start * 2) samples room_there (d.start * 2) (d.frames * 2) (twice d.start d.frames apart))
    where
      twice : (s m : ℕ) → (s + m ≤ c.start) ⊎ (c.start + c.frames ≤ s) → (s * 2 + m * 2 ≤ c.start * 2) ⊎ (c.start * 2 + length samples ≤ s * 2)
      twice s m (inl l) = inl (omega arith)
      twice s m (inr l) = inr (omega arith)

-- when a clip is retired every handle stands for what it did
pub retire_view : (pool : List Float) (b : Bank) (h : Handle) → view_of pool (retired_from b h) ≡ view_of pool b
unfolding view_of retired_from
retire_view pool b h = refl

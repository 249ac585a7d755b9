-- In house mode a frame keeps cursor and position together, and so does a seek, past the length too: a clip is no longer than its song's length.
-- Assumes nothing.
use mathlib.Core.Path.{◌≡◌, refl}
use mathlib.Core.Bool.{Bool, true, false, cond}
use mathlib.Core.Logic.{◌⊎◌, inl, inr}
use Prim.Native.Nat.{ℕ, ◌+◌, ◌≤◌, ◌<◌, min}
use native.Mathlib.Omega.{arith}
use borrow.Author.Tests.{leb-true, ltb-true, ltb-false}
use lib.Dec.{leb, ltb}
use Rattle.counts.specs.declared.SongFrame.{SongFrame}
use Rattle.std.specs.Prelude.{Option, Some, None}
use Rattle.counts.proofs.Truth.{lt_or_le, cond_both}
use Rattle.transport.specs.declared.TransportState.{TransportState}
use Rattle.transport.specs.declared.TransportState.TheVariants.{Stopped}
use Rattle.transport.specs.declared.LoopRange.{LoopRange}
use Rattle.transport.specs.declared.Transport.{Transport}
use Rattle.transport.specs.Transport.{is_playing, transport, moved_to, wrap_to, wrap_in, wrap_of, cursor_on, land_in, advance_of, step_of, transport_fits, seek_of}
use Rattle.transport.specs.Together.{Together}
use Rattle.transport.proofs.Fits.{placed, wrap_fits}

-- ---- rule a leaves both, or takes both to one place

wrap_in_law : (frames : ℕ) (t : Transport) (l : Option LoopRange) → Together frames t → Together frames (wrap_in true l t)
wrap_in_law frames t None h = h
wrap_in_law frames t (Some l) h = cond_both (Together frames) (leb l.end.0 t.position.0) (wrap_to true l.start.0 l.end.0 t) t (inl refl) h

pub wrap_together : (frames : ℕ) (t : Transport) → Together frames t → Together frames (wrap_of true t)
unfolding wrap_of
wrap_together frames t h = cond_both (Together frames) (is_playing t.state) (wrap_in true t.looped t) t (wrap_in_law frames t t.looped h) h

-- a clip of so many frames, in a song of no shorter length
module _ (frames extent : ℕ) (short : frames ≤ extent) where
  -- cursor c and position p, whatever else
  abbrev At : ℕ → ℕ → Type 0
  At c p = Together frames (transport Stopped p c None 0)

  -- ---- a seek puts both at one place; past the length it leaves the position at the length and the cursor past it, where the clip has ended

  pub seek_together : (f : SongFrame) (t : Transport) → Together frames (seek_of extent f t)
  seek_together f t = go (lt_or_le extent f.0)
    where
      go : (extent < f.0) ⊎ (f.0 ≤ extent) → At f.0 (min f.0 extent)
      go (inl l) = inr (omega arith, omega arith)
      go (inr l) = inl (omega arith)

  -- ---- rule b: inside the clip both move on by one; at its end and past it the cursor stays

  abbrev On : ℕ → ℕ → Type 0
  On c d = ((c < frames) × (d ≡ c + 1)) ⊎ ((frames ≤ c) × (d ≡ c))

  on : (c : ℕ) → On c (cursor_on frames c)
  unfolding cursor_on
  on c = go (ltb c frames) refl
    where
      go : (b : Bool) → ltb c frames ≡ b → On c (cond b (c + 1) c)
      go true e = inl (ltb-true c frames e, refl)
      go false e = inr (ltb-false c frames e, refl)

  rises : (c d p : ℕ) → On c d → At c p → At d (p + 1)
  rises c d p (inl o) (inl h) = inl (omega (arith, o.1))
  rises c d p (inl o) (inr h) = absurd (omega (arith, o.0, h.0))
  rises c d p (inr o) (inl h) = inr (omega (arith, o.0, o.1), omega (arith, o.0))
  rises c d p (inr o) (inr h) = inr (omega (arith, o.0, o.1), omega (arith, h.1))

  ends : (c d p : ℕ) → On c d → At c p → p ≤ extent → extent ≤ p + 1 → At d extent
  ends c d p (inl o) (inl h) l m = inl (omega (arith, o.0, o.1))
  ends c d p (inl o) (inr h) l m = absurd (omega (arith, o.0, h.0))
  ends c d p (inr o) h l m = inr (omega (arith, o.0, o.1), short)

  land_together : (c d p n : ℕ) (s : TransportState) (l : Option LoopRange) → On c d → At c p → p ≤ extent → Together frames (land_in extent l (transport s (p + 1) d l n))
  land_together c d p n s None o h low = go (leb extent (p + 1)) refl
    where
      go : (b : Bool) → leb extent (p + 1) ≡ b → Together frames (cond b (transport Stopped extent d None n) (transport s (p + 1) d None n))
      go true e = ends c d p o h low (leb-true extent (p + 1) e)
      go false e = rises c d p o h
  land_together c d p n s (Some l) o h low =
      cond_both (Together frames) (leb l.end.0 (p + 1)) (transport s l.start.0 l.start.0 (Some l) n) (transport s (p + 1) d (Some l) n) (inl refl) (rises c d p o h)

  advance_together : (t : Transport) → t.position.0 ≤ extent → Together frames t → Together frames (advance_of frames extent t)
  unfolding advance_of
  advance_together t low h =
      let d : ℕ = cursor_on frames t.cursor.0 in
      cond_both (Together frames) (is_playing t.state) (land_in extent t.looped (moved_to t (t.position.0 + 1) d)) t
      (land_together t.cursor.0 d t.position.0 t.laps t.state t.looped (on t.cursor.0) h low) h

  -- so a frame keeps them together
  pub step_together : (t : Transport) → transport_fits extent t ≡ true → Together frames t → Together frames (step_of true frames extent t).transport
  unfolding step_of
  step_together t fits h = advance_together (wrap_of true t) (placed extent (wrap_of true t) (wrap_fits true extent t fits)) (wrap_together frames t h)

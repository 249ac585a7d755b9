-- Frames of a core, so many and then so many. Assumes nothing.
use mathlib.Core.Path.{◌≡◌, refl, ap}
use mathlib.Core.Bool.{true}
use mathlib.Core.List.{List}
use Prim.Native.Nat.{ℕ, zero, suc, ◌+◌, ◌*◌, ◌/◌, ◌%◌, ◌≤◌}
use native.Mathlib.Nat.{add-zero}
use native.Mathlib.Numerals.{add-one}
use native.Mathlib.Omega.{arith}
use lib.ListN.{length}
use lib.Ieee.{Float}
use Rattle.transport.specs.Transport.{transport_fits}
use Rattle.transport.proofs.Fits.{step_fits}
use Rattle.transport.proofs.Passes.{few}
use Rattle.bank.specs.declared.Clip.{Clip}
use Rattle.bank.specs.Recording.{Recording, recording_of}
use Rattle.stage.specs.declared.Settings.{Settings}
use Rattle.stage.specs.Mode.{is_house}
use Rattle.stage.specs.Playhead.{moved_of}
use Rattle.runs.specs.declared.Core.{Core}
use Rattle.runs.specs.Core.{core_on, core_passes, core_after, passes_in, core_adds, CoreReady}

module _ (x : Settings) (s t : Recording) where
  -- one frame more
  pub after_next : (n : ℕ) (c : Core) → core_on x s t (core_after x s t n c) ≡ core_after x s t (n + 1) c
  unfolding core_after
  after_next n c = rw add-one refl

  pub passes_next : (n : ℕ) (c : Core) → passes_in x s t n c ≡ 0 → core_passes x s t (core_after x s t n c) ≡ passes_in x s t (n + 1) c
  unfolding passes_in
  passes_next n c e = rw (add-one, e) (omega arith)

  -- so many frames, and then so many
  pub after_add : (a b : ℕ) (c : Core) → core_after x s t (a + b) c ≡ core_after x s t b (core_after x s t a c)
  unfolding core_after
  after_add a zero c = rw add-zero refl
  after_add a (suc b) c = let e : a + suc b ≡ suc (a + b) = omega arith in rw e (ap (core_on x s t) (after_add a b c))

  pub adds_later : (a : ℕ) (c : Core) (k : ℕ) (y : Float) → core_adds x s t c (a * 2 + k) y ≡ core_adds x s t (core_after x s t a c) k y
  adds_later a c k y =
      let e : (a * 2 + k) / 2 ≡ a + k / 2 = omega arith in
      let r : (a * 2 + k) % 2 ≡ k % 2 = omega arith in
      rw (e, r, after_add a (k / 2) c) refl

  pub passes_add : (a b : ℕ) (c : Core) → passes_in x s t (a + b) c ≡ passes_in x s t a c + passes_in x s t b (core_after x s t a c)
  unfolding core_after passes_in
  passes_add a zero c = rw (add-zero a, add-zero (passes_in x s t a c)) refl
  passes_add a (suc b) c =
      let e : a + suc b ≡ suc (a + b) = omega arith in
      rw (e, after_add a b c) (omega (arith, passes_add a b c))

  -- at most two a frame
  pub passes_few : (n : ℕ) (c : Core) → passes_in x s t n c ≤ n * 2
  unfolding passes_in moved_of
  passes_few zero c = omega arith
  passes_few (suc n) c = omega (arith, passes_few n c, few (is_house x) s.frames s.extent (core_after x s t n c).playhead.transport)

  -- a frame keeps the song
  pub after_song : (n : ℕ) (c : Core) → (core_after x s t n c).playhead.song ≡ c.playhead.song
  unfolding core_after core_on moved_of
  after_song zero c = refl
  after_song (suc n) c = after_song n c

  after_fits : (n : ℕ) (c : Core) → transport_fits s.extent c.playhead.transport ≡ true → transport_fits s.extent (core_after x s t n c).playhead.transport ≡ true
  unfolding core_after core_on moved_of
  after_fits zero c h = h
  after_fits (suc n) c h = step_fits (is_house x) s.frames s.extent (core_after x s t n c).playhead.transport (after_fits n c h)

-- a core stays ready
pub after_ready : (x : Settings) (pool : List Float) (song clip : Clip) (c : Core) (n : ℕ) → CoreReady (length pool) song clip c
    → CoreReady (length pool) song clip (core_after x (recording_of pool song) (recording_of pool clip) n c)
after_ready x pool song clip c n h =
    record { song = h.song; tail = h.tail; fits = after_fits x (recording_of pool song) (recording_of pool clip) n c h.fits }

-- Every command and every frame keeps position <= length and a loop as Loop allows. Assumes nothing.
use mathlib.Core.Path.{◌≡◌, refl}
use mathlib.Core.Bool.{Bool, true, false}
use mathlib.Core.Logic.{◌⊎◌, inl, inr}
use Prim.Native.Nat.{ℕ, ◌+◌, ◌≤◌, min}
use native.Mathlib.Nat.{min-le_right}
use native.Mathlib.Omega.{arith}
use borrow.Author.Tests.{le-leb, leb-true, leb-false}
use lib.Dec.{leb}
use Rattle.std.specs.Prelude.{Option, Some, None}
use Rattle.counts.specs.declared.SongFrame.{SongFrame}
use Rattle.counts.proofs.Truth.{two_ways, and_true, and_l, and_r, cond_both}
use Rattle.transport.specs.declared.TransportState.{TransportState}
use Rattle.transport.specs.declared.LoopRange.{LoopRange}
use Rattle.transport.specs.declared.Transport.{Transport}
use Rattle.transport.specs.Transport.{is_playing, transport, moved_to, taken_in, wrap_to, wrap_in, wrap_of, cursor_on, land_in, advance_of, step_of, loop_fits, transport_fits, state_of, stop_of, seek_of, loop_of, clear_loop_of}
use Rattle.transport.proofs.Within.{start_first, end_fits, lands}

-- a song at 0 without a loop fits any length
pub fresh_fits : (extent : ℕ) (s : TransportState) → transport_fits extent (transport s 0 0 None 0) ≡ true
fresh_fits extent s = and_true (le-leb 0 extent (omega arith)) refl

module _ (extent : ℕ) (t : Transport) (h : transport_fits extent t ≡ true) where
  -- position <= length
  pub placed : t.position.0 ≤ extent
  placed = leb-true t.position.0 extent (and_l (leb t.position.0 extent) (loop_fits extent t.looped) h)

  -- the loop is as Loop allows
  pub loops : loop_fits extent t.looped ≡ true
  loops = and_r (leb t.position.0 extent) (loop_fits extent t.looped) h

  -- Play and Pause keep it
  pub state_fits : (s : TransportState) → transport_fits extent (state_of s t) ≡ true
  state_fits s = h

  -- Stop keeps it
  pub stop_fits : transport_fits extent (stop_of t) ≡ true
  stop_fits = and_true (le-leb 0 extent (omega arith)) loops

  -- Seek and Transition keep it
  pub seek_fits : (f : SongFrame) → transport_fits extent (seek_of extent f t) ≡ true
  seek_fits f = and_true (le-leb (min f.0 extent) extent (min-le_right f.0 extent)) loops

  -- ClearLoop keeps it
  pub clear_fits : transport_fits extent (clear_loop_of t) ≡ true
  clear_fits = and_true (le-leb t.position.0 extent placed) refl

  -- Loop keeps it
  pub loop_fits_law : (l : Option LoopRange) → transport_fits extent (loop_of extent l t) ≡ true
  loop_fits_law l = go (two_ways (loop_fits extent l))
    where
      go : (loop_fits extent l ≡ true) ⊎ (loop_fits extent l ≡ false) → transport_fits extent (loop_of extent l t) ≡ true
      go (inl e) = rw e (and_true (le-leb t.position.0 extent placed) e)
      go (inr e) = rw e h

-- rule a keeps it, over the loop
wrap_in_law : (house : Bool) (extent : ℕ) (t : Transport) (l : Option LoopRange) → t.looped ≡ l → transport_fits extent t ≡ true → transport_fits extent (wrap_in house l t) ≡ true
wrap_in_law house extent t None e h = h
wrap_in_law house extent t (Some l) q h =
    let fits : loop_fits extent (Some l) ≡ true = rw q at (loops extent t h) in
    let at : ℕ = taken_in l.start.0 l.end.0 t.position.0 in
    cond_both (λ (x : Transport). transport_fits extent x ≡ true) (leb l.end.0 t.position.0) (wrap_to house l.start.0 l.end.0 t) t
    (and_true (le-leb at extent (omega (arith, end_fits extent l fits, lands l.start.0 l.end.0 t.position.0 (start_first extent l fits)))) (loops extent t h))
    h

-- rule a keeps it
pub wrap_fits : (house : Bool) (extent : ℕ) (t : Transport) → transport_fits extent t ≡ true → transport_fits extent (wrap_of house t) ≡ true
unfolding wrap_of
wrap_fits house extent t h =
    cond_both (λ (x : Transport). transport_fits extent x ≡ true) (is_playing t.state) (wrap_in house t.looped t) t (wrap_in_law house extent t t.looped refl h) h

-- rule b keeps it, over the loop and where the position has risen to p
land_in_law : (extent p c n : ℕ) (s : TransportState) (l : Option LoopRange) → loop_fits extent l ≡ true
    → transport_fits extent (land_in extent l (transport s p c l n)) ≡ true
land_in_law extent p c n s None h = go (two_ways (leb extent p))
  where
    go : (leb extent p ≡ true) ⊎ (leb extent p ≡ false) → transport_fits extent (land_in extent None (transport s p c None n)) ≡ true
    go (inl e) = rw e (and_true (le-leb extent extent (omega arith)) refl)
    go (inr e) = rw e (and_true (le-leb p extent (omega (arith, leb-false extent p e))) refl)
land_in_law extent p c n s (Some l) h = go (two_ways (leb l.end.0 p))
  where
    go : (leb l.end.0 p ≡ true) ⊎ (leb l.end.0 p ≡ false) → transport_fits extent (land_in extent (Some l) (transport s p c (Some l) n)) ≡ true
    go (inl e) = rw e (and_true (le-leb l.start.0 extent (omega (arith, start_first extent l h, end_fits extent l h))) h)
    go (inr e) = rw e (and_true (le-leb p extent (omega (arith, leb-false l.end.0 p e, end_fits extent l h))) h)

-- rule b keeps it
pub advance_fits : (frames extent : ℕ) (t : Transport) → transport_fits extent t ≡ true → transport_fits extent (advance_of frames extent t) ≡ true
unfolding advance_of
advance_fits frames extent t h =
    let c : ℕ = cursor_on frames t.cursor.0 in
    cond_both (λ (x : Transport). transport_fits extent x ≡ true) (is_playing t.state)
    (land_in extent t.looped (moved_to t (t.position.0 + 1) c)) t
    (land_in_law extent (t.position.0 + 1) c t.laps t.state t.looped (loops extent t h)) h

-- a frame keeps it
pub step_fits : (house : Bool) (frames extent : ℕ) (t : Transport) → transport_fits extent t ≡ true → transport_fits extent (step_of house frames extent t).transport ≡ true
unfolding step_of
step_fits house frames extent t h = advance_fits frames extent (wrap_of house t) (wrap_fits house extent t h)

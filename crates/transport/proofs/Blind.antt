-- A frame moves state, position, loop and laps the same wherever the cursor is, in either mode, and however many frames the clip has. Assumes nothing.
use mathlib.Core.Path.{◌≡◌, refl}
use mathlib.Core.Bool.{Bool, true, false}
use mathlib.Core.Logic.{⊎_elim}
use Prim.Native.Nat.{ℕ, ◌+◌}
use lib.Dec.{leb}
use Rattle.std.specs.Prelude.{Option, Some, None}
use Rattle.counts.proofs.Truth.{two_ways}
use Rattle.transport.specs.declared.TransportState.{TransportState}
use Rattle.transport.specs.declared.TransportState.TheVariants.{Stopped, Playing, Paused}
use Rattle.transport.specs.declared.LoopRange.{LoopRange}
use Rattle.transport.specs.declared.Transport.{Transport}
use Rattle.transport.specs.Transport.{transport, taken_in, wrap_of, advance_of, is_past, comes_round, step_of}
use Rattle.transport.specs.Leap.{blindly}

module _ (house : Bool) (frames extent : ℕ) where
  -- the frame of a transport with its cursor, and the one without
  abbrev Blind : TransportState → ℕ → ℕ → Option LoopRange → ℕ → Type 0
  Blind x p c l n = blindly (step_of house frames extent (transport x p c l n)).transport ≡ blindly (step_of false 0 extent (transport x p 0 l n)).transport

  straight : (p c n : ℕ) → Blind Playing p c None n
  unfolding step_of wrap_of advance_of is_past comes_round
  straight p c n = ⊎_elim (λ (h : leb extent (p + 1) ≡ true). rw h) (λ (h : leb extent (p + 1) ≡ false). rw h) (two_ways (leb extent (p + 1)))

  -- rule a, or none, and then rule b
  looped : (p c n : ℕ) (l : LoopRange) → Blind Playing p c (Some l) n
  unfolding step_of wrap_of advance_of is_past comes_round
  looped p c n l =
      let e : ℕ = l.end.0 in
      let w : ℕ = taken_in l.start.0 e p in
      ⊎_elim
      (λ (h : leb e p ≡ true). ⊎_elim (λ (k : leb e (w + 1) ≡ true). rw (h, k)) (λ (k : leb e (w + 1) ≡ false). rw (h, k)) (two_ways (leb e (w + 1))))
      (λ (h : leb e p ≡ false). ⊎_elim (λ (k : leb e (p + 1) ≡ true). rw (h, k)) (λ (k : leb e (p + 1) ≡ false). rw (h, k)) (two_ways (leb e (p + 1))))
      (two_ways (leb e p))

  parts : (x : TransportState) (p c : ℕ) (l : Option LoopRange) (n : ℕ) → Blind x p c l n
  unfolding step_of wrap_of advance_of is_past comes_round
  parts Stopped p c l n = refl
  parts Paused p c l n = refl
  parts Playing p c None n = straight p c n
  parts Playing p c (Some l) n = looped p c n l

  pub blind_steps : (t : Transport) → blindly (step_of house frames extent t).transport ≡ blindly (step_of false 0 extent (blindly t)).transport
  blind_steps t = parts t.state t.position.0 t.cursor.0 t.looped t.laps

-- The passes of a frame and the laps: a frame passes from the loop's end to its start at most twice, by rule a and by rule b, and the laps rise by its passes. Assumes nothing.
use mathlib.Core.Path.{◌≡◌, refl, sym, ap, ◌∙◌}
use mathlib.Core.Bool.{Bool, true, false}
use Prim.Native.Nat.{ℕ, ◌+◌, ◌-◌, ◌^◌, ◌≤◌, ◌<◌, min}
use native.Mathlib.Omega.{arith}
use lib.Dec.{leb}
use Rattle.std.specs.Prelude.{Option, Some, None}
use Rattle.counts.proofs.Truth.{and_false_r, cond_both}
use Rattle.transport.specs.declared.TransportState.TheVariants.{Stopped}
use Rattle.transport.specs.declared.LoopRange.{LoopRange}
use Rattle.transport.specs.declared.Transport.{Transport}
use Rattle.transport.specs.Transport.{is_playing, transport, moved_to, wrap_of, cursor_on, land_in, advance_of, past_end, is_past, comes_round, once, step_of, loop_fits, looped_by, loop_of}
use Rattle.transport.proofs.Moves.{wrap_keeps}

-- ---- how many

two : (a b : Bool) → once a + once b ≤ 2
two true true = omega arith
two true false = omega arith
two false true = omega arith
two false false = omega arith

pub few : (house : Bool) (frames extent : ℕ) (t : Transport) → (step_of house frames extent t).passes ≤ 2
unfolding step_of
few house frames extent t = two (is_past t) (comes_round (wrap_of house t))

-- ---- the laps

-- the loop and the laps of the one are the other's
abbrev Kept : Transport → Transport → Type 0
Kept t x = (x.looped ≡ t.looped) × (x.laps ≡ t.laps)

-- rule b leaves them, as rule a does
land_in_keeps : (extent : ℕ) (t : Transport) (l : Option LoopRange) → t.looped ≡ l → Kept t (land_in extent l t)
land_in_keeps extent t None e = cond_both (Kept t) (leb extent t.position.0) (transport Stopped extent t.cursor.0 None t.laps) t (rw e, refl) (refl, refl)
land_in_keeps extent t (Some l) q = cond_both (Kept t) (leb l.end.0 t.position.0) (moved_to t l.start.0 l.start.0) t (refl, refl) (refl, refl)

advance_keeps : (frames extent : ℕ) (t : Transport) → Kept t (advance_of frames extent t)
unfolding advance_of
advance_keeps frames extent t =
    let u : Transport = moved_to t (t.position.0 + 1) (cursor_on frames t.cursor.0) in
    cond_both (Kept t) (is_playing t.state) (land_in extent t.looped u) t (land_in_keeps extent u t.looped refl) (refl, refl)

module _ (house : Bool) (frames extent : ℕ) (t : Transport) where
  -- a frame keeps the loop,
  pub step_looped : (step_of house frames extent t).transport.looped ≡ t.looped
  unfolding step_of
  step_looped = (advance_keeps frames extent (wrap_of house t)).0 ∙ (wrap_keeps house t).1

  -- and the laps rise by its passes, up to 2^64 - 1
  pub step_laps : (step_of house frames extent t).transport.laps ≡ min (t.laps + (step_of house frames extent t).passes) (2 ^ 64 - 1)
  unfolding step_of
  step_laps = ap (λ n. min (n + (once (is_past t) + once (comes_round (wrap_of house t)))) (2 ^ 64 - 1)) ((advance_keeps frames extent (wrap_of house t)).1 ∙ (wrap_keeps house t).2)

  -- without a loop it makes none
  pub no_pass : t.looped ≡ None → (step_of house frames extent t).passes ≡ 0
  unfolding step_of is_past comes_round
  no_pass e =
      let past : (l : Option LoopRange) (p : ℕ) → l ≡ None → past_end l p ≡ false = λ l p q. rw q in
      rw (and_false_r (is_playing t.state) (past t.looped t.position.0 e), and_false_r (is_playing (wrap_of house t).state) (past (wrap_of house t).looped ((wrap_of house t).position.0 + 1) ((wrap_keeps house t).1 ∙ e)))

-- ---- without a loop there are no laps, and they are a 64-bit number

pub record Counts (t : Transport) : Type 0 where
  pub none : t.looped ≡ None → t.laps ≡ 0
  pub low : t.laps < 2 ^ 64

-- a frame keeps it so,
pub step_counts : (house : Bool) (frames extent : ℕ) (t : Transport) → Counts t → Counts (step_of house frames extent t).transport
step_counts house frames extent t h =
    record {
      none = λ e.
          let off : t.looped ≡ None = sym (step_looped house frames extent t) ∙ e in
          omega (arith, step_laps house frames extent t, h.none off, no_pass house frames extent t off);
      low = omega (arith, step_laps house frames extent t);
    }

-- and so does another loop, taken or not
pub looped_counts : (l : Option LoopRange) (t : Transport) → Counts (looped_by l t)
looped_counts l t = record { none = λ e. refl; low = omega arith }

pub loop_counts : (extent : ℕ) (l : Option LoopRange) (t : Transport) → Counts t → Counts (loop_of extent l t)
loop_counts extent l t h = cond_both Counts (loop_fits extent l) (looped_by l t) t (looped_counts l t) h

-- What a frame moves: nothing unless Playing; without a loop the position by 1, up to the length; the cursor by at most 1, or to a loop's start, or in house mode by rule a to the position. Assumes nothing.
use mathlib.Core.Path.{◌≡◌, refl, subst}
use mathlib.Core.Bool.{Bool, true, false, ◌&&◌, cond}
use mathlib.Core.Logic.{◌⊎◌, inl, inr}
use Prim.Native.Nat.{ℕ, ◌+◌, ◌-◌, ◌^◌, ◌≤◌, ◌<◌, min}
use native.Mathlib.Omega.{arith}
use borrow.Author.Tests.{le-leb, lt-leb}
use lib.Dec.{leb, ltb}
use Rattle.std.specs.Prelude.{Option, Some, None}
use Rattle.std.specs.Bool.{then_some}
use Rattle.std.specs.Option.{is_some, unwrap_or}
use Rattle.counts.specs.declared.SongFrame.{SongFrame}
use Rattle.counts.proofs.Truth.{cond_both}
use Rattle.transport.specs.declared.TransportState.{TransportState}
use Rattle.transport.specs.declared.TransportState.TheVariants.{Stopped, Playing}
use Rattle.transport.specs.declared.LoopRange.{LoopRange}
use Rattle.transport.specs.declared.Transport.{Transport}
use Rattle.transport.specs.Transport.{is_playing, transport, moved_to, wrap_to, wrap_in, wrap_of, cursor_on, land_in, advance_of, past_end, is_past, comes_round, step_of}

-- if not Playing nothing moves
pub rests : (house : Bool) (frames extent : ℕ) (t : Transport) → t.laps < 2 ^ 64 → is_playing t.state ≡ false → step_of house frames extent t ≡ record { transport = t; heard = None; passes = 0 }
unfolding step_of advance_of wrap_of is_past comes_round
rests house frames extent t l e = let h : min (t.laps + 0) (2 ^ 64 - 1) ≡ t.laps = omega arith in simp (e, h)

-- Playing without a loop, short of the length: the position rises by 1
pub rises : (house : Bool) (frames extent p c n : ℕ) → n < 2 ^ 64 → p + 1 < extent
    → step_of house frames extent (transport Playing p c None n) ≡ record { transport = transport Playing (p + 1) (cursor_on frames c) None n; heard = Some (record { 0 = c }); passes = 0 }
unfolding step_of advance_of wrap_of is_past comes_round
rises house frames extent p c n l h = let k : min (n + 0) (2 ^ 64 - 1) ≡ n = omega arith in simp (lt-leb extent (p + 1) h, k)

-- Playing without a loop, at the length: there it stops
pub ends : (house : Bool) (frames extent p c n : ℕ) → n < 2 ^ 64 → extent ≤ p + 1
    → step_of house frames extent (transport Playing p c None n) ≡ record { transport = transport Stopped extent (cursor_on frames c) None n; heard = Some (record { 0 = c }); passes = 0 }
unfolding step_of advance_of wrap_of is_past comes_round
ends house frames extent p c n l h = let k : min (n + 0) (2 ^ 64 - 1) ≡ n = omega arith in simp (le-leb extent (p + 1) h, k)

-- the loop starts there
abbrev pub StartsAt : Option LoopRange → ℕ → Type 0
StartsAt None c = ⊥
StartsAt (Some l) c = c ≡ l.start.0

-- as tono rule a leaves the cursor, or takes it to the loop's start
wrap_in_law : (t : Transport) (l : Option LoopRange) → ((wrap_in false l t).cursor.0 ≡ t.cursor.0) ⊎ StartsAt l (wrap_in false l t).cursor.0
wrap_in_law t None = inl refl
wrap_in_law t (Some l) =
    cond_both (λ (x : Transport). (x.cursor.0 ≡ t.cursor.0) ⊎ (x.cursor.0 ≡ l.start.0)) (leb l.end.0 t.position.0) (wrap_to false l.start.0 l.end.0 t) t (inr refl) (inl refl)

-- the state, the loop and the laps of the one are the other's
abbrev Kept : Transport → Transport → Type 0
Kept t x = (x.state ≡ t.state) × (x.looped ≡ t.looped) × (x.laps ≡ t.laps)

wrap_in_keeps : (house : Bool) (t : Transport) (l : Option LoopRange) → Kept t (wrap_in house l t)
wrap_in_keeps house t None = (refl, refl, refl)
wrap_in_keeps house t (Some l) = cond_both (Kept t) (leb l.end.0 t.position.0) (wrap_to house l.start.0 l.end.0 t) t (refl, refl, refl) (refl, refl, refl)

-- rule a leaves the state, the loop and the laps
pub wrap_keeps : (house : Bool) (t : Transport) → Kept t (wrap_of house t)
unfolding wrap_of
wrap_keeps house t = cond_both (Kept t) (is_playing t.state) (wrap_in house t.looped t) t (wrap_in_keeps house t t.looped) (refl, refl, refl)

-- where the song is heard in a frame; if it does not play, its cursor
abbrev pub read_in : Transport → Option SongFrame → ℕ
read_in t heard = (unwrap_or heard t.cursor).0

-- so the song is read at the cursor, or at the loop's start
pub read_at : (frames extent : ℕ) (t : Transport)
    → (read_in t (step_of false frames extent t).heard ≡ t.cursor.0) ⊎ StartsAt t.looped (read_in t (step_of false frames extent t).heard)
unfolding step_of wrap_of
read_at frames extent t = rw (wrap_keeps false t).0 (go (is_playing t.state))
  where
    go : (b : Bool) → let c : ℕ = read_in t (then_some b (cond b (wrap_in false t.looped t) t).cursor) in (c ≡ t.cursor.0) ⊎ StartsAt t.looped c
    go true = wrap_in_law t t.looped
    go false = inl refl

short_in : (house : Bool) (t : Transport) (l : Option LoopRange) → past_end l t.position.0 ≡ false → wrap_in house l t ≡ t
short_in house t None h = refl
short_in house t (Some l) h = rw h

-- where it does not pass, it moves nothing
pub short_stays : (house : Bool) (t : Transport) → is_past t ≡ false → wrap_of house t ≡ t
unfolding wrap_of is_past
short_stays house t h = go (is_playing t.state) h
  where
    go : (b : Bool) → b && past_end t.looped t.position.0 ≡ false → cond b (wrap_in house t.looped t) t ≡ t
    go true k = short_in house t t.looped k
    go false k = refl

-- the song plays in a frame if it was Playing before it
pub plays : (house : Bool) (frames extent : ℕ) (t : Transport) → is_some (step_of house frames extent t).heard ≡ is_playing t.state
unfolding step_of
plays house frames extent t = rw (wrap_keeps house t).0 (go (is_playing t.state))
  where
    go : (b : Bool) → is_some (then_some b (wrap_of house t).cursor) ≡ b
    go true = refl
    go false = refl

-- a cursor stays, moves on by 1 or goes to the start of the loop
abbrev pub Follows : Option LoopRange → ℕ → ℕ → Type 0
Follows l c d = (d ≡ c) ⊎ (d ≡ c + 1) ⊎ StartsAt l d

on_follows : (frames c : ℕ) (l : Option LoopRange) → Follows l c (cursor_on frames c)
unfolding cursor_on
on_follows frames c l = cond_both (Follows l c) (ltb c frames) (c + 1) c (inr (inl refl)) (inl refl)

land_follows : (extent p c d n : ℕ) (s : TransportState) (l : Option LoopRange) → Follows l c d → Follows l c (land_in extent l (transport s p d l n)).cursor.0
land_follows extent p c d n s None h =
    cond_both (λ (x : Transport). Follows None c x.cursor.0) (leb extent p) (transport Stopped extent d None n) (transport s p d None n) h h
land_follows extent p c d n s (Some l) h =
    cond_both (λ (x : Transport). Follows (Some l) c x.cursor.0) (leb l.end.0 p) (transport s l.start.0 l.start.0 (Some l) n) (transport s p d (Some l) n) (inr (inr refl)) h

advance_follows : (frames extent : ℕ) (w : Transport) → Follows w.looped w.cursor.0 (advance_of frames extent w).cursor.0
unfolding advance_of
advance_follows frames extent w =
    let c : ℕ = w.cursor.0 in
    let p : ℕ = w.position.0 + 1 in
    let d : ℕ = cursor_on frames c in
    cond_both (λ (x : Transport). Follows w.looped c x.cursor.0) (is_playing w.state) (land_in extent w.looped (moved_to w p d)) w
    (land_follows extent p c d w.laps w.state w.looped (on_follows frames c w.looped)) (inl refl)

-- after the frame the cursor is where the song was read, one on, or at the loop's start
pub moves_on : (house : Bool) (frames extent : ℕ) (t : Transport) → Follows t.looped (read_in t (step_of house frames extent t).heard) (step_of house frames extent t).transport.cursor.0
unfolding step_of wrap_of
moves_on house frames extent t =
    rw (wrap_keeps house t).0
    (go (is_playing t.state) (subst (λ l. Follows l (wrap_of house t).cursor.0 (advance_of frames extent (wrap_of house t)).cursor.0) (wrap_keeps house t).1
    (advance_follows frames extent (wrap_of house t))))
  where
    go : (b : Bool) → let w : Transport = cond b (wrap_in house t.looped t) t in let d : ℕ = (advance_of frames extent w).cursor.0 in
        Follows t.looped w.cursor.0 d → Follows t.looped (read_in t (then_some b w.cursor)) d
    go true h = h
    go false h = h

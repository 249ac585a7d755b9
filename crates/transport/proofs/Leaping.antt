-- So many frames at once are so many frames, one after the other. Assumes nothing.
use mathlib.Core.Path.{◌≡◌, refl, sym, ◌∙◌, ap}
use mathlib.Core.Bool.{true, false, cond}
use mathlib.Core.Logic.{⊎_elim}
use Prim.Native.Nat.{ℕ, zero, suc, ◌+◌, ◌-◌, ◌*◌, ◌/◌, ◌%◌, ◌^◌, ◌≤◌, ◌<◌, min}
use native.Mathlib.Nat.{zero-add, mod-lt, mod-eq_of_lt, mod_self, suc-mod, div-add-mod', mul-add-div_right, div-eq_of_lt, div_self}
use native.Mathlib.Numerals.{add-one}
use native.Mathlib.Omega.{arith}
use lib.Dec.{leb}
use borrow.Author.Tests.{leb-true, leb-false, le-leb, lt-leb}
use Rattle.std.specs.Prelude.{Option, Some, None}
use Rattle.counts.proofs.Truth.{two_ways, lt_or_le, never}
use Rattle.transport.specs.declared.TransportState.{TransportState}
use Rattle.transport.specs.declared.TransportState.TheVariants.{Stopped, Playing, Paused}
use Rattle.transport.specs.declared.LoopRange.{LoopRange}
use Rattle.transport.specs.declared.Transport.{Transport}
use Rattle.transport.specs.Transport.{is_playing, transport, moved_to, taken_in, wrap_of, land_in, advance_of, is_past, comes_round, once, step_of}
use Rattle.transport.specs.Leap.{blindly, leap_of}
use Rattle.transport.specs.Round.{round_to, rounds_to, gone_round}
use Rattle.transport.proofs.Moves.{rests, rises, ends}
use Rattle.transport.proofs.Within.{lands}

-- ---- one more, modulo d

module _ (d : ℕ) (some : 0 < d) (a : ℕ) where
  -- it goes to 0 where the remainder was the last,
  around_mod : (a % d + 1 ≡ d → (a + 1) % d ≡ 0) × (a % d + 1 < d → (a + 1) % d ≡ a % d + 1)
  around_mod = (
    λ h. rw (add-one a, suc-mod a d, ← add-one (a % d), h) (mod_self d),
    λ h. rw (add-one a, suc-mod a d, ← add-one (a % d)) (mod-eq_of_lt h),
  )

  -- and there the quotient rises
  around_div : (a % d + 1 ≡ d → (a + 1) / d ≡ a / d + 1) × (a % d + 1 < d → (a + 1) / d ≡ a / d)
  around_div =
      let e : a / d * d + (a % d + 1) ≡ a + 1 = let h = div-add-mod' a d in omega arith in (
        λ h. rw (← e) (mul-add-div_right some (a / d) (a % d + 1) ∙ rw (h, div_self some)),
        λ h. rw (← e) (mul-add-div_right some (a / d) (a % d + 1) ∙ rw (div-eq_of_lt h) (omega arith)),
      )

-- ---- round a loop

module _ (s e : ℕ) (some : s < e) where
  -- a place on the way lies before the end,
  pub round_below : (q : ℕ) → round_to s e q < e
  round_below q =
      ⊎_elim
      (λ (h : leb e q ≡ true). rw h (lands s e q some))
      (λ (h : leb e q ≡ false). rw h (leb-false e q h))
      (two_ways (leb e q))

  -- and in the loop, once the start is reached
  round_in : (q : ℕ) → s ≤ q → round_to s e q ≡ taken_in s e q
  round_in q l =
      ⊎_elim
      (λ (h : leb e q ≡ true). rw h)
      (λ (h : leb e q ≡ false).
      let b = leb-false e q h in
      let m : (q - s) % (e - s) ≡ q - s = mod-eq_of_lt (omega arith) in
      rw h (omega arith))
      (two_ways (leb e q))

  -- before the end it has not come round
  pub no_round : (q : ℕ) → q < e → rounds_to s e q ≡ 0
  no_round q h = div-eq_of_lt (omega arith)

  -- one frame more
  record Next (q : ℕ) : Type 0 where
    place : round_to s e (q + 1) ≡ cond (leb e (round_to s e q + 1)) s (round_to s e q + 1)
    count : rounds_to s e (q + 1) ≡ rounds_to s e q + once (leb e (round_to s e q + 1))

  ahead : (q : ℕ) → q < s → Next q
  ahead q h =
      record {
        place = rw (lt-leb e q (omega arith), lt-leb e (q + 1) (omega arith));
        count = rw (lt-leb e q (omega arith), lt-leb e (q + 1) (omega arith), no_round (q + 1) (omega arith), no_round q (omega arith));
      }

  inside : (q : ℕ) → s ≤ q → Next q
  inside q l =
      let n : 0 < e - s = omega arith in
      let r : (q - s) % (e - s) < e - s = mod-lt (q - s) n in
      let one : q + 1 - s ≡ (q - s) + 1 = omega arith in
      let m = around_mod (e - s) n (q - s) in
      let v = around_div (e - s) n (q - s) in
      ⊎_elim
      (λ (k : leb e (taken_in s e q + 1) ≡ true).
      let b = leb-true e (taken_in s e q + 1) k in
      let t : (q - s) % (e - s) + 1 ≡ e - s = omega arith in
      record {
        place = rw (round_in (q + 1) (omega arith), round_in q l, k, one, m.0 t) (omega arith);
        count = rw (round_in q l, k, one, v.0 t);
      })
      (λ (k : leb e (taken_in s e q + 1) ≡ false).
      let b = leb-false e (taken_in s e q + 1) k in
      let t : (q - s) % (e - s) + 1 < e - s = omega arith in
      record {
        place = rw (round_in (q + 1) (omega arith), round_in q l, k, one, m.1 t) (omega arith);
        count = rw (round_in q l, k, one, v.1 t) (omega arith);
      })
      (two_ways (leb e (taken_in s e q + 1)))

  round_next : (q : ℕ) → Next q
  round_next q = ⊎_elim (λ h. ahead q h) (λ h. inside q h) (lt_or_le q s)

  -- the first from w before the end
  first_round : (w : ℕ) → w < e → (round_to s e (w + 1) ≡ cond (leb e (w + 1)) s (w + 1)) × (rounds_to s e (w + 1) ≡ once (leb e (w + 1)))
  first_round w h =
      let x = round_next w in
      let k : leb e w ≡ false = lt-leb e w h in
      (rw k at x.place, (rw (k, no_round w h) at x.count) ∙ zero-add (once (leb e (w + 1))))

-- ---- the frames of a transport without its cursor

-- one that does not play stays
pub leap_rests : (extent m : ℕ) (t : Transport) → t.laps < 2 ^ 64 → is_playing t.state ≡ false → leap_of extent m t ≡ blindly t
unfolding leap_of
leap_rests extent zero t l h = refl
leap_rests extent (suc m) t l h = rw (leap_rests extent m t l h, rests false 0 extent (blindly t) l h)

-- without a loop, from position p
module _ (extent n : ℕ) (low : n < 2 ^ 64) where
  straight_step : (p : ℕ) → blindly (step_of false 0 extent (transport Playing p 0 None n)).transport ≡ land_in extent None (transport Playing (p + 1) 0 None n)
  straight_step p =
      ⊎_elim
      (λ (h : p + 1 < extent). rw (rises false 0 extent p 0 n low h, lt-leb extent (p + 1) h))
      (λ (h : extent ≤ p + 1). rw (ends false 0 extent p 0 n low h, le-leb extent (p + 1) h))
      (lt_or_le (p + 1) extent)

  straight_leaps : (m p c : ℕ) → leap_of extent (suc m) (transport Playing p c None n) ≡ land_in extent None (transport Playing (p + suc m) 0 None n)
  unfolding leap_of
  straight_leaps zero p c = straight_step p
  straight_leaps (suc m) p c =
      let one : p + suc m + 1 ≡ p + suc (suc m) = omega arith in
      rw (straight_leaps m p c)
      (⊎_elim
      (λ (h : p + suc m < extent). rw (lt-leb extent (p + suc m) h) (straight_step (p + suc m) ∙ rw one))
      (λ (h : extent ≤ p + suc m). rw (le-leb extent (p + suc m) h, le-leb extent (p + suc (suc m)) (omega arith), rests false 0 extent (transport Stopped extent 0 None n) low refl))
      (lt_or_le (p + suc m) extent))

-- so many laps, and one more or none, are so many and one more or none
laps_add : (n a r k : ℕ) → min (min (n + (a + r)) (2 ^ 64 - 1) + k) (2 ^ 64 - 1) ≡ min (n + (a + (r + k))) (2 ^ 64 - 1)
laps_add n a r k = omega arith

-- with one
module _ (extent : ℕ) (l : LoopRange) (some : l.start.0 < l.end.0) where
  -- a frame that rises from w to the end or before it, with so many laps then
  abbrev Risen : ℕ → ℕ → Transport
  Risen w n = transport Playing (cond (leb l.end.0 (w + 1)) l.start.0 (w + 1)) 0 (Some l) n

  loop_step : (p n : ℕ)
      → blindly (step_of false 0 extent (transport Playing p 0 (Some l) n)).transport
      ≡ Risen (round_to l.start.0 l.end.0 p) (min (n + (once (leb l.end.0 p) + once (leb l.end.0 (round_to l.start.0 l.end.0 p + 1)))) (2 ^ 64 - 1))
  unfolding step_of wrap_of advance_of is_past comes_round
  loop_step p n =
      let w : ℕ = taken_in l.start.0 l.end.0 p in
      ⊎_elim
      (λ (h : leb l.end.0 p ≡ true). ⊎_elim (λ (k : leb l.end.0 (w + 1) ≡ true). rw (h, k)) (λ (k : leb l.end.0 (w + 1) ≡ false). rw (h, k)) (two_ways (leb l.end.0 (w + 1))))
      (λ (h : leb l.end.0 p ≡ false). ⊎_elim (λ (k : leb l.end.0 (p + 1) ≡ true). rw (h, k)) (λ (k : leb l.end.0 (p + 1) ≡ false). rw (h, k)) (two_ways (leb l.end.0 (p + 1))))
      (two_ways (leb l.end.0 p))

  -- before the end rule a does nothing
  before_step : (v n : ℕ) → v < l.end.0
      → blindly (step_of false 0 extent (transport Playing v 0 (Some l) n)).transport ≡ Risen v (min (n + once (leb l.end.0 (v + 1))) (2 ^ 64 - 1))
  before_step v n h = loop_step v n ∙ rw (lt-leb l.end.0 v h, zero-add (once (leb l.end.0 (v + 1))))

  loop_leaps : (m p c n : ℕ) → leap_of extent (suc m) (transport Playing p c (Some l) n) ≡ gone_round l.start.0 l.end.0 (suc m) (transport Playing p c (Some l) n)
  unfolding leap_of
  loop_leaps zero p c n =
      let w : ℕ = round_to l.start.0 l.end.0 p in
      let f = first_round l.start.0 l.end.0 some w (round_below l.start.0 l.end.0 some p) in
      loop_step p n ∙ rw (f.0, f.1)
  loop_leaps (suc m) p c n =
      let q : ℕ = round_to l.start.0 l.end.0 p + suc m in
      let v : ℕ = round_to l.start.0 l.end.0 q in
      let a : ℕ = once (leb l.end.0 p) in
      let x = round_next l.start.0 l.end.0 some q in
      let one : round_to l.start.0 l.end.0 p + suc (suc m) ≡ q + 1 = omega arith in
      ap (λ (t : Transport). blindly (step_of false 0 extent t).transport) (loop_leaps m p c n)
      ∙ before_step v (min (n + (a + rounds_to l.start.0 l.end.0 q)) (2 ^ 64 - 1)) (round_below l.start.0 l.end.0 some q)
      ∙ rw (one, x.place, x.count, laps_add n a (rounds_to l.start.0 l.end.0 q) (once (leb l.end.0 (v + 1))))

-- ---- any transport that plays

module _ (extent m : ℕ) (t : Transport) (plays : is_playing t.state ≡ true) (some : 0 < m) where
  -- without a loop: straight on, and at the length or past it Stopped there
  pub leap_straight : t.laps < 2 ^ 64 → t.looped ≡ None → leap_of extent m t ≡ land_in extent None (moved_to t (t.position.0 + m) 0)
  leap_straight low off = go m t.state t.looped plays some off
    where
      go : (m : ℕ) (x : TransportState) (l : Option LoopRange) → is_playing x ≡ true → 0 < m → l ≡ None
          → leap_of extent m (transport x t.position.0 t.cursor.0 l t.laps) ≡ land_in extent None (transport x (t.position.0 + m) 0 l t.laps)
      go zero x l h k q = absurd (omega arith)
      go (suc m) Stopped l h k q = absurd (never (sym h))
      go (suc m) Paused l h k q = absurd (never (sym h))
      go (suc m) Playing l h k q = rw q (straight_leaps extent t.laps low m t.position.0 t.cursor.0)

  -- with one: round and round
  pub leap_around : (l : LoopRange) → l.start.0 < l.end.0 → t.looped ≡ Some l → leap_of extent m t ≡ gone_round l.start.0 l.end.0 m t
  leap_around l first looped = go m t.state t.looped plays some looped
    where
      go : (m : ℕ) (x : TransportState) (o : Option LoopRange) → is_playing x ≡ true → 0 < m → o ≡ Some l
          → leap_of extent m (transport x t.position.0 t.cursor.0 o t.laps) ≡ gone_round l.start.0 l.end.0 m (transport x t.position.0 t.cursor.0 o t.laps)
      go zero x o h k q = absurd (omega arith)
      go (suc m) Stopped o h k q = absurd (never (sym h))
      go (suc m) Paused o h k q = absurd (never (sym h))
      go (suc m) Playing o h k q = rw q (loop_leaps extent l first m t.position.0 t.cursor.0 t.laps)

-- A frame of the tail in the middle of a run: its weight does not land. Assumes nothing.
use mathlib.Core.Path.{◌≡◌, refl, ap, ◌∙◌}
use mathlib.Core.Bool.{Bool, true, false, cond}
use Prim.Native.Nat.{ℕ, ◌+◌, ◌-◌, ◌*◌, ◌/◌, ◌<◌}
use native.Mathlib.Numerals.{add-one}
use native.Mathlib.Omega.{arith}
use lib.Dec.{eqb}
use lib.Ieee.{Float, binary32, add, mul}
use borrow.Author.Tests.{ne_eqb}
use Rattle.std.specs.Prelude.{Option, Some, None}
use Rattle.counts.specs.declared.Handle.{Handle}
use Rattle.counts.specs.declared.SongFrame.{SongFrame}
use Rattle.ramp.specs.declared.Ramp.{Ramp}
use Rattle.ramp.specs.Ramp.{tick_of}
use Rattle.bank.specs.Recording.{Recording}
use Rattle.oneshot.specs.declared.Pair.{Pair}
use Rattle.oneshot.specs.Pair.{pair, plus, times}
use Rattle.stage.specs.declared.Settings.{Settings}
use Rattle.stage.specs.declared.Tail.{Tail}
use Rattle.stage.specs.Mode.{is_house}
use Rattle.stage.specs.Sound.{only, with_tail, tail_on}
use Rattle.sweeps.specs.Adds.{ticks_of, gain_at, under_of}
use Rattle.sweeps.proofs.Moving.{frame_left, frame_right}
use Rattle.sweeps.proofs.Ticks.{ticks_remaining}
use Rattle.runs.specs.Run.{tail_by, Fading}
use Rattle.runs.proofs.Song.{Ends, clip_share, cursor_frame, cursor_reads, cursor_left}

-- one tick more
pub ticks_next : (j : ℕ) (r : Ramp) → (tick_of (ticks_of j r)).ramp ≡ ticks_of (j + 1) r
unfolding ticks_of
ticks_next j r = rw add-one refl

abbrev sounding : Handle → SongFrame → Ramp → Option Tail
sounding h c w = Some (record { song = h; cursor = c; weight = w })

-- a weight that has not landed stays
stays : (h : Handle) (c d : SongFrame) (u v : Ramp) → c ≡ d → u ≡ v → eqb v.remaining 0 ≡ false → cond (eqb u.remaining 0) None (sounding h c u) ≡ sounding h d v
stays h c d u v a b e = rw (a, b, e) refl

-- a tail's share, side by side
share_sides : (house : Bool) (g w : Float) (p : Pair) → cond house (times (times p g) w) (times p w) ≡ pair (mul binary32 (under_of house g p.left) w) (mul binary32 (under_of house g p.right) w)
share_sides true g w p = refl
share_sides false g w p = refl

module _ (r : Recording) where
  pub tail_frame : (t : Option Tail) (n j : ℕ) → Fading r.frames n t → j < n → tail_on (only r) (tail_by r.frames j t) ≡ tail_by r.frames (j + 1) t
  unfolding tail_on
  tail_frame None n j h lt = refl
  tail_frame (Some t) n j h lt =
      let l : (ticks_of (j + 1) t.weight).remaining ≡ t.weight.remaining - (j + 1) = ticks_remaining (j + 1) t.weight in
      let q : eqb (ticks_of (j + 1) t.weight).remaining 0 ≡ false = ne_eqb (ticks_of (j + 1) t.weight).remaining 0 (λ e. omega (arith, h.0)) in
      stays t.song _ _ (tick_of (ticks_of j t.weight)).ramp (ticks_of (j + 1) t.weight) (ap (λ i. record { 0 = i }) (cursor_frame r.frames t.cursor.0 n j h.1 lt)) (ticks_next j t.weight) q

  -- plus the tail's share, where there is a tail
  module _ (x : Settings) (g : Float) where
    abbrev pub tail_adds : Option Tail → ℕ → Float → Float
    tail_adds None k y = y
    tail_adds (Some t) k y = add binary32 y (mul binary32 (under_of (is_house x) g (clip_share r t.cursor.0 k)) (gain_at t.weight (k / 2)))

    pub tail_adds_law : Ends r → (t : Option Tail) (p : Pair) (j : ℕ)
        → with_tail x (only r) g (tail_by r.frames j t) p ≡ pair (tail_adds t (j * 2) p.left) (tail_adds t (j * 2 + 1) p.right)
    unfolding with_tail
    tail_adds_law ends None p j = refl
    tail_adds_law ends (Some t) p j =
        ap (plus p) (share_sides (is_house x) g _ _) ∙ rw (frame_left j, frame_right j, cursor_left r ends t.cursor.0 j, cursor_reads r ends t.cursor.0 j 1) refl

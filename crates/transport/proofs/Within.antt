-- What the tests of a loop tell of its numbers, and where rule a lands. Assumes nothing.
use mathlib.Core.Path.{◌≡◌, refl}
use mathlib.Core.Bool.{true, ◌&&◌}
use Prim.Native.Nat.{ℕ, ◌+◌, ◌-◌, ◌%◌, ◌≤◌, ◌<◌}
use native.Mathlib.Nat.{mod-lt}
use native.Mathlib.Omega.{arith}
use borrow.Author.Tests.{leb-true, ltb-true}
use lib.Dec.{leb, ltb}
use Rattle.std.specs.Prelude.{Option, Some, None}
use Rattle.counts.proofs.Truth.{and_l, and_r}
use Rattle.transport.specs.declared.LoopRange.{LoopRange}
use Rattle.transport.specs.Transport.{loop_fits, loop_holds}

-- a loop that may be set: start < end <= length
module _ (extent : ℕ) (l : LoopRange) (h : loop_fits extent (Some l) ≡ true) where
  pub start_first : l.start.0 < l.end.0
  start_first = ltb-true l.start.0 l.end.0 (and_l (ltb l.start.0 l.end.0) (leb l.end.0 extent) h)

  pub end_fits : l.end.0 ≤ extent
  end_fits = leb-true l.end.0 extent (and_r (ltb l.start.0 l.end.0) (leb l.end.0 extent) h)

-- a loop that may be set holds a frame
pub fits_holds : (extent : ℕ) (l : Option LoopRange) → loop_fits extent l ≡ true → loop_holds l ≡ true
fits_holds extent None h = refl
fits_holds extent (Some l) h = and_l (ltb l.start.0 l.end.0) (leb l.end.0 extent) h

-- start + (position - start) mod (end - start) lies in the loop
pub lands : (s e p : ℕ) → s < e → s + (p - s) % (e - s) < e
lands s e p h = omega (arith, mod-lt (p - s) {m = e - s} (omega arith))

-- t lies in [s, e), and p before e
module _ (s t e p : ℕ) (h : (leb s t && ltb t e) && ltb p e ≡ true) where
  pub after_start : s ≤ t
  after_start = leb-true s t (and_l (leb s t) (ltb t e) (and_l (leb s t && ltb t e) (ltb p e) h))

  pub before_end : t < e
  before_end = ltb-true t e (and_r (leb s t) (ltb t e) (and_l (leb s t && ltb t e) (ltb p e) h))

  pub not_past : p < e
  not_past = ltb-true p e (and_r (leb s t && ltb t e) (ltb p e) h)

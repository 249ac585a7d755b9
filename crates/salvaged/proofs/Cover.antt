-- The ranges cover the input once, in order. Assumes nothing.
use Prim.Native.Nat.{ℕ, ◌<◌, ◌≤◌}
use mathlib.Core.Path.{refl}
use mathlib.Core.List.{List}
use native.Mathlib.Omega.{arith}
use lib.ListN.{length}
use Rattle.tourfile.specs.declared.Progress.{Progress}
use Rattle.tourfile.specs.Reader.{start}
use Rattle.remains.specs.Steps.{next}
use Rattle.remains.proofs.Runs.{next_at}
use Rattle.remains.proofs.Walk.{from, from_start, from_none, from_front}
use Rattle.salvaged.specs.Salvaged.{Covers, Covered}
use Rattle.salvaged.proofs.Places.{every_place}

module _ (file : List ℕ) where
  -- from a place on they go to the end
  abbrev Rest : Progress → Type 0
  Rest p = p.at ≤ length file → Covers p.at (from file p) (length file)

  rest_none : (p : Progress) → length file ≤ p.at → Rest p
  rest_none p h g = rw (from_none file p h) (omega arith)

  rest_some : (p : Progress) → p.at < length file → Rest (next file p) → Rest p
  rest_some p h ih g = let n = next_at file p h in rw (from_front file p h) (refl, (n.0, ih n.1))

pub covered : Covered
covered file = rw (from_start file) at (every_place file (Rest file) (rest_none file) (rest_some file) start (omega arith))

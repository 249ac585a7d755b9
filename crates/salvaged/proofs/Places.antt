-- From place to place of a file, one range at a time. Assumes nothing.
use Prim.Native.Nat.{ℕ, zero, suc, ◌-◌, ◌<◌, ◌≤◌}
use mathlib.Core.Logic.{⊎_elim}
use mathlib.Core.List.{List}
use native.Mathlib.Omega.{arith}
use lib.ListN.{length}
use Rattle.counts.proofs.Truth.{lt_or_le}
use Rattle.tourfile.specs.declared.Progress.{Progress}
use Rattle.remains.specs.Steps.{next}
use Rattle.remains.proofs.Runs.{next_at}

-- what holds where nothing is left, and at a place where it holds behind the range that begins there, holds at every place
module _ (file : List ℕ) (P : Progress → Type 0) (none : (p : Progress) → length file ≤ p.at → P p) (some : (p : Progress) → p.at < length file → P (next file p) → P p) where
  within : (k : ℕ) (p : Progress) → length file - p.at ≤ k → P p
  within zero p h = none p (omega arith)
  within (suc k) p h =
      ⊎_elim (λ (l : p.at < length file). some p l (within k (next file p) (let n = (next_at file p l).0 in omega arith))) (λ (l : length file ≤ p.at). none p l)
      (lt_or_le p.at (length file))

  pub every_place : (p : Progress) → P p
  every_place p = within (length file) p (omega arith)

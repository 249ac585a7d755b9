-- A chain of faults, one test after the other. Assumes nothing.
use mathlib.Core.Path.{◌≡◌, refl}
use mathlib.Core.Bool.{Bool, true, false}
use Prim.Native.Nat.{ℕ}
use native.Mathlib.Omega.{arith}
use Rattle.std.specs.Prelude.{Ok, Err}
use Rattle.tourfile.specs.declared.TourError.{TourError}
use Rattle.tourfile.specs.declared.Fault.{Fault}
use Rattle.tourfile.specs.Answer.{Judged}
use Rattle.tourfile.specs.Answer.{TourAnswer}
use Rattle.tourfile.specs.Answer.{first}

-- a test that holds gives its fault,
pub stop : (t : Bool) (x : Fault) (rest : Judged) → t ≡ true → Err x ≡ first t x rest
unfolding first
stop t x rest e = rw e

-- one that does not leaves it to the later ones
pub skip : (t : Bool) (x : Fault) (rest r : Judged) → t ≡ false → r ≡ rest → r ≡ first t x rest
unfolding first
skip t x rest r e h = rw e h

pub faulty_not_fine : {x : Fault} → ◌≡◌ {A = Judged} (Err x) (Ok tt) → ⊥
faulty_not_fine e = let z : ◌≡◌ {A = ℕ} 0 1 = cc in absurd (omega arith)

-- what has no fault has passed each test
pub passed : (t : Bool) (x : Fault) (rest : Judged) → first t x rest ≡ (Ok tt) → (t ≡ false) × (rest ≡ (Ok tt))
unfolding first
passed true x rest e = absurd (faulty_not_fine e)
passed false x rest e = (refl, e)

-- a refused call is not done
pub not_done : {x : TourError} {n : ℕ} → ◌≡◌ {A = TourAnswer} (Err x) (Ok n) → ⊥
not_done e = let z : ◌≡◌ {A = ℕ} 0 1 = cc in absurd (omega arith)

-- What is done with a part of the file, by its tests. Assumes nothing.
use mathlib.Core.Path.{◌≡◌, refl}
use mathlib.Core.Bool.{true, false}
use Rattle.remains.specs.declared.Fate.{Fate}
use Rattle.remains.specs.Salvage.{keeps, drops}

pub keeps-true : (w : Fate) → keeps w ≡ true → w ≡ Fate.Kept
keeps-true Fate.Kept e = refl
keeps-true Fate.Passed e = cc
keeps-true Fate.Dropped e = cc

pub keeps-false : (w : Fate) → keeps w ≡ false → w ≡ Fate.Kept → ⊥
keeps-false Fate.Kept e z = cc
keeps-false Fate.Passed e z = cc
keeps-false Fate.Dropped e z = cc

pub keeps-other : (w : Fate) → (w ≡ Fate.Kept → ⊥) → keeps w ≡ false
keeps-other Fate.Kept n = absurd (n refl)
keeps-other Fate.Passed n = refl
keeps-other Fate.Dropped n = refl

pub drops-true : (w : Fate) → drops w ≡ true → w ≡ Fate.Dropped
drops-true Fate.Kept e = cc
drops-true Fate.Passed e = cc
drops-true Fate.Dropped e = refl

pub drops-false : (w : Fate) → drops w ≡ false → w ≡ Fate.Dropped → ⊥
drops-false Fate.Kept e z = cc
drops-false Fate.Passed e z = cc
drops-false Fate.Dropped e z = cc

pub drops-other : (w : Fate) → (w ≡ Fate.Dropped → ⊥) → drops w ≡ false
drops-other Fate.Kept n = refl
drops-other Fate.Passed n = refl
drops-other Fate.Dropped n = absurd (n refl)

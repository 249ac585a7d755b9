-- `salvage` twice: what both contracts say makes answers and stores equal.
use mathlib.Core.List.{List}
use Prim.Native.Nat.{ℕ}
use lib.ListN.{length}
use Rattle.remains.specs.Salvage.{SalvageAnswer, salvage_of, salvage_out, salvage_list}
use Rattle.twice.proofs.Same.{same₃}
use Rattle.twice.proofs.salvage.Goals as goal

abbrev answer : List ℕ → List ℕ → List ℕ → SalvageAnswer
answer file out list = salvage_of file (length out) (length list)

abbrev output : List ℕ → List ℕ → List ℕ → List ℕ
output file out list = salvage_out file out (length list)

abbrev ranges : List ℕ → List ℕ → List ℕ → List ℕ
ranges file out list = salvage_list file (length out) list

pub returns : goal.returns
returns c =
    let one = c.salvage-one.ensures in
    let other = c.salvage-other.ensures in
    (same₃ answer one.value other.value c.requires, same₃ output one.out_after other.out_after c.requires, same₃ ranges one.list_after other.list_after c.requires)

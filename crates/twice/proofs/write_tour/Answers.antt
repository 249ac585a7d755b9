-- `write_tour` twice: what both contracts say makes answers and stores equal.
use mathlib.Core.List.{List}
use Prim.Native.Nat.{ℕ}
use lib.ListN.{length}
use Rattle.tourfile.specs.Answer.{TourAnswer}
use Rattle.tourfile.specs.Writer.{records_of, write_of, write_into}
use Rattle.twice.proofs.Same.{same₃}
use Rattle.twice.proofs.write_tour.Goals as goal

abbrev answer : List ℕ → List ℕ → List ℕ → TourAnswer
answer clips given store = write_of clips (records_of given) (length store)

abbrev left : List ℕ → List ℕ → List ℕ → List ℕ
left clips given store = write_into clips (records_of given) store

pub returns : goal.returns
returns c =
    let one = c.write_tour-one.ensures in
    let other = c.write_tour-other.ensures in
    (same₃ answer one.value other.value c.requires, same₃ left one.out_after other.out_after c.requires)

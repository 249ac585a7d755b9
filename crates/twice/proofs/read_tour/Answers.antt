-- `read_tour` twice: what both contracts say makes answers and stores equal.
use mathlib.Core.List.{List}
use Prim.Native.Nat.{ℕ}
use lib.ListN.{length}
use Rattle.tourfile.specs.Answer.{TourAnswer}
use Rattle.tourfile.specs.Reader.{read_of, read_into}
use Rattle.twice.proofs.Same.{same₃}
use Rattle.twice.proofs.read_tour.Goals as goal

abbrev answer : List ℕ → List ℕ → List ℕ → TourAnswer
answer clips given store = read_of clips given (length store)

abbrev left : List ℕ → List ℕ → List ℕ → List ℕ
left clips given store = read_into clips given store

pub returns : goal.returns
returns c =
    let one = c.read_tour-one.ensures in
    let other = c.read_tour-other.ensures in
    (same₃ answer one.value other.value c.requires, same₃ left one.list_after other.list_after c.requires)

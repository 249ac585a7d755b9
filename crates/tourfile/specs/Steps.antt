-- What the steps of the code are said in, and no reader of the documents needs. Definitions only.
use Rattle.std.specs.Prelude.{ℕ, ◌+◌, ◌/◌, ◌≤◌, ◌≡◌, List, [], ◌∷◌, length, take, ltb, Ok}
use Rattle.timeline.specs.declared.Row.{Row}
use Rattle.fields.specs.Field.{piece_size, carried}
use Rattle.tourfile.specs.declared.Progress.{Progress}
use Rattle.tourfile.specs.Reader.{Turn, turn_of}
use Rattle.tourfile.specs.Writer.{records_of, records_weighed}

-- the turn of the field at the front of what is left
unfoldable pub front_turn : List ℕ → Progress → List ℕ → Turn
front_turn clips p rest = turn_of clips p (ltb (piece_size rest) (length rest)) (take (piece_size rest) rest)

-- how many bytes the commands take
unfoldable pub size_of : List Row → ℕ
size_of [] = 0
size_of (x ∷ xs) = 20 + carried x.kind + size_of xs

-- no record is at fault, there are at most 4,096, and the output has room
pub record CanWrite (clips ws out : List ℕ) : Type 0 where
  pub fine : records_weighed clips 0 0 (records_of ws) ≡ Ok (length ws / 5)
  pub few : length ws / 5 ≤ 4096
  pub room : 10 + size_of (records_of ws) ≤ length out

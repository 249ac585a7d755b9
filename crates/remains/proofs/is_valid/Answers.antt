-- `is_valid` meets its contract.
use mathlib.Core.Path.{refl}
use Rattle.remains.specs.Salvage.{is_valid}
use Rattle.remains.proofs.is_valid.Goals as goal

pub returns : goal.returns
unfolding is_valid
returns c =
    rw (
      ← c.is_whole-whole.ensures,
      ← c.wrong_length-wrong.ensures,
      ← c.other_version-other.ensures,
      ← c.unknown_kind-unknown.ensures,
      ← c.no_clip-none.ensures,
    ) refl

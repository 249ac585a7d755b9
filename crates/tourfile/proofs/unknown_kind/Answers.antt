-- `unknown_kind` meets its contract.
use mathlib.Core.Path.{refl}
use Rattle.tourfile.specs.Reader.{unknown_kind}
use Rattle.tourfile.proofs.unknown_kind.Goals as goal

pub returns : goal.returns
unfolding unknown_kind
returns c = rw (← c.byte-tag.ensures, ← c.byte-kind.ensures, ← c.is_kind-known.ensures) refl

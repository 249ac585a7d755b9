-- `put_number` meets its contract.
use Rattle.fields.specs.Bytes.{four_bytes, eight_bytes}
use Prim.Native.Nat.{◌+◌}
use Rattle.fields.proofs.Writes.{two_writes}
use mathlib.Core.List.{[], ◌∷◌}
use mathlib.Core.Path.{refl}
use Rattle.tourfile.proofs.put_number.Goals as goal

pub returns : goal.returns
unfolding eight_bytes four_bytes
returns c =
    let a = c.args in
    rw (c.put_byte.ensures, c.put_eight.ensures) (two_writes (eight_bytes a.number) (a.kind ∷ []) a.out.now a.at (a.at + 8) refl)

-- `put_start` meets its contract.
use Rattle.fields.specs.Bytes.{two_bytes, four_bytes, eight_bytes}
use Prim.Native.Nat.{◌+◌}
use Rattle.fields.proofs.Writes.{two_writes}
use mathlib.Core.List.{[], ◌∷◌}
use mathlib.Core.Path.{refl}
use Rattle.tourfile.proofs.put_start.Goals as goal

pub returns : goal.returns
unfolding eight_bytes four_bytes
returns c =
    let a = c.args in
    rw (c.put_two.ensures, c.put_byte.ensures) (two_writes (2 ∷ []) (two_bytes a.body) a.out.now a.at (a.at + 1) refl)

-- `copy_part` meets its contract.
use mathlib.Core.Path.{◌≡◌}
use Prim.Native.Nat.{◌+◌, ◌-◌}
use native.Mathlib.Omega.{arith}
use lib.ListN.{length, take, drop, length-drop}
use lib.Seq.{length-take-le}
use Rattle.fields.proofs.Writes.{part_sets}
use Rattle.remains.proofs.copy_part.Goals as goal

pub returns : goal.returns
returns c =
    let a = c.args in
    let e : a.from + a.n - a.from ≡ a.n = omega arith in
    let m : length (take a.n (drop a.from a.file.now)) ≡ a.n = length-take-le a.n (drop a.from a.file.now) (rw length-drop (omega arith)) in
    let w = rw e at c.copy.ensures in
    rw w (part_sets a.out.now (take a.n (drop a.from a.file.now)) a.at (a.at + a.n) (omega arith) (omega arith))

-- `carried` meets its contract: two parts have at most 16 bytes.
use mathlib.Core.Path.{refl}
use native.Mathlib.Omega.{arith}
use Rattle.fields.specs.Field.{carried}
use Rattle.fields.proofs.Parts.{size_small}
use Rattle.fields.proofs.carried.Goals as goal

pub overflow_add-result : goal.overflow_add-result
overflow_add-result c =
    let a = size_small c.first_part.result in
    let b = size_small c.second_part.result in
    let d = c.size-first.ensures in
    let e = c.size-second.ensures in
    omega arith

pub returns : goal.returns
unfolding carried
returns c = rw (← c.first_part.ensures, ← c.second_part.ensures, ← c.size-first.ensures, ← c.size-second.ensures) refl

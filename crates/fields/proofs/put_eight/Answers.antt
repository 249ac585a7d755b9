-- `put_eight` meets its contract.
use mathlib.Core.Path.{◌≡◌, ◌∙◌}
use native.Mathlib.Omega.{arith}
use Rattle.fields.specs.Bytes.{four_bytes, eight_bytes}
use Rattle.fields.proofs.Numbers.{eight_same}
use Rattle.fields.proofs.Writes.{part_sets}
use Rattle.fields.proofs.put_eight.Goals as goal

pub returns : goal.returns
unfolding four_bytes eight_bytes
returns c =
    let a = c.args in
    let e : c.copy_from_slice.new.self ≡ eight_bytes a.x = c.copy_from_slice.ensures.after ∙ (c.to_le_bytes.ensures ∙ eight_same a.x (omega arith)) in
    rw e (part_sets a.out.now (eight_bytes a.x) a.at _ (omega arith) c.requires)

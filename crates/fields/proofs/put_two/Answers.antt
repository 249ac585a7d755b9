-- `put_two` meets its contract.
use mathlib.Core.Path.{◌≡◌, ◌∙◌}
use native.Mathlib.Omega.{arith}
use Rattle.fields.specs.Bytes.{two_bytes}
use Rattle.fields.proofs.Numbers.{two_same}
use Rattle.fields.proofs.Writes.{part_sets}
use Rattle.fields.proofs.put_two.Goals as goal

pub returns : goal.returns
returns c =
    let a = c.args in
    let e : c.copy_from_slice.new.self ≡ two_bytes a.x = c.copy_from_slice.ensures.after ∙ (c.to_le_bytes.ensures ∙ two_same a.x (omega arith)) in
    rw e (part_sets a.out.now (two_bytes a.x) a.at _ (omega arith) c.requires)

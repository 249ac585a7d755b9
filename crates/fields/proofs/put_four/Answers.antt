-- `put_four` meets its contract.
use mathlib.Core.Path.{◌≡◌, ◌∙◌}
use native.Mathlib.Omega.{arith}
use Rattle.fields.specs.Bytes.{four_bytes}
use Rattle.fields.proofs.Numbers.{four_same}
use Rattle.fields.proofs.Writes.{part_sets}
use Rattle.fields.proofs.put_four.Goals as goal

pub returns : goal.returns
unfolding four_bytes
returns c =
    let a = c.args in
    let e : c.copy_from_slice.new.self ≡ four_bytes a.x = c.copy_from_slice.ensures.after ∙ (c.to_le_bytes.ensures ∙ four_same a.x (omega arith)) in
    rw e (part_sets a.out.now (four_bytes a.x) a.at _ (omega arith) c.requires)

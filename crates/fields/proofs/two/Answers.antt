-- `two` meets its contract.
use mathlib.Core.Path.{◌∙◌}
use Rattle.fields.proofs.Numbers.{two_read}
use Rattle.fields.proofs.two.Goals as goal

pub returns : goal.returns
returns c = c.from_le_bytes.ensures ∙ two_read c.args.s.now c.bytes.result c.args.i c.bytes.ensures

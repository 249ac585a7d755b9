-- `bank::paste` meets its contract. Assumes nothing.
use Rattle.bank.proofs.Places.{part_pasted}
use Rattle.bank.proofs.paste.Goals as goal

pub returns : goal.returns
returns c = part_pasted _ _ _ _ c.copy.ensures

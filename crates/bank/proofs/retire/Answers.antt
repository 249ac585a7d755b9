-- `bank::retire` meets its contract. Assumes nothing.
use Rattle.bank.specs.Slots.{retired_from}
use Rattle.bank.proofs.Clauses.{live_has}
use Rattle.bank.proofs.retire.Goals as goal

pub unmark-used-requires : goal.unmark-used-requires
unmark-used-requires c =
    let a = live_has _ _ c.requires in
    (a.among, a.used)

pub returns : goal.returns
unfolding retired_from
returns c = simp c.unmark-used.ensures

-- `load_refused` meets its contract.
use Rattle.host.proofs.load_refused.Goals as goal

pub returns : goal.returns
returns c = simp c.turned.ensures

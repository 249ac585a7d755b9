-- `pump_refused` meets its contract.
use Rattle.host.proofs.pump_refused.Goals as goal

pub returns : goal.returns
returns c = simp c.turned.ensures

-- `snapshot_refused` meets its contract.
use Rattle.host.proofs.snapshot_refused.Goals as goal

pub returns : goal.returns
returns c = simp (c.turned.ensures, c.no_snapshot.ensures)

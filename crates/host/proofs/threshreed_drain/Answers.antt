-- `threshreed_drain` meets its contract: called as it stands.
use Rattle.host.specs.Calls.{drain_host}
use Rattle.host.proofs.threshreed_drain.Goals as goal

pub returns : goal.returns
unfolding drain_host
returns c = rw (c.drained.ensures, ← c.drain-x.ensures)

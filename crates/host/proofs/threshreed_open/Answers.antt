-- `threshreed_open` meets its contract.
use Rattle.host.specs.Calls.{open_host}
use Rattle.host.proofs.threshreed_open.Goals as goal

pub returns : goal.returns
unfolding open_host
returns c = simp (c.opened.ensures, ← c.open-r.ensures)

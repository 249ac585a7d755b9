-- `threshreed_read_tour` meets its contract: called as it stands.
use mathlib.Core.Path.{refl}
use Rattle.host.specs.Calls.{read_tour_host}
use Rattle.host.proofs.threshreed_read_tour.Goals as goal

pub returns : goal.returns
unfolding read_tour_host
returns c = let e = c.read_tour-a.ensures in rw (c.toured.ensures, e.value, e.list_after) refl

-- `threshreed_write_tour` meets its contract: called as it stands.
use mathlib.Core.Path.{refl}
use Rattle.host.specs.Calls.{write_tour_host}
use Rattle.host.proofs.threshreed_write_tour.Goals as goal

pub returns : goal.returns
unfolding write_tour_host
returns c = let e = c.write_tour-a.ensures in rw (c.toured.ensures, e.value, e.out_after) refl

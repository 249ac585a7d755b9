-- `threshreed_salvage` meets its contract: called as it stands.
use mathlib.Core.Path.{refl}
use Rattle.host.specs.Calls.{salvage_host}
use Rattle.host.proofs.threshreed_salvage.Goals as goal

pub returns : goal.returns
unfolding salvage_host
returns c = let e = c.salvage-a.ensures in rw (c.salvaged.ensures, e.value, e.out_after, e.list_after) refl

-- `kept` meets its contract.
use Rattle.host.specs.Kept.{host_of}
use Rattle.host.proofs.Named.{flag_is}
use Rattle.host.proofs.kept.Goals as goal

pub returns : goal.returns
unfolding host_of
returns c slots e = simp (e, c.from.ensures, flag_is, c.into-2.ensures, c.into.ensures, c.state_number.ensures)

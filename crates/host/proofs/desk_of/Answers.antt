-- `desk_of` meets its contract.
use Rattle.host.specs.Kept.{session_of}
use Rattle.host.proofs.Named.{named_is}
use Rattle.host.proofs.desk_of.Goals as goal

pub returns : goal.returns
unfolding session_of
returns c = let fine = named_is _ _ _ c.in_ok-flag_of.ensures in rw (fine.0, fine.1)

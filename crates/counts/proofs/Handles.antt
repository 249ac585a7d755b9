-- What `==` says of two handles. Assumes nothing.
use mathlib.Core.Path.{◌≡◌, refl}
use Rattle.counts.specs.declared.Handle.{Handle}
use Rattle.counts.specs.contracts.HandlePartialEq.TheImpl.{ghosts}
use Rattle.counts.specs.Handles.{same_handle}

-- `==` compares the slot and the serial, and nothing else
pub equal_handles : (h k : Handle) → ghosts.eq h k ≡ same_handle h k
equal_handles h k = refl

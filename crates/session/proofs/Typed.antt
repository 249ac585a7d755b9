-- What is true of every value of the session's type, where numbers have a width and tables their places: the definitions' numbers have none.
-- Assumes nothing.
use mathlib.Core.Path.{◌≡◌}
use Prim.Native.Nat.{◌^◌, ◌<◌}
use lib.ListN.{length}
use Rattle.bank.specs.declared.Bank.{Bank}
use Rattle.session.specs.declared.Session.{Session}

-- the slots are marked in one 32-bit number, serials have 32 bits, and there are 32 slots
pub record TypedBank (b : Bank) : Type 0 where
  pub bits : b.used < 2 ^ 32
  pub serials : b.last < 2 ^ 32
  pub places : length b.clips ≡ 32

-- the same, and 16 voices
pub record Typed (s : Session) : Type 0 where
  pub bank : TypedBank s.bank
  pub voices : length s.stage.sound.voices.table ≡ 16

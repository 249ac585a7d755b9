-- `bank::is_live` meets its contract. Assumes nothing.
use borrow.Author.Tests.{lt-ltb, le-ltb}
use Rattle.bank.specs.Slots.{live}
use Rattle.bank.proofs.is_live.Goals as goal

pub returns-then-h-lt32 : goal.returns-then-h-lt32
unfolding live
returns-then-h-lt32 c = simp (lt-ltb _ _ c.if-h-lt32.true, c.is_used-used.ensures, c.clip_of-c.ensures)

pub returns : goal.returns
unfolding live
returns c = simp (le-ltb _ _ c.if-h-lt32.false)

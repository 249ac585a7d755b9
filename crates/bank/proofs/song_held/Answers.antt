-- `bank::song_held` meets its contract, in any bank that has the clip. Assumes nothing.
use Rattle.bank.specs.Slots.{claim_ok}
use Rattle.bank.proofs.song_held.Goals as goal

pub returns : goal.returns
unfolding claim_ok
returns c b e f = simp (c.serves.ensures, c.stands_stinger.ensures, c.stands_by-x.ensures b e f)

-- `oneshot::Voices::mix` meets its contract: the frame of the voices that sound is the table's. Assumes nothing.
use Rattle.bank.specs.Recording.{view_of}
use Rattle.oneshot.proofs.Lent.{lent_back}
use Rattle.oneshot.proofs.Voices.mix.Goals as goal

pub returns : goal.returns
returns c = lent_back (view_of c.args.pool.now c.args.bank) c.args.self c.requires.few _ c.mix_all-kept.ensures

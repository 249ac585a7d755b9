-- `retire` twice: what both contracts say makes answers and sessions equal.
use Rattle.clips.specs.Retire.{retire_of}
use Rattle.twice.proofs.Same.{same₂}
use Rattle.twice.proofs.retire.Goals as goal

pub returns : goal.returns
returns c =
    same₂ (λ q l. retire_of c.args.s q l c.args.h) c.retire-one.ensures c.retire-other.ensures c.requires

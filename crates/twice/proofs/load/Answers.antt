-- `load` twice: what both contracts say makes answers, sessions and pools equal.
use Rattle.clips.specs.Load.{load_of}
use Rattle.twice.proofs.Same.{and_store, same₄}
use Rattle.twice.proofs.load.Goals as goal

pub returns : goal.returns
returns c =
    and_store (same₄ (λ q l p x. load_of c.args.s q l p x c.args.kind c.args.rate) c.load-one.ensures c.load-other.ensures c.requires)

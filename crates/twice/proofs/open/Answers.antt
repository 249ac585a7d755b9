-- `open` twice: what both contracts say makes answers, sessions and pools equal.
use Rattle.clips.specs.Open.{open_of}
use Rattle.twice.proofs.Same.{and_store, same₄}
use Rattle.twice.proofs.open.Goals as goal

pub returns : goal.returns
returns c =
    and_store (same₄ (λ q l p x. open_of c.args.settings q l p x c.args.rate c.args.extent) c.open-one.ensures c.open-other.ensures c.requires)

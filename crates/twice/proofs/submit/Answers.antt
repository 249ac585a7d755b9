-- `submit` twice: what both contracts say makes answers, sessions, queues and captures equal.
use Rattle.submission.specs.Submit.{submit_of}
use Rattle.twice.proofs.Same.{and_stores, same₂}
use Rattle.twice.proofs.submit.Goals as goal

pub returns : goal.returns
returns c =
    and_stores (same₂ (λ q l. submit_of c.args.s q l c.args.x c.args.at) c.submit-one.ensures c.submit-other.ensures c.requires)

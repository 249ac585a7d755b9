-- `transition` twice: what both contracts say makes answers, sessions, queues and captures equal.
use Rattle.submission.specs.Transition.{transition_of}
use Rattle.twice.proofs.Same.{and_stores, same₂}
use Rattle.twice.proofs.transition.Goals as goal

pub returns : goal.returns
returns c =
    and_stores (same₂ (λ q l. transition_of c.args.s q l c.args.f c.args.at) c.transition-one.ensures c.transition-other.ensures c.requires)

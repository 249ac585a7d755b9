-- `transition` meets its contract: what is cleared can be taken.
use mathlib.Core.Path.{sym, ap, ◌∙◌}
use Rattle.session.proofs.Parts.{parts, whole}
use Rattle.submission.specs.Transition.{weigh_transition}
use Rattle.submission.proofs.Kept.{cleared_parts}
use Rattle.submission.proofs.Ready.{not_refused}
use Rattle.submission.proofs.transition.Goals as goal

pub take-requires : goal.take-requires
unfolding weigh_transition
take-requires c =
    let w = not_refused _ _ _ _ (sym c.weigh_transition.ensures ∙ c.in-Ok.is) in
    let e = c.clear-z.ensures in
    rw (ap (λ z. z.0) e, ap (λ z. z.1) e, ap (λ z. z.2) e) (whole _ _ _ (cleared_parts _ _ _ (parts _ _ _ w.0)), w.1)

-- `Session::try_from` meets its contract.
use mathlib.Core.Path.{ap}
use Rattle.stage.specs.declared.Stage.{Stage}
use Rattle.session.specs.declared.Desk.{Desk}
use Rattle.host.specs.Kept.{session_of}
use Rattle.host.proofs.Named.{named_is, named_not, session_is, kinds_not, rest_not}
use borrow.Author.Rules.{rules}
use Rattle.host.proofs.SessionTryFromHostSession.try_from.Goals as goal

pub returns-in_err-clips_of : goal.returns-in_err-clips_of
returns-in_err-clips_of c = rw (kinds_not c.args.h (named_not _ _ _ c.in_err-clips_of.ensures.kinds)) (search rules)

pub returns-in_err-stage : goal.returns-in_err-stage
returns-in_err-stage c =
    let kinds = named_is _ _ _ c.in_ok-clips_of.ensures.kinds in
    rw (rest_not c.args.h kinds.0 (named_not _ _ _ c.in_err-stage.ensures)) (search rules)

pub returns : goal.returns
unfolding session_of
returns c =
    let kinds = named_is _ _ _ c.in_ok-clips_of.ensures.kinds in
    let rest = named_is _ _ _ c.in_ok-stage.ensures in
    rw (session_is c.args.h kinds.0 rest.0, c.in_ok-clips_of.ensures.clips kinds.0, ap (λ (z : Stage × Desk). z.0) rest.1, ap (λ (z : Stage × Desk). z.1) rest.1)

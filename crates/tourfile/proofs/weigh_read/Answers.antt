-- `weigh_read` meets its contract.
use mathlib.Core.Path.{sym, ◌∙◌}
use Rattle.std.proofs.lemmas.Result.{err_from_is_err_and}
use Rattle.tourfile.proofs.Answers.{weighs_twice, weighs_short, weighs_faulty, read_done}
use Rattle.tourfile.proofs.weigh_read.Goals as goal

pub returns-then-listed_twice : goal.returns-then-listed_twice
returns-then-listed_twice c = rw c.at.ensures (weighs_twice _ _ _ (sym c.listed_twice.ensures ∙ c.if-listed_twice.true))

pub returns-in_err-n : goal.returns-in_err-n
returns-in_err-n c =
    let p = err_from_is_err_and c.from_residual.result c.from_residual.ensures.1 in
    rw (p.1, p.2) (weighs_faulty _ _ _ (sym c.listed_twice.ensures ∙ c.if-listed_twice.false) _ (sym c.weigh.ensures ∙ c.in_err-n.was))

pub returns-then-records-n : goal.returns-then-records-n
returns-then-records-n c =
    rw c.at-then-records-n.ensures (weighs_short _ _ _ (sym c.listed_twice.ensures ∙ c.if-listed_twice.false) _ (sym c.weigh.ensures ∙ c.in_ok-n.was) c.if-records-n.true)

pub returns : goal.returns
returns c =
    sym
    (read_done _ _ _ _
    (record { once = sym c.listed_twice.ensures ∙ c.if-listed_twice.false; fine = sym c.weigh.ensures ∙ c.in_ok-n.was; fits = c.if-records-n.false }))

-- `read_tour` meets its contract.
use mathlib.Core.Path.{sym, ◌∙◌}
use Rattle.std.proofs.lemmas.Result.{err_from_is_err_and}
use Rattle.tourfile.proofs.Answers.{done_room, read_filled, read_left}
use Rattle.tourfile.proofs.read_tour.Goals as goal

pub fill-requires : goal.fill-requires
fill-requires c =
    done_room _ _ _ _ (sym c.weigh_read.ensures ∙ c.in_ok-n.was)

pub returns-in_err-n : goal.returns-in_err-n
returns-in_err-n c =
    let p = err_from_is_err_and c.from_residual.result c.from_residual.ensures.1 in
    let e = sym c.weigh_read.ensures ∙ c.in_err-n.was in
    record { value = rw (p.1, p.2) (sym e); list_after = read_left _ _ _ _ e }

pub returns : goal.returns
returns c =
    let e = sym c.weigh_read.ensures ∙ c.in_ok-n.was in
    record { value = sym e; list_after = c.fill.ensures ∙ read_filled _ _ _ _ e }

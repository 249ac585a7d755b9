-- `write_tour` meets its contract.
use mathlib.Core.Path.{sym, ap, ◌∙◌}
use native.Mathlib.Omega.{arith}
use Rattle.std.specs.Prelude.{Ok}
use Rattle.std.proofs.lemmas.Result.{err_from_is_err_and}
use Rattle.tourfile.specs.Writer.{records_of}
use Rattle.tourfile.proofs.Writes.{all_weighed}
use Rattle.tourfile.proofs.Answers.{write_twice, write_faulty, write_many, write_short, write_fine}
use Rattle.tourfile.proofs.write_tour.Goals as goal

pub returns-then-listed_twice : goal.returns-then-listed_twice
returns-then-listed_twice c =
    let a = c.args in
    let r = write_twice a.clips.now a.records.now a.out.now (sym c.listed_twice.ensures ∙ c.if-listed_twice.true) in record { value = rw c.at.ensures r.0; out_after = r.1 }

pub returns-then-n-gt4096 : goal.returns-then-n-gt4096
returns-then-n-gt4096 c =
    let a = c.args in
    let t = sym c.listed_twice.ensures ∙ c.if-listed_twice.false in
    let r = write_many a.clips.now a.records.now a.out.now t _ (sym c.weigh_records.ensures ∙ c.in_ok-n.was) c.if-n-gt4096.true in record { value = rw c.at-then-n-gt4096.ensures r.0; out_after = r.1 }

pub tour_size-size-requires : goal.tour_size-size-requires
tour_size-size-requires c =
    let a = c.args in
    let n = all_weighed a.clips.now a.records.now _ (sym c.weigh_records.ensures ∙ c.in_ok-n.was) in
    (c.if-n-gt4096.false, omega arith)

pub returns-then-out-size : goal.returns-then-out-size
unfolding records_of
returns-then-out-size c =
    let a = c.args in
    let t = sym c.listed_twice.ensures ∙ c.if-listed_twice.false in
    let w = sym c.weigh_records.ensures ∙ c.in_ok-n.was in
    let n = all_weighed a.clips.now a.records.now _ w in
    let r = write_short a.clips.now a.records.now a.out.now t _ w _ (rw n at c.tour_size-size.ensures) c.if-n-gt4096.false c.if-out-size.true in record { value = rw c.at-then-out-size.ensures r.0; out_after = r.1 }

pub put_tour-requires : goal.put_tour-requires
unfolding records_of
put_tour-requires c =
    let a = c.args in
    let w = sym c.weigh_records.ensures ∙ c.in_ok-n.was in
    let n = all_weighed a.clips.now a.records.now _ w in
    let s = rw n at c.tour_size-size.ensures in
    let f = c.if-n-gt4096.false in
    record { fine = w ∙ ap Ok n; few = omega arith; room = omega arith }

pub returns-in_err-n : goal.returns-in_err-n
returns-in_err-n c =
    let a = c.args in
    let t = sym c.listed_twice.ensures ∙ c.if-listed_twice.false in
    let p = err_from_is_err_and c.from_residual.result c.from_residual.ensures.1 in
    let r = write_faulty a.clips.now a.records.now a.out.now t _ (sym c.weigh_records.ensures ∙ c.in_err-n.was) in record { value = rw (p.1, p.2) r.0; out_after = r.1 }

pub returns : goal.returns
unfolding records_of
returns c =
    let a = c.args in
    let t = sym c.listed_twice.ensures ∙ c.if-listed_twice.false in
    let w = sym c.weigh_records.ensures ∙ c.in_ok-n.was in
    let n = all_weighed a.clips.now a.records.now _ w in
    let r = write_fine a.clips.now a.records.now a.out.now t _ w _ (rw n at c.tour_size-size.ensures) c.if-n-gt4096.false c.if-out-size.false in
    record { value = r.0; out_after = c.put_tour.ensures ∙ r.1 }

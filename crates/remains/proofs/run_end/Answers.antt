-- `run_end` meets its contract.
use mathlib.Core.Path.{◌≡◌, sym, ◌∙◌}
use native.Mathlib.Omega.{arith}
use lib.ListN.{length}
use Rattle.tourfile.specs.declared.Progress.{Progress}
use Rattle.remains.proofs.Runs.{run_stop}
use Rattle.remains.proofs.run_end.Goals as goal

pub returns : goal.returns
returns c =
    let a = c.args in
    let l = c.loop-at in
    let q : Progress = record { at = l.at; count = a.p.count; last = a.p.last } in
    let e : length a.file.now ≡ l.at = omega arith in
    e ∙ (sym (run_stop (length a.file.now) a.file.now q (λ m e. absurd (omega arith))) ∙ l.invariant)

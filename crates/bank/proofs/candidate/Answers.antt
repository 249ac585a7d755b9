-- `bank::candidate` meets its contract: a clip that ends past the pool has nothing behind it. Assumes nothing.
use Rattle.std.proofs.Common.{◌≡◌, false, leb, sym, ◌∙◌}
use Rattle.bank.specs.Room.{end_in}
use Rattle.bank.proofs.Candidates.{unfit_past}
use Rattle.bank.proofs.candidate.Goals as goal

pub returns-then-not-ends_by : goal.returns-then-not-ends_by
returns-then-not-ends_by c =
    let a = c.args in
    let e : leb (end_in a.b a.i) a.room ≡ false = sym (c.ends_by.ensures ∙ simp c.clip_in-c.ensures) ∙ c.if-not-ends_by.true in
    simp (← c.is_used.ensures, c.if-not-is_used.false, unfit_past a.b a.room a.n (end_in a.b a.i) e)

-- `holds` meets its contract: the test of some record.
use Rattle.std.proofs.Common.{ℕ, ◌∙◌, arith, rules, tests}
use Rattle.std.proofs.lemmas.Iterator.{YieldsList-from_range}
use Rattle.std.proofs.lemmas.Iterator.Search.{any_from_yields_List}
use Rattle.counts.proofs.Chains.{any_of_range}
use Rattle.timeline.specs.Record.{holds_row}
use Rattle.timeline.specs.Store.{row_at}
use Rattle.timeline.proofs.holds.Goals as goal

pub returns : goal.returns
returns c =
    let a = c.args in
    let p = λ (j : ℕ). holds_row a.h (row_at a.store.now j) in
    any_from_yields_List p _ _ _ c.any.ensures.ran (YieldsList-from_range 0 a.n a.n (cc) (omega arith)) (λ x b q k. search (rules, tests)) ∙ any_of_range p a.n

-- `count_would_go` meets its contract: the test of every record, counted.
use Rattle.std.proofs.Common.{ℕ, ◌∙◌, arith, rules, tests}
use Rattle.std.specs.List.{range_with_len}
use Rattle.std.proofs.lemmas.List.Sums.{length-filter}
use Rattle.std.proofs.lemmas.Iterator.{YieldsList-from_range}
use Rattle.std.proofs.lemmas.Iterator.Consumers.{YieldsList-from_filter, count_from_yields_List}
use Rattle.counts.proofs.Chains.{count_of_range}
use Rattle.timeline.specs.Store.{row_at}
use Rattle.timeline.specs.Queue.{is_queued}
use Rattle.timeline.proofs.count_would_go.Goals as goal

pub returns : goal.returns
returns c =
    let a = c.args in
    let p = λ (j : ℕ). is_queued a.store.now a.n (row_at a.capture.now j).number in
    count_from_yields_List c.filter.result _ c.count.ensures.ran (YieldsList-from_filter _ p (YieldsList-from_range 0 a.m a.m (cc) (omega arith)) c.filter.ensures.closure (λ x b q k. search (rules, tests)))
    ∙ length-filter p (range_with_len 0 a.m) ∙ count_of_range p a.m

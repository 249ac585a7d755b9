-- `bank::all_clear` meets its contract: the test of every slot. Assumes nothing.
use Rattle.std.proofs.Common.{◌∙◌, refl, rules, tests}
use Rattle.std.proofs.lemmas.Iterator.{YieldsList-from_range}
use Rattle.std.proofs.lemmas.Iterator.Search.{all_from_yields_List}
use Rattle.counts.proofs.Chains.{all_of_range}
use Rattle.bank.specs.Room.{clear_at}
use Rattle.bank.proofs.all_clear.Goals as goal

pub returns : goal.returns
returns c =
    let clear = clear_at c.args.b c.args.start c.args.n in
    all_from_yields_List clear _ _ _ c.all.ensures.ran (YieldsList-from_range 0 32 32 (cc) refl) (λ x b q k. search (rules, tests)) ∙ all_of_range clear 32

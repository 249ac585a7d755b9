-- `bank::samples_ok` meets its contract: the test of every sample. Assumes nothing.
use Rattle.std.proofs.Common.{◌∙◌, rules, tests}
use Rattle.std.proofs.lemmas.Iterator.{YieldsList-from_slice}
use Rattle.std.proofs.lemmas.Iterator.Search.{all_from_yields_List}
use Rattle.std.specs.Float.{nan}
use Rattle.counts.proofs.Chains.{all_of_list}
use Rattle.bank.specs.Sample.{sample_ok, samples_ok}
use Rattle.bank.proofs.samples_ok.Goals as goal

pub returns : goal.returns
unfolding samples_ok
returns c =
    let xs = c.args.samples.now in
    all_from_yields_List sample_ok _ _ _ c.all.ensures.ran (YieldsList-from_slice xs cc) (λ x b q k. search (rules, tests)) ∙ all_of_list sample_ok xs nan

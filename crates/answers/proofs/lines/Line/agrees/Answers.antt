use Rattle.std.proofs.Common.{◌∙◌, refl, rules, tests}
use Rattle.std.proofs.lemmas.Iterator.{YieldsList-from_range}
use Rattle.std.proofs.lemmas.Iterator.Search.{all_from_yields_List}
use Rattle.counts.proofs.Chains.{all_of_range}
use Rattle.answers.specs.Lines.{agrees_at}
use Rattle.answers.proofs.lines.Line.agrees.Goals as goal

pub returns : goal.returns
returns c =
    let same = agrees_at c.args.self c.args.other in
    all_from_yields_List same _ _ _ c.all.ensures.ran (YieldsList-from_range 0 24 24 (cc) refl) (λ x b q k. search (rules, tests)) ∙ all_of_range same 24

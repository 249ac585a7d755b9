-- `listed_twice` meets its contract.
use mathlib.Core.Path.{refl, ◌∙◌}
use borrow.Author.Rules.{rules}
use borrow.Author.Tests.{tests}
use Rattle.std.proofs.lemmas.Iterator.{YieldsList-from_range}
use Rattle.std.proofs.lemmas.Iterator.Search.{any_from_yields_List}
use Rattle.fields.specs.Clips.{twice_at, listed_twice}
use Rattle.fields.proofs.Tests.{any_range}
use Rattle.fields.proofs.listed_twice.Goals as goal

pub returns : goal.returns
unfolding listed_twice
returns c =
    any_from_yields_List (twice_at c.args.clips.now) _ _ c.any.result c.any.ensures.ran (YieldsList-from_range 0 32 32 refl refl) (λ x b q k. search (rules, tests))
    ∙ any_range (twice_at c.args.clips.now) 32

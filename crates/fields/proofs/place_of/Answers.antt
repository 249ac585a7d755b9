-- `place_of` meets its contract.
use mathlib.Core.Path.{◌≡◌, refl, sym, ap, ◌∙◌}
use borrow.Author.Rules.{rules}
use borrow.Author.Tests.{tests}
use Rattle.fields.specs.Clips.{place_below}
use Rattle.fields.proofs.FromBack.{place, highest, found_back}
use Rattle.fields.proofs.place_of.Goals as goal

pub returns-in-Some : goal.returns-in-Some
returns-in-Some c =
    let w = c.args.w in
    let h = found_back _ w _ (λ x b q k. search (rules, tests)) _ _ _ refl c.rposition.result c.rposition.ensures.ran in
    let e : highest c.args.clips.now w ≡ place_below c.args.clips.now w 32 = ap (place_below c.args.clips.now w) c.told-clips in
    sym (ap place c.in-Some.is) ∙ (h ∙ (ap (λ l. highest l w) c.iter.ensures.rest ∙ e))

pub returns-in-None : goal.returns-in-None
returns-in-None c =
    let w = c.args.w in
    let h = found_back _ w _ (λ x b q k. search (rules, tests)) _ _ _ refl c.rposition.result c.rposition.ensures.ran in
    let e : highest c.args.clips.now w ≡ place_below c.args.clips.now w 32 = ap (place_below c.args.clips.now w) c.told-clips in
    sym (ap place c.in-None.is) ∙ (h ∙ (ap (λ l. highest l w) c.iter.ensures.rest ∙ e))

-- `bank::bank_ok` meets its contract: what is asked of a slot held at every slot passed, and of each lower one beside it. Assumes nothing.
use Rattle.std.proofs.Common.{◌≡◌, ℕ, ◌<◌, length, get_or, sym, ◌∙◌, arith}
use borrow.Author.Count.{below_more}
use Rattle.counts.proofs.Below.{all_true, all_false}
use Rattle.bank.specs.declared.Bank.{Bank}
use Rattle.bank.specs.declared.Clip.{Clip}
use Rattle.bank.specs.Slots.{blank, clip_in}
use Rattle.bank.specs.WellFormed.{bank_ok}
use Rattle.bank.proofs.Clauses.{clip_fails, beside_fails, slot_holds, slot_free, beside_used, beside_free}
use Rattle.bank.proofs.Places.{get_d_any}
use Rattle.bank.proofs.bank_ok.Goals.{else-is_used-via-then-is_used+else-not-pair_ok, else-is_used-via-else-is_used}
use Rattle.bank.proofs.bank_ok.Goals as goal

reads : (b : Bank) (i : ℕ) (d : Clip) → length b.clips ≡ 32 → i < 32 → get_or b.clips i d ≡ clip_in b i
reads b i d l h = get_d_any b.clips i d blank (omega arith)

pub returns-then-not-clip_ok : goal.returns-then-not-clip_ok
unfolding bank_ok
returns-then-not-clip_ok c =
    let i = c.loop-i.i in
    let used = sym c.is_used.ensures ∙ c.if-not-is_used.false in
    sym (all_false _ _ i (omega arith) (clip_fails _ _ i _ (reads c.args.b i _ (omega arith) (omega arith)) used (sym c.clip_ok.ensures ∙ c.if-not-clip_ok.true)))

pub returns-then-not-pair_ok : goal.returns-then-not-pair_ok
unfolding bank_ok
returns-then-not-pair_ok c =
    let i = c.loop-i.i in
    let j = c.loop-j.j in
    let used = sym c.is_used.ensures ∙ c.if-not-is_used.false in
    let other = sym c.is_used-in-loop-j.ensures ∙ c.if-is_used.true in
    let beside = beside_used _ _ _ j (reads c.args.b j _ (omega arith) (omega arith)) other ∙ sym c.pair_ok.ensures ∙ c.if-not-pair_ok.true in
    sym (all_false _ _ i (omega arith) (beside_fails _ _ i _ (reads c.args.b i _ (omega arith) (omega arith)) used j c.loop-j-test.true beside))

pub loop-j-preserved : goal.loop-j-preserved
loop-j-preserved c =
    let j = c.loop-j.j in
    below_more _ _ c.loop-j.invariant (elim c.else-is_used.branch [
      | else-is_used-via-then-is_used+else-not-pair_ok w ↦
          beside_used _ _ _ j (reads c.args.b j _ (omega arith) (omega arith)) (sym c.is_used-in-loop-j.ensures ∙ w.if-is_used.true) ∙ sym w.pair_ok.ensures ∙ w.if-not-pair_ok.false
      | else-is_used-via-else-is_used w ↦ beside_free _ _ j (sym c.is_used-in-loop-j.ensures ∙ w.if-is_used.false)
    ])

pub loop-i-preserved-then-not-is_used : goal.loop-i-preserved-then-not-is_used
loop-i-preserved-then-not-is_used c =
    below_more _ _ c.loop-i.invariant (slot_free _ _ c.loop-i.i (sym c.is_used.ensures ∙ c.if-not-is_used.true))

pub loop-i-preserved : goal.loop-i-preserved
loop-i-preserved c =
    let i = c.loop-i.i in
    let used = sym c.is_used.ensures ∙ c.if-not-is_used.false in
    let own = sym c.clip_ok.ensures ∙ c.if-not-clip_ok.false in
    below_more _ _ c.loop-i.invariant (slot_holds _ _ i _ (reads c.args.b i _ (omega arith) (omega arith)) used own (λ k h. c.loop-j.invariant k (omega arith)))

pub returns : goal.returns
unfolding bank_ok
returns c = sym (all_true _ _ (λ k h. c.loop-i.invariant k (omega arith)))

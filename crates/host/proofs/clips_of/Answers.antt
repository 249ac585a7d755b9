-- `clips_of` meets its contract: every place passed holds its clip, and every slot passed a song or a stinger.
use mathlib.Core.Path.{◌≡◌, refl, ◌∙◌}
use native.Mathlib.Omega.{arith}
use borrow.Author.Count.{below_none, below_more}
use lib.ListN.{length, length-set}
use Rattle.host.specs.Kept.{clip_of}
use Rattle.host.proofs.Mapped.{map_done}
use Rattle.host.proofs.Named.{named_is, named_not}
use Rattle.host.proofs.Parts.{clips_turn, kind_here, kinds_are, kinds_not_at}
use borrow.Author.Rules.{rules}
use Rattle.host.proofs.clips_of.Goals as goal

pub loop-i-init : goal.loop-i-init
loop-i-init c = (search rules, search rules, refl, below_none _)

pub loop-i-preserved : goal.loop-i-preserved
loop-i-preserved c =
    let v = c.loop-i.invariant in (
      search rules,
      simp length-set v.1,
      clips_turn c.args.h.now (omega arith) c.loop-i.clips c.loop-i.i _ _ c.loop-i-test.true v.1 v.2 c.in_ok-clips.ensures,
      below_more _ _ v.3 (kind_here c.args.h.now c.loop-i.i _ (omega arith) (omega arith) ∙ (named_is _ _ _ c.in_ok-clips.ensures).0),
    )

pub returns-in_err-clips : goal.returns-in_err-clips
returns-in_err-clips c =
    let not = kinds_not_at c.args.h.now c.loop-i.i _ (omega arith) c.loop-i-test.true (named_not _ _ _ c.in_err-clips.ensures) in
    record { kinds = rw not (search rules); clips = λ e. cc (e, not) }

pub returns : goal.returns
returns c =
    let v = c.loop-i.invariant in
    let l : length c.args.h.now.clips ≡ 32 = omega arith in
    let kinds = kinds_are c.args.h.now (λ k m. v.3 k (omega arith)) in
    record {
      kinds = rw kinds;
      clips = λ e. map_done clip_of c.loop-i.clips c.args.h.now.clips c.loop-i.i (omega arith) (omega arith) v.2;
    }

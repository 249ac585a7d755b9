-- `bank::stands_by` meets its contract, in any bank that has the clip. Assumes nothing.
use mathlib.Core.Path.{◌≡◌, refl, sym}
use mathlib.Core.Bool.{true, false, ◌&&◌}
use lib.Dec.{eqb}
use borrow.Author.Tests.{le-ltb}
use Rattle.bank.specs.Slots.{used_at, live, stands_for}
use Rattle.bank.proofs.Clauses.{stands_clip}
use Rattle.bank.proofs.stands_by.Goals as goal

pub returns-then-h-ge32 : goal.returns-then-h-ge32
unfolding stands_for live
returns-then-h-ge32 c b e f = simp (le-ltb _ _ c.if-h-ge32.true)

pub returns-then-marked-clip : goal.returns-then-marked-clip
returns-then-marked-clip c b e f =
    let a = c.args in
    let t : used_at a.used a.h.slot && eqb a.clip.serial a.h.serial ≡ true = rw (sym c.is_used-marked.ensures) c.if-marked-clip.true in
    rw (stands_clip b a.h e f c.if-h-ge32.false, t) c.clip_stands.ensures

pub returns : goal.returns
returns c b e f =
    let a = c.args in
    let t : used_at a.used a.h.slot && eqb a.clip.serial a.h.serial ≡ false = rw (sym c.is_used-marked.ensures) c.if-marked-clip.false in
    rw (stands_clip b a.h e f c.if-h-ge32.false, t) refl

-- `bank::first_fit` meets its contract: the lowest start of the slots passed. Assumes nothing.
use Rattle.std.proofs.Common.{◌≡◌, ap, ◌∙◌, arith}
use native.Mathlib.Numerals.{add-one}
use Rattle.bank.specs.Room.{start_at}
use Rattle.bank.proofs.Candidates.{first_fit_by_ends, start_front, start_lower}
use Rattle.bank.proofs.first_fit.Goals as goal

pub loop-i-init : goal.loop-i-init
loop-i-init c = c.then_some-best.ensures ∙ rw c.fits.ensures (start_front _ _ _ c.requires (omega (arith, c.ranges.room.fits)))

pub loop-i-preserved : goal.loop-i-preserved
loop-i-preserved c =
    c.lower-best.ensures
    ∙ rw (c.loop-i.invariant, c.candidate.ensures, add-one c.loop-i.i) (start_lower _ _ _ c.requires (omega (arith, c.ranges.room.fits)) c.loop-i.i)

pub returns : goal.returns
returns c =
    let e : c.loop-i.i ≡ 32 = omega arith in
    c.loop-i.invariant ∙ ap start_at (rw e (first_fit_by_ends _ _ _ c.requires (omega (arith, c.ranges.room.fits))))

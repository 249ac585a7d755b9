-- A block in pieces, at the calls. Assumes nothing.
use mathlib.Core.Path.{sym, ap, ◌∙◌}
use mathlib.Core.List.{List, [], ◌∷◌, ◌++◌}
use Prim.Native.Nat.{ℕ, ◌+◌}
use lib.Ieee.{Float}
use Rattle.session.specs.declared.Session.{Session}
use Rattle.session.specs.declared.Answered.{Answered}
use Rattle.block.specs.Block.{reported, joined}
use Rattle.block.proofs.Weigh.{Accepted}
use Rattle.block.proofs.Cut.{front_accepted, rest_accepted, block_cut, block_cuts}
use Rattle.promises.specs.Calls.{State, block, with_session, after, out_of, report_of}
use Rattle.promises.specs.Cut.{InPieces, Cut}
use Rattle.promises.proofs.Fine.{block_accepts, block_says_law}
use Rattle.promises.proofs.Kept.{keeps}

-- what an accepted block gives is what its pieces give
pub cut : Cut
cut x [] g e p =
    let none =
    block_cuts x.session x.queue x.capture x.pool [] g.voices (block_accepts x [] e) tt in
    record {
      accepted = tt;
      samples = sym (ap (λ (z : Session × ℕ × List Float). z.2) none);
      passes = sym (ap (λ (z : Session × ℕ × List Float). z.1) none);
      state = sym (ap (λ (z : Session × ℕ × List Float). with_session x z.0) none);
    }
cut x (out ∷ outs) g e p =
    let a : Accepted x.session x.queue x.capture x.pool (out ++ joined outs) = block_accepts x (out ++ joined outs) e in
    let y : State = after (block out) x in
    let rest = rest_accepted x.session x.queue x.capture x.pool out (joined outs) g.voices a p.0 in
    let both = block_cut x.session x.queue x.capture x.pool out (joined outs) g.voices a p.0 in
    let r : InPieces outs y = cut y outs (keeps (block out) x tt g) (block_says_law y (joined outs) rest) p.1 in
    record {
      accepted = (block_says_law x out (front_accepted x.session x.queue x.capture x.pool out (joined outs) g.voices a p.0), r.accepted);
      samples = ap (λ (l : List Float). out_of x out ++ l) r.samples ∙ sym (ap (λ (z : Answered ℕ × List Float). z.1) both);
      passes = ap (λ (n : ℕ). report_of x out + n) r.passes ∙ sym (ap (λ (z : Answered ℕ × List Float). reported z.0.answer) both);
      state = r.state ∙ sym (ap (λ (z : Answered ℕ × List Float). with_session x z.0.session) both);
    }

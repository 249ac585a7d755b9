-- `voice_ok` meets its contract: a voice whose clip is held has a slot.
use mathlib.Core.Path.{refl, sym, ◌∙◌}
use lib.Ieee.{of_bits}
use Rattle.bank.proofs.Clauses.{live_has}
use Rattle.bank.proofs.Claims.{stinger_has}
use Rattle.session.proofs.Checks.{passes}
use Rattle.session.proofs.Sizes.{inside_frames}
use Rattle.session.proofs.voice_ok.Goals as goal

pub returns-then-not-stinger_held : goal.returns-then-not-stinger_held
returns-then-not-stinger_held c s e r f = rw (r, sym (c.stinger_held.ensures s.bank e f) ∙ c.if-not-stinger_held.true) refl

pub returns : goal.returns
unfolding of_bits
returns c s e r f =
    let a = c.args in
    let h = passes (c.stinger_held.ensures s.bank e f) c.if-not-stinger_held.false in
    let l = (live_has s.bank a.v.handle (stinger_has s.bank a.rate a.v.handle h).alive).among in
    rw (r, h, inside_frames, f l, c.declick-declick.ensures, c.is_between-target.ensures) refl

-- `song_ok` meets its contract: a song that is held has a slot.
use mathlib.Core.Path.{refl}
use Rattle.bank.proofs.Clauses.{live_has}
use Rattle.bank.proofs.Claims.{song_has}
use Rattle.session.proofs.Checks.{passes}
use Rattle.session.proofs.song_ok.Goals as goal

pub returns-then-song_held : goal.returns-then-song_held
returns-then-song_held c b e f =
    let a = c.args in
    let h = passes (c.song_held.ensures b e f) c.if-song_held.true in
    let l = (live_has b a.p.song (song_has b a.rate a.p.song h).alive).among in
    rw (h, f l, c.fits.ensures, c.extent_of.ensures) refl

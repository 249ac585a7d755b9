-- `stage::read_at` meets its contract: past the clip by the law of `proofs/Past.antt`. Assumes nothing.
use mathlib.Core.Path.{sym}
use lib.Ieee.{of_bits}
use Rattle.stage.proofs.Past.{past_clip_law}
use Rattle.stage.proofs.read_at.Goals as goal

pub returns : goal.returns
unfolding of_bits
returns c =
    let s = c.args in
    sym (past_clip_law s.pool.now s.clip s.cursor c.if-cursor-clip.false)

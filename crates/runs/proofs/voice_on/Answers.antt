-- `runs::voice_on` meets its contract. Assumes nothing.
use mathlib.Core.Path.{refl, ◌∙◌}
use Rattle.runs.proofs.Sums.{voice_sweep}
use Rattle.runs.proofs.voice_on.Goals as goal

pub returns : goal.returns
returns c =
    let s = c.args in
    let a = c.add_part-gain.ensures in
    (rw a.0 refl, a.1 ∙ voice_sweep s.pool.now s.clip s.v s.frames s.out.now c.requires.0.1)

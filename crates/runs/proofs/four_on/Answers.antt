-- `runs::four_on` meets its contract. Assumes nothing.
use mathlib.Core.Path.{refl, ◌∙◌}
use lib.ListN.{length}
use Rattle.runs.proofs.Sums.{four_sweep}
use Rattle.runs.proofs.four_on.Goals as goal

pub returns-then-all_still : goal.returns-then-all_still
returns-then-all_still c =
    let x = c.args in (
      rw (c.still_by-then-all_still-3.ensures, c.still_by-then-all_still-2.ensures, c.still_by-then-all_still.ensures, c.still_by.ensures) refl,
      rw (c.stream_of-sd.ensures, c.stream_of-sc.ensures, c.stream_of-sb.ensures, c.stream_of-sa.ensures) at c.add_four.ensures
          ∙ four_sweep x.pool.now x.frames (length x.pool.now) x.v.a x.v.b x.v.c x.v.d x.clips.a x.clips.b x.clips.c x.clips.d x.out.now (c.all_still.ensures c.if-all_still.true) c.requires,
    )

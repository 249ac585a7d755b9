-- `runs::over_sums` meets its contract. Assumes nothing.
use mathlib.Core.Path.{refl}
use Rattle.runs.proofs.Parts.{part_reads}
use Rattle.runs.proofs.over_sums.Goals as goal

pub add_both-gains-requires : goal.add_both-gains-requires
add_both-gains-requires c =
    let t = rw c.in-Some.is at c.requires.tail in (c.requires.room, c.requires.song, rw c.part_of-part.ensures (part_reads c.args.pool.now c.args.clip _ c.args.n c.requires.clip t.1), t.0)

pub cursor_by-requires : goal.cursor_by-requires
cursor_by-requires c =
    (rw c.in-Some.is at c.requires.tail).1

pub returns-in-None : goal.returns-in-None
returns-in-None c =
    let m = c.add_part-g.ensures in rw c.in-None.is (m.0, refl, m.1)

pub returns-in-Some : goal.returns-in-Some
returns-in-Some c =
    let m = c.add_both-gains.ensures in rw c.in-Some.is (m.0, rw (m.1, c.cursor_by.ensures) refl, rw (← c.part_of-part.ensures) m.2)

-- `put_command` meets its contract: the head, and both parts behind it.
use native.Mathlib.Omega.{arith}
use Rattle.fields.specs.Field.{carried}
use Rattle.tourfile.proofs.Writes.{first_fits, second_fits, command_writes}
use Rattle.tourfile.proofs.put_command.Goals as goal

pub put_part-requires : goal.put_part-requires
unfolding carried
put_part-requires c =
    let q = c.requires in
    let l = q.0 in
    rw c.first_part-first.ensures (omega arith, first_fits c.args.x q.1)

pub overflow_add-at-3 : goal.overflow_add-at-3
unfolding carried
overflow_add-at-3 c =
    let l = c.requires.0 in
    let s = rw c.first_part-first.ensures at c.size-size.ensures in
    omega arith

pub put_part-requires-2 : goal.put_part-requires-2
unfolding carried
put_part-requires-2 c =
    let q = c.requires in
    let l = q.0 in
    let s = rw c.first_part-first.ensures at c.size-size.ensures in
    rw c.second_part-second.ensures (omega arith, second_fits c.args.x q.1)

pub returns : goal.returns
returns c =
    let x = c.args in
    rw (c.put_part-2.ensures, c.put_part.ensures, c.put_head.ensures, c.size-size.ensures, c.second_part-second.ensures, c.first_part-first.ensures) (command_writes x.clips.now x.x x.out.now x.at)

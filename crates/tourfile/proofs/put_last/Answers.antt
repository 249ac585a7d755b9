-- `put_last` meets its contract.
use Rattle.tourfile.proofs.Writes.{last_writes}
use Rattle.tourfile.proofs.put_last.Goals as goal

pub returns : goal.returns
returns c =
    let a = c.args in
    rw (c.put_two-2.ensures, c.put_two.ensures, c.put_byte.ensures) (last_writes a.n a.out.now a.at)

-- `put_head` meets its contract.
use Rattle.tourfile.proofs.Writes.{head_writes, kind_small}
use borrow.Author.Rules.{rules}
use Rattle.tourfile.proofs.put_head.Goals as goal

pub overflow_cast-kind : goal.overflow_cast-kind
overflow_cast-kind c = let k = kind_small c.args.x c.requires.1 in search rules

pub returns : goal.returns
returns c =
    let a = c.args in
    rw (c.put_number.ensures, c.put_eight.ensures, c.put_start.ensures, c.carried.ensures) (head_writes a.x a.out.now a.at)

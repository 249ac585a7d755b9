-- `put_tour` meets its contract.
use Rattle.tourfile.proofs.Writes.{file_writes}
use borrow.Author.Rules.{rules}
use Rattle.tourfile.proofs.put_tour.Goals as goal

pub put_version-requires : goal.put_version-requires
put_version-requires c = let r = c.requires.room in search rules

pub put_tail-requires : goal.put_tail-requires
put_tail-requires c = let r = c.requires in record { fine = r.fine; few = r.few; room = search rules }

pub returns : goal.returns
returns c =
    let a = c.args in
    rw (c.put_tail.ensures, c.put_version.ensures) (file_writes a.clips.now a.records.now a.out.now)

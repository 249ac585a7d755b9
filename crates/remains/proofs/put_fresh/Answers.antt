-- `put_fresh` meets its contract.
use Rattle.remains.specs.Salvage.{ranges_of, kept_fields, fresh}
use Rattle.remains.proofs.Fresh.{file_writes}
use Rattle.remains.proofs.put_fresh.Goals as goal

pub returns : goal.returns
unfolding fresh
returns c =
    rw (c.put_last.ensures, c.put_kept-at.ensures.1, c.put_kept-at.ensures.0, c.put_version.ensures, c.requires.1)
    (file_writes (kept_fields c.args.file.now (ranges_of c.args.file.now)) c.args.out.now)

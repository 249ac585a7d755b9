-- `run_on` meets its contract: the run starts where the session stands.
use mathlib.Core.Path.{◌≡◌}
use lib.ListN.{length}
use borrow.Author.Rules.{rules}
use Rattle.dryrun.proofs.run_on.Goals as goal

pub dry_block-requires : goal.dry_block-requires
dry_block-requires c =
    let size : length c.args.sheet.now ≡ 2560 = search rules in
    rw (c.dry_of.ensures, size) c.requires

pub returns : goal.returns
returns c = rw c.dry_of.ensures at c.dry_block.ensures

-- `block` twice: what both contracts say makes answers, sessions and outputs equal.
use Rattle.block.specs.Block.{block_of}
use Rattle.twice.proofs.Same.{and_store, same₄}
use Rattle.twice.proofs.block.Goals as goal

pub returns : goal.returns
returns c =
    and_store (same₄ (block_of c.args.s) c.block-one.ensures c.block-other.ensures c.requires)

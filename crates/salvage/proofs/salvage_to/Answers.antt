use Rattle.std.proofs.Common.{sym, arith}
use Rattle.remains.proofs.Fresh.{done_salvage}
use Rattle.salvage.proofs.salvage_to.Goals as goal

pub write-requires : goal.write-requires
write-requires c =
    let d = done_salvage _ _ _ c.in-Ok.s (sym c.in-Ok.ensures.value) in
    (omega (arith, d.bytes, d.fits), omega (arith, d.ranges, d.listed))

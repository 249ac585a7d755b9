-- `put_row` meets its contract: five stores, none of which changes the length.
use mathlib.Core.Path.{refl}
use lib.ListN.{length-set}
use Rattle.timeline.specs.Store.{put_row}
use native.Mathlib.Omega.{arith}
use Rattle.timeline.proofs.put_row.Goals as goal

pub bounds-store-p-2 : goal.bounds-store-p-2
bounds-store-p-2 c = simp length-set (omega arith)

pub bounds-store-p-3 : goal.bounds-store-p-3
bounds-store-p-3 c = simp length-set (omega arith)

pub bounds-store-p-4 : goal.bounds-store-p-4
bounds-store-p-4 c = simp length-set (omega arith)

pub bounds-store-p-5 : goal.bounds-store-p-5
bounds-store-p-5 c = simp length-set (omega arith)

pub returns : goal.returns
unfolding put_row
returns c = refl

-- `bytes` meets its contract.
use Prim.Native.Nat.{◌+◌}
use native.Mathlib.Omega.{arith}
use lib.ListN.{get_or}
use borrow.Author.Rules.{rules}
use Rattle.fields.proofs.Made.{made_from}
use Rattle.fields.proofs.bytes.Goals as goal

pub returns : goal.returns
returns g c = λ k h. made_from _ (λ j. get_or c.args.s.now (c.args.i + j) 0) _ (λ x y q r. search rules) _ _ 0 c.from_fn.ensures.items.each k (omega arith) (omega arith)

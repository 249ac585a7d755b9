-- `pump` twice: what both contracts say makes answers, sessions, rings and stores equal.
use mathlib.Core.List.{List}
use Prim.Native.Nat.{ℕ}
use lib.Ieee.{Float}
use Rattle.pump.specs.Pump.{pump_of}
use Rattle.twice.proofs.Same.{and_store, same₄}
use Rattle.twice.proofs.pump.Goals as goal

pub returns : goal.returns
returns c =
    and_store
    (same₄ (λ (q l : List ℕ) (pool store : List Float). pump_of c.args.s q l pool c.args.r store c.args.frames)
    c.pump-one.ensures c.pump-other.ensures c.requires)

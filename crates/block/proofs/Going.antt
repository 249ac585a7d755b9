-- The first queued command of a session that is going can be read and executed. Assumes nothing.
use mathlib.Core.Path.{◌≡◌}
use mathlib.Core.List.{List}
use Prim.Native.Nat.{ℕ, suc, ◌*◌, ◌-◌, ◌≤◌, ◌<◌}
use native.Mathlib.Omega.{arith}
use lib.ListN.{length}
use Rattle.bank.specs.declared.Bank.{Bank}
use Rattle.stage.specs.declared.Settings.{Settings}
use Rattle.stage.specs.declared.Stage.{Stage}
use Rattle.session.specs.declared.Session.{Session}
use Rattle.session.proofs.Ready.{queue_lies, first_readable, first_gain, exec_ready}
use Rattle.block.specs.Block.{of_parts}
use Rattle.block.specs.Fill.{Going, Executable}

module _ (x : Settings) (b : Bank) (t : Stage) (n : ℕ) (q : List ℕ) (g : Going x b t n q) where
  abbrev session : Session
  session = of_parts x b t n g.desk

  -- the queued records lie in their store
  pub queue_stands : n * 5 ≤ length q
  queue_stands = queue_lies session q g.capture g.formed

  -- the first can be read and executed
  pub first_asked : 0 < n → Executable q n t
  first_asked pos =
      let e : n ≡ suc (n - 1) = omega arith in
      record {
        some = pos;
        lies = queue_stands;
        reads = first_readable session q g.capture g.formed (n - 1) e;
        gain = first_gain session q g.capture g.formed (n - 1) e;
        ready = exec_ready session q g.capture g.formed (n - 1) e g.number;
      }

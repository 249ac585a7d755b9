-- What the dry run's functions ask of a session; the one that is made of an accepted list has it. Definitions only.
use Rattle.std.specs.Prelude.{◌≡◌, true, List, [], ℕ, ◌^◌, ◌≤◌}
use Rattle.counts.specs.declared.Handle.{Handle}
use Rattle.session.specs.declared.Session.{Session}
use Rattle.session.specs.WellFormed.{well_formed}
use Rattle.leaps.specs.Dry.{lengths_in}

-- a session at clock 0 over its queue: well formed, with no capture, a queue of 256 and songs that are not too long
pub record Fresh (s : Session) (q : List ℕ) : Type 0 where
  pub formed : well_formed s q [] ≡ true
  pub holds : s.settings.queue ≡ 256
  pub clock : s.stage.clock.0 ≡ 0
  pub short : (h : Handle) → lengths_in s.bank h ≤ 2 ^ 40

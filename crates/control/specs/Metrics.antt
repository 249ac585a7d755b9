-- Metrics. Definitions only.
use Rattle.std.specs.Prelude.{ℕ, List, Ok, Err}
use Rattle.session.specs.declared.Session.{Session}
use Rattle.session.specs.Refusal.{unless}
use Rattle.session.specs.WellFormed.{weigh_only}
use Rattle.control.specs.declared.PerformanceMetrics.{PerformanceMetrics}
use Rattle.session.specs.declared.Answered.{Answered}
use Rattle.session.specs.Answer.{answered}

-- frames rendered equals the clock
abbrev pub metered : Session → PerformanceMetrics
metered s =
    record {
      rendered = s.stage.clock.0;
      executed = s.stage.counters.executed;
      dropped = s.desk.dropped;
      deepest = s.desk.deepest;
      swaps = s.stage.counters.swaps;
      fired = s.stage.counters.fired;
    }

-- reading them changes nothing
unfoldable pub metrics_of : Session → List ℕ → List ℕ → Answered PerformanceMetrics
metrics_of s q c = unless (weigh_only s q c) (λ k. answered (Err k) s) (answered (Ok (metered s)) s)

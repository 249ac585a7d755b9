-- Snapshots. Definitions only.
use Rattle.std.specs.Prelude.{ℕ, min, not, List, Result, Ok, Err}
use Rattle.ramp.specs.Number.{zero32, two32, between, not_below}
use Rattle.ramp.specs.Ramp.{at_rest}
use Rattle.transport.specs.declared.Transport.{Transport}
use Rattle.transport.specs.Transport.{moved_to, state_of, loop_of}
use Rattle.stage.specs.declared.Stage.{Stage}
use Rattle.stage.specs.Playhead.{playhead}
use Rattle.stage.specs.Sound.{sound}
use Rattle.session.specs.declared.Session.{Session}
use Rattle.session.specs.declared.Refusal.{Refusal}
use Rattle.session.specs.declared.Answered.{Answered}
use Rattle.session.specs.Refusal.{first, unless}
use Rattle.session.specs.Session.{with_stage, extent_now}
use Rattle.session.specs.WellFormed.{well_formed, weigh_only}
use Rattle.session.specs.Answer.{answered}
use Rattle.session.specs.Reading.{position_of, transport_state_of, master_gain_of, loop_range_of}
use Rattle.control.specs.declared.PerformanceSnapshot.{PerformanceSnapshot}

-- position, state, master target, loop
abbrev pub snapped : Session → PerformanceSnapshot
snapped s = record { position = position_of s; state = transport_state_of s; gain = master_gain_of s; looped = loop_range_of s }

-- taking one changes nothing
unfoldable pub snapshot_of : Session → List ℕ → List ℕ → Answered PerformanceSnapshot
snapshot_of s q c =
    unless (weigh_only s q c) (λ k. answered (Err k) s) (answered (Ok (snapped s)) s)

-- 1, 14
unfoldable pub weigh_apply : Session → List ℕ → List ℕ → PerformanceSnapshot → Result (Unit {0}) Refusal
weigh_apply s q c x =
    first (not (well_formed s q c)) Refusal.NotWellFormed
    (first (not (between zero32 two32 x.gain)) Refusal.BadGain
    (Ok tt))

-- loop set as by Loop, none clears it; then state; position = min(snapshot's, length), cursor the same
abbrev pub transport_by : ℕ → PerformanceSnapshot → Transport → Transport
transport_by extent x t =
    moved_to (state_of x.state (loop_of extent x.looped t)) (min x.position.0 extent) (min x.position.0 extent)

-- gain at once; clock, queue, tail and voices stay
abbrev pub stage_by : ℕ → PerformanceSnapshot → Stage → Stage
stage_by extent x g =
    record {
      clock = g.clock;
      playhead = playhead (transport_by extent x g.playhead.transport) g.playhead.song;
      sound = sound (at_rest (not_below x.gain)) g.sound.fade.tail g.sound.voices;
      counters = g.counters;
    }

-- applying one changes the stage alone
unfoldable pub apply_of : Session → List ℕ → List ℕ → PerformanceSnapshot → Answered (Unit {0})
apply_of s q c x =
    unless (weigh_apply s q c x)
    (λ k. answered (Err k) s)
    (answered (Ok tt) (with_stage s (stage_by (extent_now s) x s.stage) s.queued))

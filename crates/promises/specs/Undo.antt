-- 'The undo button in the planner applies snapshots freely.' What it counts on, in every state, whatever the mode. Definitions only.
use Rattle.std.specs.Prelude.{◌≡◌, Bool, true, false}
use Rattle.transport.specs.declared.Transport.{Transport}
use Rattle.transport.specs.Transport.{transport, loop_fits}
use Rattle.stage.specs.declared.Stage.{Stage}
use Rattle.stage.specs.Playhead.{playhead}
use Rattle.session.specs.Session.{with_stage, extent_now}
use Rattle.session.specs.Reading.{loop_range_of, laps_of}
use Rattle.control.specs.declared.PerformanceSnapshot.{PerformanceSnapshot}
use Rattle.promises.specs.Calls.{State, apply, with_session, refusal, after}

-- what t answers does not hang on an s applied before it
abbrev pub AnswersAlike : Type 0
AnswersAlike = (s t : PerformanceSnapshot) (x : State) → refusal (apply t) (after (apply s) x) ≡ refusal (apply t) x

-- applying one twice equals applying it once
abbrev pub AppliedTwice : Type 0
AppliedTwice = (s : PerformanceSnapshot) (x : State) → after (apply s) (after (apply s) x) ≡ after (apply s) x

-- its loop is none or fits the current song
abbrev pub fits_now : State → PerformanceSnapshot → Bool
fits_now x t = loop_fits (extent_now x.session) t.looped

-- applying s and then an accepted t equals applying t alone where t's loop is none or fits the current song
abbrev pub LastApplied : Type 0
LastApplied = (s t : PerformanceSnapshot) (x : State) → refusal (apply t) x ≡ 0 → fits_now x t ≡ true → after (apply t) (after (apply s) x) ≡ after (apply t) x

-- the second state with the first one's loop, and its laps
abbrev pub with_loop_of : State → State → State
with_loop_of y x =
    let g : Stage = x.session.stage in
    let t : Transport = g.playhead.transport in
    with_session x (with_stage x.session (
    record {
      clock = g.clock;
      playhead = playhead (transport t.state t.position.0 t.cursor.0 (loop_range_of y.session) (laps_of y.session)) g.playhead.song;
      sound = g.sound;
      counters = g.counters;
    })
    x.session.queued)

-- where t's loop doesn't fit, s's result for the loop remains, with its laps, and all else is t's
abbrev pub LoopRemains : Type 0
LoopRemains =
    (s t : PerformanceSnapshot) (x : State) → refusal (apply t) x ≡ 0 → fits_now x t ≡ false
    → after (apply t) (after (apply s) x) ≡ with_loop_of (after (apply s) x) (after (apply t) x)

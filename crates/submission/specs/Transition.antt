-- The transition call: it first takes out every queued Transition and its capture record. Definitions only.
use Rattle.std.specs.Prelude.{ℕ, not, List, Result}
use Rattle.counts.specs.declared.SongFrame.{SongFrame}
use Rattle.timeline.specs.declared.Command.{Command}
use Rattle.timeline.specs.Store.{Kept}
use Rattle.timeline.specs.Queue.{drop_transitions, drop_captured}
use Rattle.transport.specs.declared.At.{At}
use Rattle.session.specs.declared.Desk.{Desk}
use Rattle.session.specs.declared.Session.{Session}
use Rattle.session.specs.declared.Refusal.{Refusal}
use Rattle.session.specs.Refusal.{first, unless}
use Rattle.session.specs.Session.{desk_of, with_queue, captured_now}
use Rattle.session.specs.WellFormed.{well_formed}
use Rattle.session.specs.declared.Answered.{Answered}
use Rattle.submission.specs.Weigh.{weigh_command, scales_of, stands_now, capture_room}
use Rattle.submission.specs.Submit.{taken, refused}

-- the queue without the older ones
abbrev pub cleared_queue : Session → List ℕ → Kept
cleared_queue s q = drop_transitions q s.queued

-- the capture without their records
abbrev pub cleared_capture : Session → List ℕ → List ℕ → Kept
cleared_capture s q c = drop_captured c (captured_now s.desk) q s.queued

-- the session without them
abbrev pub cleared : Session → List ℕ → List ℕ → Session
cleared s q c =
    let d : Desk = s.desk in
    with_queue s (cleared_queue s q).count (desk_of d.number d.deepest d.dropped d.capturing (cleared_capture s q c).count)

-- 1, then the command, with 15 and 16 weighed as if the older ones had gone
unfoldable pub weigh_transition : Session → List ℕ → List ℕ → SongFrame → Result (Unit {0}) Refusal
weigh_transition s q c f =
    let z : Session = cleared s q c in
    first (not (well_formed s q c)) Refusal.NotWellFormed
    (weigh_command (scales_of z (cleared_queue s q).words (capture_room z)) (stands_now z (Command.Transition f)) (Command.Transition f))

-- refused, it drops none
unfoldable pub transition_of : Session → List ℕ → List ℕ → SongFrame → At → Answered ℕ × List ℕ × List ℕ
transition_of s q c f at =
    unless (weigh_transition s q c f)
    (refused s q c)
    (taken (cleared s q c) (cleared_queue s q).words (cleared_capture s q c).words (Command.Transition f) at)

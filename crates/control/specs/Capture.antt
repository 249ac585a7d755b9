-- Capture. Definitions only.
use Rattle.std.specs.Prelude.{ℕ, ◌*◌, Bool, true, false, not, List, ltb, length, Result, Ok, Err}
use Rattle.timeline.specs.Store.{copied}
use Rattle.session.specs.declared.Session.{Session}
use Rattle.session.specs.declared.Refusal.{Refusal}
use Rattle.session.specs.declared.Answered.{Answered}
use Rattle.session.specs.Refusal.{first, unless}
use Rattle.session.specs.Session.{desk_of, with_desk, captured_now}
use Rattle.session.specs.WellFormed.{well_formed, weigh_only}
use Rattle.session.specs.Answer.{answered}

-- capture on or off, with no record
abbrev pub capturing : Bool → Session → Session
capturing on s = with_desk s (desk_of s.desk.number s.desk.deepest s.desk.dropped on 0)

-- capture starts empty each time, also while it runs
unfoldable pub start_capture_of : Session → List ℕ → List ℕ → Answered (Unit {0})
start_capture_of s q c =
    unless (weigh_only s q c) (λ k. answered (Err k) s) (answered (Ok tt) (capturing true s))

-- 1, 20
unfoldable pub weigh_stop : Session → List ℕ → List ℕ → List ℕ → Result (Unit {0}) Refusal
weigh_stop s q c list =
    first (not (well_formed s q c)) Refusal.NotWellFormed
    (first (ltb (length list) (captured_now s.desk * 5)) Refusal.ListTooShort
    (Ok tt))

-- stopping copies its records to the list's front and keeps the rest of the list; none if capture is off
-- answer and session; list
unfoldable pub stop_capture_of : Session → List ℕ → List ℕ → List ℕ → Answered ℕ × List ℕ
stop_capture_of s q c list =
    unless (weigh_stop s q c list)
    (λ k. (answered (Err k) s, list))
    (answered (Ok (captured_now s.desk)) (capturing false s), copied c (captured_now s.desk) list)

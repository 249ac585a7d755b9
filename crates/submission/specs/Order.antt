-- What two orders of submissions are compared by: the commands that wait, the records of a running capture, and numbers exchanged. Definitions only.
use Rattle.std.specs.Prelude.{◌≡◌, ℕ, Bool, true, false, cond, List, [], ◌∷◌, map, eqb, Result, Ok, Err}
use Rattle.timeline.specs.declared.QueueRecord.{QueueRecord}
use Rattle.timeline.specs.declared.Submission.{Submission}
use Rattle.timeline.specs.Queue.{queue}
use Rattle.transport.specs.declared.At.{At}
use Rattle.transport.specs.Deadline.{deadline_of}
use Rattle.stage.specs.declared.Stage.{Stage}
use Rattle.session.specs.declared.Desk.{Desk}
use Rattle.session.specs.declared.Session.{Session}
use Rattle.session.specs.Session.{desk_of, with_desk, with_stage, captured_now}
use Rattle.session.specs.declared.Answered.{Answered}
use Rattle.session.specs.Answer.{answered}
use Rattle.submission.specs.Submit.{submit_of}
use Rattle.session.specs.declared.Refusal.{Refusal}

-- a submission is accepted if it answers a number
abbrev pub accepted : Result ℕ Refusal → Bool
accepted (Ok n) = true
accepted (Err k) = false

-- a submission that comes next, with what the call before left
abbrev pub then_submit : Answered ℕ × List ℕ × List ℕ → Submission → At → Answered ℕ × List ℕ × List ℕ
then_submit z x at = submit_of z.0.session z.1 z.2 x at

-- the clock frame that a command is for
abbrev pub due_at : Session → At → ℕ
due_at s at = (deadline_of s.stage.clock s.stage.playhead.transport at).0

-- the queued commands, the first to execute at the head
abbrev pub waiting : Session → List ℕ → List QueueRecord
waiting s q = queue q s.queued

-- the records of a running capture, the last at the head; none with capture off
abbrev pub recorded : Session → List ℕ → List QueueRecord
recorded s c = queue c (captured_now s.desk)

-- a record with the numbers a and b exchanged
abbrev pub exchanged : ℕ → ℕ → QueueRecord → QueueRecord
exchanged a b r = record { at = r.at; number = cond (eqb r.number a) b (cond (eqb r.number b) a r.number); command = r.command }

-- the last two of a capture in exchanged places
abbrev pub last_exchanged : List QueueRecord → List QueueRecord
last_exchanged [] = []
last_exchanged (x ∷ []) = x ∷ []
last_exchanged (x ∷ (y ∷ l)) = y ∷ (x ∷ l)

-- the same session but for the numbers a and b exchanged, in queue and capture, and the capture's last two places
pub record Alike (a b : ℕ) (y z : Answered ℕ × List ℕ × List ℕ) : Type 0 where
  pub session : y.0.session ≡ z.0.session
  pub queue : waiting y.0.session y.1 ≡ map (exchanged a b) (waiting z.0.session z.1)
  pub capture : recorded y.0.session y.2 ≡ last_exchanged (map (exchanged a b) (recorded z.0.session z.2))

-- a session with its deepest depth forgotten
abbrev pub shallow : Session → Session
shallow s =
    let d : Desk = s.desk in
    with_desk s (desk_of d.number 0 d.dropped d.capturing d.captured)

-- what a call left, after a block that came to a stage and left n commands queued
abbrev pub then_block : Answered ℕ × List ℕ × List ℕ → Stage → ℕ → Answered ℕ × List ℕ × List ℕ
then_block z x n = (answered z.0.answer (with_stage z.0.session x n), z.1, z.2)

-- the same but for the deepest queue seen
pub record AlikeButDeepest (y z : Answered ℕ × List ℕ × List ℕ) : Type 0 where
  pub answer : y.0.answer ≡ z.0.answer
  pub session : shallow y.0.session ≡ shallow z.0.session
  pub queue : waiting y.0.session y.1 ≡ waiting z.0.session z.1
  pub capture : recorded y.0.session y.2 ≡ recorded z.0.session z.2

-- 'Bad ones are refused by the numbers in document 01, with every lent store unchanged and the session too, save that a full queue counts the refusal.'
-- Definitions only.
use Rattle.std.specs.Prelude.{◌≡◌, ◌≢◌, cond, List, ℕ, ◌+◌, ◌-◌, ◌^◌, min, eqb, Float}
use Rattle.session.specs.declared.Desk.{Desk}
use Rattle.session.specs.declared.Session.{Session}
use Rattle.session.specs.Session.{desk_of, with_desk}
use Rattle.control.specs.Capture.{stop_capture_of}
use Rattle.promises.specs.Calls.{State, Feed, Call, block, pump, stop_capture, with_session, refusal, after, out_of, feed_of, Opening, opened}

-- a refusal's number adds one to the dropped count exactly if it is 15, held at 2^64 - 1; nothing else changes
abbrev pub counted_by : ℕ → Session → Session
counted_by n s =
    let d : Desk = s.desk in
    with_desk s (desk_of d.number d.deepest (cond (eqb n 15) (min (d.dropped + 1) (2 ^ 64 - 1)) d.dropped) d.capturing d.captured)

-- what a stop leaves in its list
abbrev pub list_of : State → List ℕ → List ℕ
list_of x list = (stop_capture_of x.session x.queue x.capture list).1

-- for every call and every state, well formed or not
pub record Refused : Type 0 where
  -- session and stores are as they were, but for the count
  pub state : (k : Call) (x : State) → refusal k x ≢ 0 → after k x ≡ with_session x (counted_by (refusal k x) x.session)
  -- a block's output is as it was given,
  pub output : (x : State) (out : List Float) → refusal (block out) x ≢ 0 → out_of x out ≡ out
  -- a pump's ring and every sample of its store,
  pub feed : (x : State) (f : Feed) (n : ℕ) → refusal (pump f n) x ≢ 0 → feed_of x f n ≡ f
  -- a stop's list,
  pub list : (x : State) (list : List ℕ) → refusal (stop_capture list) x ≢ 0 → list_of x list ≡ list
  -- and every store that is lent to an opening; what it gives in the place of a session every call refuses with 1
  pub opening : (o : Opening) → (opened o).0 ≢ 0
      → ((opened o).1.queue ≡ o.queue) × ((opened o).1.capture ≡ o.capture) × ((opened o).1.pool ≡ o.pool) × ((k : Call) → refusal k (opened o).1 ≡ 1)

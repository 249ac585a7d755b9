-- Order is free: two submissions for different clock frames, accepted in both orders, give the same session but for their exchanged numbers and capture
-- places. Assumes nothing.
use mathlib.Core.Path.{◌≡◌, refl, sym, ap, ap₂, ◌∙◌}
use mathlib.Core.Logic.{◌≢◌}
use mathlib.Core.Bool.{Bool, true, false, cond}
use mathlib.Core.List.{List, [], ◌∷◌, map}
use Prim.Native.Nat.{ℕ, zero, suc, ◌+◌, ◌≤◌, ◌<◌}
use native.Mathlib.Omega.{arith}
use borrow.Author.Tests.{eq-eqb, ne_eqb}
use Rattle.laws.specs.Order.{insert_by}
use Rattle.laws.proofs.Sorted.{map_insert, insert_swap}
use Rattle.timeline.specs.declared.Submission.{Submission}
use Rattle.timeline.specs.declared.QueueRecord.{QueueRecord}
use Rattle.timeline.specs.Command.{command_of, typed}
use Rattle.timeline.specs.Record.{record_of}
use Rattle.timeline.specs.Store.{row_at}
use Rattle.timeline.specs.Queue.{queue, frame, entry_ok}
use Rattle.timeline.proofs.WellFormed.{entry_to, queue_entry, capture_entry}
use Rattle.transport.specs.declared.At.{At}
use Rattle.transport.specs.Deadline.{deadline_of}
use Rattle.session.specs.declared.Session.{Session}
use Rattle.session.specs.Session.{with_queue, captured_now}
use Rattle.session.proofs.Parts.{Parts}
use Rattle.session.specs.declared.Answered.{Answered}
use Rattle.submission.specs.Submit.{desk_taken, submit_of}
use Rattle.submission.specs.Order.{accepted, then_submit, due_at, waiting, recorded, exchanged, last_exchanged, Alike}
use Rattle.submission.proofs.Left.{record_for, submit_parts, submit_session, submit_takes}

-- ---- numbers exchanged

-- the record of a command under a number
abbrev under : ℕ → Session → Submission → At → QueueRecord
under k s x at = record { at = deadline_of s.stage.clock s.stage.playhead.transport at; number = k; command = command_of x }

module _ (n : ℕ) where
  abbrev swap : QueueRecord → QueueRecord
  swap = exchanged (n + 1) (n + 2)

  -- a number given before stays,
  old_stays : (r : QueueRecord) → r.number ≤ n → swap r ≡ r
  old_stays r l = rw (ne_eqb r.number (n + 1) (omega arith), ne_eqb r.number (n + 2) (omega arith))

  olds_stay : (ws : List ℕ) (k : ℕ) → ((j : ℕ) → j < k → entry_ok n (row_at ws j) ≡ true) → map swap (queue ws k) ≡ queue ws k
  olds_stay ws zero h = refl
  olds_stay ws (suc k) h = ap₂ ◌∷◌ (old_stays (record_of (row_at ws k)) (entry_to n (row_at ws k) (h k (omega arith)))) (olds_stay ws k (λ j l. h j (omega arith)))

  module _ (s : Session) (x : Submission) (at : At) where
    first_swaps : swap (under (n + 1) s x at) ≡ under (n + 2) s x at
    first_swaps = rw (eq-eqb (n + 1) (n + 1) refl)

    second_swaps : swap (under (n + 2) s x at) ≡ under (n + 1) s x at
    second_swaps = rw (ne_eqb (n + 2) (n + 1) (omega arith), eq-eqb (n + 2) (n + 2) refl)

  module _ (s : Session) (x y : Submission) (at bt : At) where
    waits_swap : due_at s at ≢ due_at s bt → (l : List QueueRecord) → map swap l ≡ l
        → map swap (insert_by frame (under (n + 2) s x at) (insert_by frame (under (n + 1) s y bt) l))
        ≡ insert_by frame (under (n + 2) s y bt) (insert_by frame (under (n + 1) s x at) l)
    waits_swap apart l e =
        map_insert swap frame (under (n + 2) s x at) (insert_by frame (under (n + 1) s y bt) l)
        ∙ ap₂ (insert_by frame) (second_swaps s x at) (map_insert swap frame (under (n + 1) s y bt) l ∙ ap₂ (insert_by frame) (first_swaps s y bt) e)
        ∙ insert_swap frame (under (n + 1) s x at) (under (n + 2) s y bt) l apart

    records_swap : (on : Bool) (l : List QueueRecord) → map swap l ≡ l
        → last_exchanged (map swap (cond on (under (n + 2) s x at ∷ (under (n + 1) s y bt ∷ l)) [])) ≡ cond on (under (n + 2) s y bt ∷ (under (n + 1) s x at ∷ l)) []
    records_swap true l e = ap₂ ◌∷◌ (first_swaps s y bt) (ap₂ ◌∷◌ (second_swaps s x at) e)
    records_swap false l e = refl

-- ---- two submissions, one after the other

abbrev took : Session → Session
took s = with_queue s (s.queued + 1) (desk_taken s)

module _ (s : Session) (q c : List ℕ) (x y : Submission) (at bt : At) (tx : typed (command_of x) ≡ true) (ty : typed (command_of y) ≡ true)
    (okx : accepted (submit_of s q c x at).0.answer ≡ true) (oky : accepted (then_submit (submit_of s q c x at) y bt).0.answer ≡ true) where
  abbrev z : Answered ℕ × List ℕ × List ℕ
  z = submit_of s q c x at

  abbrev n : ℕ
  n = s.desk.number

  second : record_for z.0.session (command_of y) bt ≡ under (n + 2) s y bt
  second = let two : n + 1 + 1 ≡ n + 2 = omega arith in rw (submit_session s q c x at okx, two)

  both_session : (then_submit z y bt).0.session ≡ took (took s)
  both_session = submit_session z.0.session z.1 z.2 y bt oky ∙ ap took (submit_session s q c x at okx)

  both_wait : waiting (then_submit z y bt).0.session (then_submit z y bt).1 ≡ insert_by frame (under (n + 2) s y bt) (insert_by frame (under (n + 1) s x at) (waiting s q))
  both_wait =
      (submit_takes z.0.session z.1 z.2 y bt oky ty).waits
      ∙ ap₂ (insert_by frame) second (submit_takes s q c x at okx tx).waits

  both_recorded : recorded (then_submit z y bt).0.session (then_submit z y bt).2
      ≡ cond s.desk.capturing (under (n + 2) s y bt ∷ (under (n + 1) s x at ∷ recorded s c)) []
  both_recorded =
      (submit_takes z.0.session z.1 z.2 y bt oky ty).records
      ∙ rw (second, (submit_takes s q c x at okx tx).records, ap (λ w. w.desk.capturing) (submit_session s q c x at okx)) (go s.desk.capturing)
    where
      go : (on : Bool) → cond on (under (n + 2) s y bt ∷ cond on (under (n + 1) s x at ∷ recorded s c) []) [] ≡ cond on (under (n + 2) s y bt ∷ (under (n + 1) s x at ∷ recorded s c)) []
      go true = refl
      go false = refl

-- ---- in either order

module _ (s : Session) (q c : List ℕ) (x y : Submission) (at bt : At) (tx : typed (command_of x) ≡ true) (ty : typed (command_of y) ≡ true) where
  -- two submissions for different clock frames, accepted in both orders, give the same session but for their exchanged numbers and capture places
  pub either_order : due_at s at ≢ due_at s bt
      → accepted (submit_of s q c x at).0.answer ≡ true → accepted (then_submit (submit_of s q c x at) y bt).0.answer ≡ true
      → accepted (submit_of s q c y bt).0.answer ≡ true → accepted (then_submit (submit_of s q c y bt) x at).0.answer ≡ true
      → Alike (s.desk.number + 1) (s.desk.number + 2) (then_submit (submit_of s q c x at) y bt) (then_submit (submit_of s q c y bt) x at)
  either_order apart x1 y2 y1 x2 =
      let n : ℕ = s.desk.number in
      let p : Parts s q c = submit_parts s q c x at x1 in
      let waited = olds_stay n q s.queued (queue_entry n q s.queued p.queue) in
      let captured = olds_stay n c (captured_now s.desk) (capture_entry n c (captured_now s.desk) p.capture) in
      record {
        session = both_session s q c x y at bt tx ty x1 y2 ∙ sym (both_session s q c y x bt at ty tx y1 x2);
        queue =
            both_wait s q c x y at bt tx ty x1 y2
            ∙ sym (ap (map (swap n)) (both_wait s q c y x bt at ty tx y1 x2) ∙ waits_swap n s x y at bt apart (waiting s q) waited);
        capture =
            both_recorded s q c x y at bt tx ty x1 y2
            ∙ sym
            (ap (λ l. last_exchanged (map (swap n) l)) (both_recorded s q c y x bt at ty tx y1 x2)
            ∙ records_swap n s x y at bt s.desk.capturing (recorded s c) captured);
      }

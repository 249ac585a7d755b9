-- What stopping capture leaves in the list: the capture's records at its front, the rest as it was, and nothing new if capture is off. Assumes nothing.
use mathlib.Core.Path.{◌≡◌, refl, sym, ap}
use mathlib.Core.Bool.{true, false, not}
use mathlib.Core.List.{List}
use Prim.Native.Nat.{ℕ, ◌*◌, ◌≤◌, ◌<◌}
use native.Mathlib.Omega.{arith}
use lib.ListN.{length, take, drop}
use lib.Seq.{length-take-le, drop_at}
use borrow.Author.Tests.{ltb-false, lt-ltb, le-ltb, not-false}
use Rattle.timeline.specs.Queue.{queue}
use Rattle.timeline.specs.Store.{copied}
use Rattle.timeline.proofs.Queue.{queue_copied}
use Rattle.session.specs.declared.Session.{Session}
use Rattle.session.specs.declared.Refusal.{Refusal}
use Rattle.session.specs.Session.{captured_now}
use Rattle.session.specs.WellFormed.{well_formed}
use Rattle.session.specs.Answer.{refused, gives, answered, says}
use Rattle.session.proofs.Parts.{parts}
use Rattle.session.proofs.Refuse.{stop, skip, passed, unless_fine, unless_refused}
use Rattle.session.specs.declared.Answered.{Answered}
use Rattle.control.specs.Capture.{capturing, weigh_stop, stop_capture_of}
use Rattle.std.specs.Prelude.{Ok}

-- the captured records lie in the capture's store
pub stored : (s : Session) (q c : List ℕ) → well_formed s q c ≡ true → captured_now s.desk * 5 ≤ length c
stored s q c formed = let p = parts s q c formed in let a = p.captured in let b = p.capture_size in omega arith

-- a stop that is not refused has a list with room for them
pub fine_room : (s : Session) (q c list : List ℕ) → weigh_stop s q c list ≡ Ok tt → (captured_now s.desk * 5 ≤ length list) × (captured_now s.desk * 5 ≤ length c)
unfolding weigh_stop
fine_room s q c list fine =
    let p1 = passed _ _ _ fine in
    (ltb-false (length list) (captured_now s.desk * 5) (passed _ _ _ p1.1).0, stored s q c (not-false _ p1.0))

module _ (s : Session) (q c list : List ℕ) (formed : well_formed s q c ≡ true) where
  -- a list that is too short is refused with 20
  pub short_refused : length list < captured_now s.desk * 5 → says (stop_capture_of s q c list).0.answer ≡ refused 20
  unfolding stop_capture_of weigh_stop
  short_refused l =
      ap (λ (a : Answered ℕ × List ℕ). says a.0.answer)
      (unless_refused (weigh_stop s q c list) _ _ Refusal.ListTooShort (sym (skip _ _ _ _ (ap not formed) (stop _ _ _ (lt-ltb _ _ l)))))

  module _ (room : captured_now s.desk * 5 ≤ length list) where
    -- in any other the records are copied
    pub stop_done : stop_capture_of s q c list ≡ (answered (Ok (captured_now s.desk)) (capturing false s), copied c (captured_now s.desk) list)
    unfolding stop_capture_of weigh_stop
    stop_done = unless_fine (weigh_stop s q c list) _ _ (sym (skip _ _ _ _ (ap not formed) (skip _ _ _ _ (le-ltb _ _ room) refl)))

    -- they are the list's first
    pub stop_front : queue (stop_capture_of s q c list).1 (captured_now s.desk) ≡ queue c (captured_now s.desk)
    stop_front = rw stop_done (queue_copied c (captured_now s.desk) list (stored s q c formed))

    -- and the rest of the list is as it was
    pub stop_rest : drop (captured_now s.desk * 5) (stop_capture_of s q c list).1 ≡ drop (captured_now s.desk * 5) list
    unfolding copied
    stop_rest =
        let n : ℕ = captured_now s.desk * 5 in
        rw stop_done (drop_at (take n c) (drop n list) n (length-take-le n c (stored s q c formed)))

  -- with capture off nothing is copied: the list stays, whatever its length
  pub stop_off : s.desk.capturing ≡ false → (says (stop_capture_of s q c list).0.answer ≡ gives 0) × ((stop_capture_of s q c list).1 ≡ list)
  unfolding copied
  stop_off e =
      let none : captured_now s.desk ≡ 0 = rw e in
      let d = stop_done (omega arith) in
      (rw (d, none), rw (d, none))

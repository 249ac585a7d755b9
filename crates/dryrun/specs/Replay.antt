-- Why each record of a replay is skipped. Definitions only.
use Rattle.std.specs.Prelude.{ℕ, zero, suc, List, set, Result, Ok, Err}
use Rattle.timeline.specs.Store.{row_at}
use Rattle.session.specs.declared.Session.{Session}
use Rattle.session.specs.Refusal.{number_of}
use Rattle.submission.specs.Replay.{Replaying, weigh_replayed, replayed}
use Rattle.session.specs.declared.Refusal.{Refusal}

-- the number of a refusal, 0 for none
abbrev pub reason_in : Result (Unit {0}) Refusal → ℕ
reason_in (Ok tt) = 0
reason_in (Err k) = number_of k

-- why record n is skipped: the number of its refusal when the replay has come to it, 0 if it is taken
unfoldable pub reason_of : Session → List ℕ → List ℕ → ℕ → ℕ
reason_of s q list n =
    let z : Replaying = replayed s q list n in
    reason_in (weigh_replayed z.session z.queue (row_at list n))

-- the reasons of the first n records at a store's front; what stands behind them stays
unfoldable pub reasons_into : List ℕ → Session → List ℕ → List ℕ → ℕ → List ℕ
reasons_into ws s q list zero = ws
reasons_into ws s q list (suc n) = set (reasons_into ws s q list n) n (reason_of s q list n)

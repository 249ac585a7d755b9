-- The reasons, noted record by record. Assumes nothing.
use mathlib.Core.Path.{◌≡◌, refl}
use mathlib.Core.Bool.{true}
use mathlib.Core.List.{List, []}
use Prim.Native.Nat.{ℕ, ◌+◌, ◌*◌, ◌^◌, ◌≤◌, ◌<◌}
use native.Mathlib.Omega.{arith}
use native.Mathlib.Numerals.{add-one}
use lib.ListN.{length, set}
use Rattle.timeline.specs.declared.Row.{Row}
use Rattle.timeline.specs.Store.{row_at}
use Rattle.timeline.specs.Queue.{stingers}
use Rattle.session.specs.declared.Session.{Session}
use Rattle.session.specs.WellFormed.{well_formed}
use Rattle.submission.specs.Replay.{Replaying, weigh_replayed, replayed}
use Rattle.submission.specs.Ready.{RowReady}
use Rattle.submission.proofs.Ready.{row_ready}
use Rattle.dryrun.specs.Replay.{reason_in, reason_of, reasons_into}

-- where a replay stands that can go on, a record can be weighed
pub weighable : (z : Replaying) → RowReady z
    → (z.session.queued * 5 ≤ length z.queue) × (stingers z.queue z.session.queued + z.session.stage.sound.voices.count ≤ 16)
weighable z r = (omega arith, r.stinging)

module _ (s : Session) (q list : List ℕ) (n : ℕ) (z : Replaying) (here : z ≡ replayed s q list n) where
  -- a replay of at most 256 records can go on,
  pub goes_on : well_formed s q [] ≡ true → s.desk.dropped < 2 ^ 64 → n < 256 → RowReady z
  goes_on formed small few = rw here (row_ready s q [] formed small list n (omega arith))

  -- and the reason of its next record stands behind the others
  pub noted : (ws : List ℕ) (x : Row) (why : ℕ) → x ≡ row_at list n → why ≡ reason_in (weigh_replayed z.session z.queue x)
      → set (reasons_into ws s q list n) n why ≡ reasons_into ws s q list (n + 1)
  unfolding reasons_into reason_of
  noted ws x why e f = rw (add-one n, f, e, here) refl

-- 'A stale handle is refused and never reads another clip.' Definitions only.
use Rattle.std.specs.Prelude.{◌≡◌, true, List, ℕ, suc, ◌+◌, ◌/◌, ◌≤◌, ◌<◌, length}
use Rattle.laws.specs.Block.{stand, block as block_from}
use Rattle.laws.specs.Queue.{Each}
use Rattle.counts.specs.declared.Handle.{Handle}
use Rattle.counts.specs.Handles.{claims}
use Rattle.timeline.specs.declared.Submission.{Submission}
use Rattle.timeline.specs.Command.{command_of, claim_of, gain_ok}
use Rattle.timeline.specs.Record.{read_of}
use Rattle.timeline.specs.Store.{row_at}
use Rattle.transport.specs.declared.At.{At}
use Rattle.bank.specs.Recording.{View, view_of}
use Rattle.stage.specs.Machine.{machine_of}
use Rattle.block.specs.Block.{ran_of}
use Rattle.submission.specs.Order.{waiting}
use Rattle.submission.specs.Replay.{Replaying, report_of, replayed}
use Rattle.promises.specs.Calls.{State, Call, retire, submit, replay, state, refusal, after, after_all, Given}
use Rattle.promises.specs.Kept.{Good}
use Rattle.promises.specs.Retire.{Live, Stale}

-- every call of a list is given what is of its type
abbrev pub AllGiven : List Call → Type 0
AllGiven ks = Each Given ks

-- a serial that was given, by opening or a load
abbrev pub WasGiven : Handle → State → Type 0
WasGiven h x = (1 ≤ h.serial) × (h.serial ≤ x.session.bank.last)

-- a record of a replay is skipped: session and queue stay, and one more is counted as skipped for something else than a full queue
abbrev pub skipped : Replaying → Replaying
skipped z =
    record { session = z.session; queue = z.queue; report = report_of z.report.taken z.report.full (z.report.skipped + 1) }

pub record StaleForGood : Type 0 where
  -- a retire that is done leaves its handle so: given, and not live
  pub retired : (h : Handle) (x : State) → refusal (retire h) x ≡ 0 → WasGiven h (after (retire h) x) × Stale h (after (retire h) x)
  -- a handle whose serial was given and that is not live stays so after any calls
  pub stays : (h : Handle) (x : State) (ks : List Call) → Good x → AllGiven ks → WasGiven h x → Stale h x → WasGiven h (after_all ks x) × Stale h (after_all ks x)
  -- retiring a stale handle answers 11,
  pub retiring : (h : Handle) (x : State) → Good x → Stale h x → refusal (retire h) x ≡ 11
  -- and so does every submission that names it, with a gain that 14 allows
  pub submitting : (h : Handle) (x : State) (y : Submission) (at : At) → Good x → Stale h x → claims h (claim_of (command_of y)) ≡ true → gain_ok (command_of y) ≡ true
      → refusal (submit y at) x ≡ 11
  -- a replay goes through its list, record by record,
  pub through : (x : State) (list : List ℕ) → Good x
      → let z : Replaying = replayed x.session x.queue list (length list / 5) in after (replay list) x ≡ state z.session z.queue x.capture x.pool
  -- and a record that names it is skipped, wherever it stands there
  pub replaying : (h : Handle) (x : State) (list : List ℕ) (j : ℕ) → Stale h x → j < length list / 5 → claims h (claim_of (read_of (row_at list j))) ≡ true
      → replayed x.session x.queue list (suc j) ≡ skipped (replayed x.session x.queue list j)
  -- no frame reads it: whatever the handles that are not live stood for, n frames are the same
  pub reading : (x : State) (n : ℕ) (other : View) → Good x → ((h : Handle) → Live h x → view_of x.pool x.session.bank h ≡ other h)
      → block_from (machine_of x.session.settings other) n (stand x.session.stage (waiting x.session x.queue)) ≡ ran_of x.session x.queue x.pool n

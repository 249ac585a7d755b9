-- What every command has that a session takes, every command has that waits or is captured in a session reached from opening. Assumes nothing.
use mathlib.Core.Path.{◌≡◌, refl, sym, ap, subst}
use mathlib.Core.Logic.{◌≢◌}
use mathlib.Core.Bool.{Bool, true, false, cond}
use mathlib.Core.List.{List, [], ◌∷◌}
use Prim.Native.Nat.{ℕ, zero, suc, ◌/◌}
use native.Mathlib.Omega.{arith}
use lib.Ieee.{Float}
use lib.ListN.{length}
use Rattle.laws.specs.Block.{stand}
use Rattle.laws.specs.Queue.{Each}
use Rattle.laws.proofs.Lists.{each_insert, each_without}
use Rattle.laws.proofs.Stepwise.{block_keeps}
use Rattle.counts.specs.declared.SongFrame.{SongFrame}
use Rattle.counts.specs.declared.Handle.{Handle}
use Rattle.timeline.specs.declared.Command.{Command}
use Rattle.timeline.specs.declared.QueueRecord.{QueueRecord}
use Rattle.timeline.specs.declared.Row.{Row}
use Rattle.timeline.specs.declared.Submission.{Submission}
use Rattle.timeline.specs.Command.{command_of, typed}
use Rattle.timeline.specs.Record.{read_of}
use Rattle.timeline.specs.Store.{row_at}
use Rattle.timeline.specs.Queue.{queue, frame}
use Rattle.transport.specs.declared.At.{At}
use Rattle.bank.specs.declared.Kind.{Kind}
use Rattle.bank.specs.Sample.{frames_of}
use Rattle.bank.specs.Recording.{view_of}
use Rattle.stage.specs.declared.Settings.{Settings}
use Rattle.stage.specs.Machine.{machine_of}
use Rattle.session.specs.declared.Session.{Session}
use Rattle.session.specs.declared.Answered.{Answered}
use Rattle.session.specs.WellFormed.{well_formed}
use Rattle.session.proofs.Refuse.{passed, unless_both}
use Rattle.session.proofs.Parts.{Parts, parts}
use Rattle.block.specs.Block.{ran_of, block_of}
use Rattle.block.proofs.Queue.{queue_ran}
use Rattle.clips.specs.Open.{open_of}
use Rattle.clips.specs.Load.{load_of}
use Rattle.clips.specs.Retire.{retire_of}
use Rattle.submission.specs.Weigh.{capture_room}
use Rattle.submission.specs.Submit.{submit_of}
use Rattle.submission.specs.Transition.{cleared_queue, cleared, weigh_transition, transition_of}
use Rattle.submission.specs.Order.{accepted, waiting, recorded}
use Rattle.submission.specs.Replay.{Replaying, weigh_replayed, replay_row, replayed, replay_of}
use Rattle.submission.proofs.Weigh.{Fits, fine_fits}
use Rattle.submission.proofs.Kept.{replayed_well}
use Rattle.submission.proofs.Left.{Takes, turned_away_law, submit_fits, submit_takes, transition_fine, transition_takes}
use Rattle.submission.proofs.Reported.{refused_row, taken_row}
use Rattle.control.specs.declared.PerformanceSnapshot.{PerformanceSnapshot}
use Rattle.control.specs.Capture.{start_capture_of, stop_capture_of}
use Rattle.control.specs.Snapshot.{apply_of}
use Rattle.control.proofs.Kept.{snapshot_leaves, metrics_leave}
use Rattle.promises.specs.Calls.{State, Call, load, retire, submit, transition, block, pump, start_capture, stop_capture, replay, snapshot, apply, metrics, refusal, after, Given, Reached, at_opening, after_call}
use Rattle.promises.specs.Kept.{Good}
use Rattle.promises.proofs.Pumping.{pump_step}
use Rattle.promises.proofs.Fine.{accepts}
use Rattle.promises.proofs.Kept.{reached_good}
use Rattle.promises.proofs.Exchanged.{submit_accepts}
use Rattle.promises.proofs.Refused.{refused}
use Rattle.std.specs.Prelude.{Result, Ok, Err}
use Rattle.submission.specs.declared.Report.{Report}
use Rattle.session.specs.declared.Refusal.{Refusal}

module _ (P : Command → Type 0) (taken-has : (s : Session) (q : List ℕ) (spare : Bool) (y : Command) → Fits s q spare y → P y) where
  abbrev Has : QueueRecord → Type 0
  Has r = P r.command

  -- what waits, and what is captured
  abbrev All : Session → List ℕ → List ℕ → Type 0
  All s q c = Each Has (waiting s q) × Each Has (recorded s c)

  module _ (s : Session) (q c : List ℕ) (p : All s q c) where
    -- loading, retiring and applying leave both,
    load_all : (pool samples : List Float) (kind : Kind) (rate : ℕ) → All (load_of s q c pool samples kind rate).0.session q c
    unfolding load_of
    load_all pool samples kind rate = unless_both {A = Answered Handle × List Float} _ _ _ (λ z. All z.0.session q c) (λ k. p) (λ fine. p)

    retire_all : (h : Handle) → All (retire_of s q c h).session q c
    unfolding retire_of
    retire_all h = unless_both {A = Answered (Unit {0})} _ _ _ (λ z. All z.session q c) (λ k. p) (λ fine. p)

    apply_all : (y : PerformanceSnapshot) → All (apply_of s q c y).session q c
    unfolding apply_of
    apply_all y = unless_both {A = Answered (Unit {0})} _ _ _ (λ z. All z.session q c) (λ k. p) (λ fine. p)

    -- a capture starts empty and stops with none,
    start_all : All (start_capture_of s q c).session q c
    unfolding start_capture_of
    start_all = unless_both {A = Answered (Unit {0})} _ _ _ (λ z. All z.session q c) (λ k. p) (λ fine. (p.0, tt))

    stop_all : (list : List ℕ) → All (stop_capture_of s q c list).0.session q c
    unfolding stop_capture_of
    stop_all list = unless_both {A = Answered ℕ × List ℕ} _ _ _ (λ z. All z.0.session q c) (λ k. p) (λ fine. (p.0, tt))

    -- and a block leaves what it does not execute
    ran_all : (pool : List Float) (n : ℕ) → Each Has (ran_of s q pool n).at.queue
    unfolding ran_of
    ran_all pool n =
        (block_keeps (machine_of s.settings (view_of pool s.bank)) (λ x. Unit {0}) Has (λ d x h u. tt) (λ x u. tt) n (stand s.stage (queue q s.queued)) tt p.0).1

    block_all : (pool out : List Float) → All (block_of s q c pool out).0.session q c
    unfolding block_of
    block_all pool out =
        unless_both {A = Answered ℕ × List Float} _ _ _ (λ z. All z.0.session q c) (λ k. p)
        (λ fine. (rw (queue_ran s q pool (frames_of out)) (ran_all pool (frames_of out)), p.1))

    -- ---- a command that is taken

    takes_all : (r : QueueRecord) (on : Bool) (queued captured : List QueueRecord) (z : Answered ℕ × List ℕ × List ℕ) → Takes r on queued captured z
        → Has r → Each Has queued → Each Has captured → All z.0.session z.1 z.2
    takes_all r on queued captured z k h e f = (rw k.waits (each_insert Has frame r queued h e), rw k.records (records on))
      where
        records : (b : Bool) → Each Has (cond b (r ∷ captured) [])
        records true = (h, f)
        records false = tt

    submit_all : (y : Submission) (at : At) → typed (command_of y) ≡ true → accepted (submit_of s q c y at).0.answer ≡ true
        → All (submit_of s q c y at).0.session (submit_of s q c y at).1 (submit_of s q c y at).2
    submit_all y at t ok =
        takes_all _ _ _ _ (submit_of s q c y at) (submit_takes s q c y at ok t) (taken-has s q (capture_room s) (command_of y) (submit_fits s q c y at ok)) p.0 p.1

    transition_has : (f : SongFrame) → weigh_transition s q c f ≡ Ok tt → P (Command.Transition f)
    unfolding weigh_transition
    transition_has f e =
        let z : Session = cleared s q c in
        let words : List ℕ = (cleared_queue s q).words in
        taken-has z words (capture_room z) (Command.Transition f) (fine_fits z words (capture_room z) (Command.Transition f) (passed _ _ _ e).1)

    transition_all : (f : SongFrame) (at : At) → accepted (transition_of s q c f at).0.answer ≡ true
        → All (transition_of s q c f at).0.session (transition_of s q c f at).1 (transition_of s q c f at).2
    transition_all f at ok =
        takes_all _ _ _ _ (transition_of s q c f at) (transition_takes s q c f at ok) (transition_has f (transition_fine s q c f at ok))
        (each_without Has _ (waiting s q) p.0) (each_without Has _ (recorded s c) p.1)

  -- ---- a replay

  module _ (c : List ℕ) where
    abbrev AllAt : Replaying → Type 0
    AllAt z = All z.session z.queue c

    row_recorded : (z : Replaying) (x : Row) → recorded (replay_row z x).session c ≡ recorded z.session c
    unfolding replay_row
    row_recorded z x =
        unless_both {A = Replaying} _ _ _ (λ y. recorded y.session c ≡ recorded z.session c) (λ k. ap (λ (s : Session). recorded s c) (turned_away_law k z.session)) (λ fine. refl)

    row_has : (z : Replaying) (x : Row) → weigh_replayed z.session z.queue x ≡ Ok tt → P (read_of x)
    unfolding weigh_replayed
    row_has z x e = taken-has z.session z.queue true (read_of x) (fine_fits z.session z.queue true (read_of x) (passed _ _ _ e).1)

    row_all : (z : Replaying) (x : Row) → Parts z.session z.queue c → AllAt z → AllAt (replay_row z x)
    row_all z x parts p = (go (weigh_replayed z.session z.queue x) refl, rw (row_recorded z x) p.1)
      where
        go : (w : Result (Unit {0}) Refusal) → weigh_replayed z.session z.queue x ≡ w → Each Has (waiting (replay_row z x).session (replay_row z x).queue)
        go (Ok tt) e = rw (taken_row z x c parts e) (each_insert Has frame _ (waiting z.session z.queue) (row_has z x e) p.0)
        go (Err k) e = let r = refused_row z x k e in rw (r.0, r.1) p.0

    module _ (s : Session) (q list : List ℕ) (e : well_formed s q c ≡ true) (p : All s q c) where
      replayed_all : (n : ℕ) → AllAt (replayed s q list n)
      unfolding replayed
      replayed_all zero = p
      replayed_all (suc n) = row_all (replayed s q list n) (row_at list n) (replayed_well c s q list (parts s q c e) n) (replayed_all n)

      replay_all : All (replay_of s q c list).0.session (replay_of s q c list).1 c
      unfolding replay_of
      replay_all = unless_both {A = Answered Report × List ℕ} _ _ _ (λ z. All z.0.session z.1 c) (λ k. p) (λ fine. replayed_all (length list / 5))

  -- ---- every call

  abbrev AllOf : State → Type 0
  AllOf x = All x.session x.queue x.capture

  done_all : (k : Call) (x : State) → Given k → Good x → refusal k x ≡ 0 → AllOf x → AllOf (after k x)
  done_all (load samples kind rate) x v g e p = load_all x.session x.queue x.capture p x.pool samples kind rate
  done_all (retire h) x v g e p = retire_all x.session x.queue x.capture p h
  done_all (submit y at) x v g e p = submit_all x.session x.queue x.capture p y at v (submit_accepts x y at e)
  done_all (transition f at) x v g e p = transition_all x.session x.queue x.capture p f at (accepts (transition_of x.session x.queue x.capture f at).0.answer e)
  done_all (block out) x v g e p = block_all x.session x.queue x.capture p x.pool out
  done_all (pump f n) x v g e p = pump_step x f n (λ m y. AllOf y) (λ out. block_all x.session x.queue x.capture p x.pool out) p
  done_all start_capture x v g e p = start_all x.session x.queue x.capture p
  done_all (stop_capture list) x v g e p = stop_all x.session x.queue x.capture p list
  done_all (replay list) x v g e p = replay_all x.capture x.session x.queue list g.formed p
  done_all snapshot x v g e p = rw (snapshot_leaves x.session x.queue x.capture) p
  done_all (apply y) x v g e p = apply_all x.session x.queue x.capture p y
  done_all metrics x v g e p = rw (metrics_leave x.session x.queue x.capture) p

  -- a refused one leaves all but the dropped count
  after_all_law : (k : Call) (x : State) → Given k → Good x → AllOf x → AllOf (after k x)
  after_all_law k x v g p = go (refusal k x) refl
    where
      some : (m n : ℕ) → m ≡ suc n → m ≢ 0
      some m n e z = omega arith

      go : (n : ℕ) → refusal k x ≡ n → AllOf (after k x)
      go zero e = done_all k x v g e p
      go (suc n) e = subst AllOf (sym (refused.state k x (some (refusal k x) n e))) p

  -- opening queues and captures nothing
  open_all : (x : Settings) (q c : List ℕ) (pool samples : List Float) (rate : ℕ) (extent : SongFrame) → All (open_of x q c pool samples rate extent).0.session q c
  unfolding open_of
  open_all x q c pool samples rate extent = unless_both {A = Answered Handle × List Float} _ _ _ (λ z. All z.0.session q c) (λ k. (tt, tt)) (λ fine. (tt, tt))

  pub reached_all : (x : State) → Reached x → AllOf x
  reached_all x (at_opening o e) = open_all o.settings o.queue o.capture o.pool o.samples o.rate o.extent
  reached_all x (after_call {x = y} k v r) = after_all_law k y v (reached_good y r) (reached_all y r)

-- The laps of every session reached from opening: none without a loop, and a block that executes nothing that sets them back raises them by its passes.
-- Assumes nothing.
use mathlib.Core.Path.{◌≡◌, refl, sym, ap, ◌∙◌}
use mathlib.Core.Bool.{false}
use mathlib.Core.List.{List, [], ◌∷◌, ◌++◌}
use Prim.Native.Nat.{ℕ, ◌+◌, ◌-◌, ◌^◌, ◌<◌, min}
use native.Mathlib.Omega.{arith}
use lib.Ieee.{Float}
use Rattle.std.specs.Prelude.{Some, None}
use Rattle.laws.specs.Block.{Machine, At, Ran, stand, after, executing, framing}
use Rattle.laws.specs.Queue.{Each}
use Rattle.laws.proofs.Stepwise.{Stepwise, block_stepwise}
use Rattle.counts.proofs.Truth.{never}
use Rattle.timeline.specs.declared.Command.{Command}
use Rattle.timeline.specs.declared.QueueRecord.{QueueRecord}
use Rattle.timeline.specs.Queue.{queue}
use Rattle.transport.proofs.Passes.{Counts, step_laps, step_counts, looped_counts, loop_counts}
use Rattle.bank.specs.Sample.{frames_of}
use Rattle.bank.specs.Recording.{View, view_of}
use Rattle.stage.specs.declared.Settings.{Settings}
use Rattle.stage.specs.declared.Playhead.{Playhead}
use Rattle.stage.specs.declared.Stage.{Stage}
use Rattle.stage.specs.Mode.{is_house}
use Rattle.stage.specs.Playhead.{moved_of, playhead_by}
use Rattle.stage.specs.Stage.{frame_of, execute_of}
use Rattle.stage.specs.Machine.{Told, FrameMade, machine_of, passes_of}
use Rattle.stage.proofs.Passes.{passes_append}
use Rattle.session.specs.Session.{extent_now}
use Rattle.session.specs.Reading.{laps_of}
use Rattle.session.specs.declared.Answered.{Answered}
use Rattle.block.specs.Block.{ran_of, reported}
use Rattle.block.proofs.Weigh.{block_done_law}
use Rattle.promises.specs.Calls.{State, Reached}
use Rattle.promises.specs.Laps.{sets_back, Laps}
use Rattle.promises.proofs.Fine.{block_accepts}
use Rattle.promises.proofs.Stages.{reached_has}

-- ---- in every reached session

abbrev Counted : Stage → Type 0
Counted s = Counts s.playhead.transport

-- a command keeps it so
exec_counted : (extent : ℕ) (c : Command) (p : Playhead) → Counts p.transport → Counts (playhead_by extent c p).transport
unfolding playhead_by
exec_counted extent Command.Play p h = record { none = h.none; low = h.low }
exec_counted extent Command.Pause p h = record { none = h.none; low = h.low }
exec_counted extent Command.Stop p h = record { none = h.none; low = h.low }
exec_counted extent (Command.Seek f) p h = record { none = h.none; low = h.low }
exec_counted extent (Command.Transition f) p h = record { none = h.none; low = h.low }
exec_counted extent (Command.Loop a e) p h = loop_counts extent (Some (record { start = a; end = e })) p.transport h
exec_counted extent Command.ClearLoop p h = looped_counts None p.transport
exec_counted extent (Command.Gain g) p h = h
exec_counted extent (Command.Swap k) p h = record { none = λ e. refl; low = omega arith }
exec_counted extent (Command.Stinger k g) p h = h

reached_counted : (x : State) → Reached x → Counted x.session.stage
unfolding frame_of moved_of execute_of
reached_counted =
    reached_has (λ x b. Counted)
    (record {
      opens = λ x b h. record { none = λ e. refl; low = omega arith };
      frames = λ s q c pool w. step_counts (is_house s.settings) _ _ s.stage.playhead.transport;
      execs = λ s q c d w. exec_counted (extent_now s) d s.stage.playhead;
      applies = λ s y h. let l = loop_counts (extent_now s) y.looped s.stage.playhead.transport h in record { none = l.none; low = l.low };
      banks = λ x y g d h. h;
    })

-- ---- over a block

-- what sets nothing back leaves the laps
exec_laps : (extent : ℕ) (c : Command) (p : Playhead) → sets_back c ≡ false → (playhead_by extent c p).transport.laps ≡ p.transport.laps
unfolding playhead_by
exec_laps extent Command.Play p e = refl
exec_laps extent Command.Pause p e = refl
exec_laps extent Command.Stop p e = refl
exec_laps extent (Command.Seek f) p e = refl
exec_laps extent (Command.Transition f) p e = refl
exec_laps extent (Command.Loop a b) p e = absurd (never e)
exec_laps extent Command.ClearLoop p e = absurd (never e)
exec_laps extent (Command.Gain g) p e = refl
exec_laps extent (Command.Swap k) p e = absurd (never e)
exec_laps extent (Command.Stinger k g) p e = refl

each_split : {A : Type 0} (P : A → Type 0) (l k : List A) → Each P (l ++ k) → Each P l × Each P k
each_split P [] k e = (tt, e)
each_split P (a ∷ l) k e = let r = each_split P l k e.1 in ((e.0, r.0), r.1)

module _ (x : Settings) (view : View) where
  abbrev machine : Machine Stage QueueRecord FrameMade Told
  machine = machine_of x view

  abbrev laps : Stage → ℕ
  laps s = s.playhead.transport.laps

  abbrev Leaves : Told → Type 0
  Leaves t = sets_back t.command.command ≡ false

  -- the laps have risen by the passes
  abbrev Rises : At Stage QueueRecord → Ran Stage QueueRecord FrameMade Told → Type 0
  Rises a r = laps a.core < 2 ^ 64 → Each Leaves r.told → laps r.at.core ≡ min (laps a.core + passes_of r.made) (2 ^ 64 - 1)

  joins : (a : At Stage QueueRecord) (r s : Ran Stage QueueRecord FrameMade Told) → Rises a r → Rises r.at s → Rises a (after r s)
  joins a r s i k low e =
      let p = each_split Leaves r.told s.told e in
      let f = i low p.0 in
      let g = k (omega (arith, f)) p.1 in
      omega (arith, f, g, passes_append r.made s.made)

  executes : (d : QueueRecord) (c : Stage) (q : List QueueRecord) → Rises (stand c (d ∷ q)) (executing machine d c q)
  unfolding execute_of
  executes d c q low e = omega (arith, exec_laps (view c.playhead.song).extent d.command c.playhead e.0)

  frames : (c : Stage) (q : List QueueRecord) → Rises (stand c q) (framing machine c q)
  unfolding frame_of moved_of
  frames c q low e = omega (arith, step_laps (is_house x) (view c.playhead.song).frames (view c.playhead.song).extent c.playhead.transport)

  steps : Stepwise machine Rises
  steps = record { commands = record { stays = λ a low e. omega arith; joins = joins; executes = λ d c q due. executes d c q }; frames = frames }

ran_rises : (x : State) (n : ℕ) → laps_of x.session < 2 ^ 64 → let r = ran_of x.session x.queue x.pool n in
    Each (λ t. sets_back t.command.command ≡ false) r.told → r.at.core.playhead.transport.laps ≡ min (laps_of x.session + passes_of r.made) (2 ^ 64 - 1)
unfolding ran_of
ran_rises x n =
    let view : View = view_of x.pool x.session.bank in
    block_stepwise (machine_of x.session.settings view) (Rises x.session.settings view) (steps x.session.settings view) n (stand x.session.stage (queue x.queue x.session.queued))

-- without a loop there are no laps, and a block that executes nothing that sets them back raises them by the passes that it reports
pub laps_count : Laps
laps_count =
    record {
      none = λ x r. (reached_counted x r).none;
      rise = λ x out r a e.
          let done = block_done_law x.session x.queue x.capture x.pool out (block_accepts x out a) in
          ap (λ (z : Answered ℕ × List Float). laps_of z.0.session) done
          ∙ ran_rises x (frames_of out) (reached_counted x r).low e
          ∙ sym (ap (λ (z : Answered ℕ × List Float). min (laps_of x.session + reported z.0.answer) (2 ^ 64 - 1)) done);
    }

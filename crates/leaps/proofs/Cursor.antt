-- Commands and frames do to state, position, loop and laps the same wherever the cursor is. Assumes nothing.
use mathlib.Core.Path.{◌≡◌, refl, sym, ap}
use mathlib.Core.Bool.{Bool, true, false}
use Prim.Native.Nat.{ℕ}
use Rattle.std.specs.Prelude.{Some}
use Rattle.counts.specs.declared.ClockFrame.{ClockFrame}
use Rattle.timeline.specs.declared.Command.{Command}
use Rattle.timeline.specs.declared.QueueRecord.{QueueRecord}
use Rattle.transport.specs.declared.Transport.{Transport}
use Rattle.transport.specs.Transport.{loop_fits, step_of}
use Rattle.transport.proofs.Blind.{blind_steps}
use Rattle.stage.specs.declared.Settings.{Settings}
use Rattle.stage.specs.declared.Playhead.{Playhead}
use Rattle.stage.specs.Mode.{is_house}
use Rattle.stage.specs.Playhead.{playhead, playhead_by, moved_of}
use Rattle.leaps.specs.Laps.{Lapped, lapped_of}
use Rattle.leaps.specs.Dry.{blind}

-- a command does the same,
pub blind_by : (extent : ℕ) (c : Command) (p : Playhead) → blind (playhead_by extent c (blind p)) ≡ blind (playhead_by extent c p)
unfolding playhead_by
blind_by extent Command.Play p = refl
blind_by extent Command.Pause p = refl
blind_by extent Command.Stop p = refl
blind_by extent (Command.Seek f) p = refl
blind_by extent (Command.Transition f) p = refl
blind_by extent (Command.Loop a e) p = go (loop_fits extent (Some (record { start = a; end = e }))) refl
  where
    go : (b : Bool) → loop_fits extent (Some (record { start = a; end = e })) ≡ b
        → blind (playhead_by extent (Command.Loop a e) (blind p)) ≡ blind (playhead_by extent (Command.Loop a e) p)
    go true h = rw h
    go false h = rw h
blind_by extent Command.ClearLoop p = refl
blind_by extent (Command.Gain g) p = refl
blind_by extent (Command.Swap h) p = refl
blind_by extent (Command.Stinger h g) p = refl

-- and tells the same
pub blind_told : (clock : ClockFrame) (extent : ℕ) (d : QueueRecord) (p : Playhead) → lapped_of clock extent d (blind p) ≡ lapped_of clock extent d p
blind_told clock extent d p = ap says (blind_by extent d.command p)
  where
    says : Playhead → Lapped
    says y =
        record {
          told = record { command = d; clock = clock; before = p.transport.position; after = y.transport.position };
          laps_before = p.transport.laps;
          laps_after = y.transport.laps;
        }

-- so does a frame, in either mode
pub blind_moved : (x : Settings) (frames extent : ℕ) (p : Playhead)
    → blind (playhead (step_of false 0 extent (blind p).transport).transport p.song) ≡ blind (moved_of x frames extent p).playhead
unfolding moved_of
blind_moved x frames extent p = ap (λ (t : Transport). playhead t p.song) (sym (blind_steps (is_house x) frames extent p.transport))

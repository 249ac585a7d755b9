-- The dry run is the stage's own block with the sound forgotten. Assumes nothing.
use mathlib.Core.Path.{◌≡◌, refl, ◌∙◌, ap}
use mathlib.Core.List.{map-id}
use Prim.Native.Nat.{ℕ, ◌+◌}
use Rattle.laws.specs.Block.{At, stand, block}
use Rattle.laws.specs.Queue.{Each}
use Rattle.laws.specs.Alike.{Maps}
use Rattle.laws.proofs.Lists.{each_map}
use Rattle.laws.proofs.Mapped.{block_part}
use Rattle.counts.specs.declared.Claim.{Claim}
use Rattle.timeline.specs.declared.Command.{Command}
use Rattle.timeline.specs.declared.QueueRecord.{QueueRecord}
use Rattle.timeline.specs.Command.{claim_of}
use Rattle.bank.specs.Recording.{View}
use Rattle.stage.specs.declared.Settings.{Settings}
use Rattle.stage.specs.declared.Playhead.{Playhead}
use Rattle.stage.specs.declared.Stage.{Stage}
use Rattle.stage.specs.Playhead.{playhead_by, moved_of}
use Rattle.stage.specs.Stage.{frame_of, execute_of}
use Rattle.leaps.specs.Laps.{lapped_machine}
use Rattle.leaps.proofs.Laps.{lapped_clocked}
use Rattle.leaps.proofs.Cursor.{blind_by, blind_told, blind_moved}
use Rattle.leaps.specs.Dry.{dry_at, dry_of, Lengths, dry_next, dry_exec, dry_machine, dried}

-- a song that is claimed has the length that the view gives
abbrev pub Lasts : Lengths → View → Claim → Type 0
Lasts long view Claim.Nothing = Unit {0}
Lasts long view (Claim.Song h) = long h ≡ (view h).extent
Lasts long view (Claim.Stinger h) = Unit {0}

module _ (x : Settings) (view : View) (long : Lengths) where
  -- the song that plays has the length that the view gives
  abbrev pub Plays : Stage → Type 0
  Plays s = long s.playhead.song ≡ (view s.playhead.song).extent

  -- a command keeps it so,
  keeps_song : (c : Command) (p : Playhead) (extent : ℕ) → Lasts long view (claim_of c) → long p.song ≡ (view p.song).extent
      → long (playhead_by extent c p).song ≡ (view (playhead_by extent c p).song).extent
  unfolding playhead_by
  keeps_song Command.Play p extent b h = h
  keeps_song Command.Pause p extent b h = h
  keeps_song Command.Stop p extent b h = h
  keeps_song (Command.Seek f) p extent b h = h
  keeps_song (Command.Transition f) p extent b h = h
  keeps_song (Command.Loop a e) p extent b h = h
  keeps_song Command.ClearLoop p extent b h = h
  keeps_song (Command.Gain g) p extent b h = h
  keeps_song (Command.Swap k) p extent b h = b
  keeps_song (Command.Stinger k g) p extent b h = h

  -- and so does a frame
  goes_on : (c : Stage) → Plays c → Plays (frame_of x view c).stage
  unfolding frame_of moved_of
  goes_on c p = p

  -- the song that a command brings is so long
  abbrev pub Bringing : QueueRecord → Type 0
  Bringing d = Lasts long view (claim_of d.command)

  -- a command is itself
  abbrev Same : QueueRecord → QueueRecord → Type 0
  Same d d' = (d' ≡ d) × Bringing d

  -- the dry run does without the sound what the stage does
  maps : Maps dry_of (λ a. tt) (λ e. e) Plays Same (lapped_machine x view) (dry_machine long)
  unfolding frame_of execute_of dry_next dry_exec
  maps =
      record {
        clocks = λ c p. refl;
        execs = λ d d' c p f. rw (f.0, p) (ap (dry_at c.clock.0) (blind_by (view c.playhead.song).extent d.command c.playhead));
        tells = λ d d' c p f. rw (f.0, p) (blind_told c.clock (view c.playhead.song).extent d c.playhead);
        nexts = λ c p. rw p (ap (dry_at (c.clock.0 + 1)) (blind_moved x (view c.playhead.song).frames (view c.playhead.song).extent c.playhead));
        makes = λ c p. refl;
        keeps = λ d d' c p f. keeps_song d.command c.playhead _ f.1 p;
        goes = goes_on;
      }

  -- ONE BLOCK: the dry run of it is what the stage did, without the sound
  pub block_dried : (n : ℕ) (y : At Stage QueueRecord) → Plays y.core → Each Bringing y.queue
      → block (dry_machine long) n (stand (dry_of y.core) y.queue) ≡ dried (block (lapped_machine x view) n y)
  block_dried n y p e =
      block_part dry_of (λ a. tt) (λ e. e) Plays Same (lapped_machine x view) (dry_machine long) maps (lapped_clocked x view) n y p
      (each_map Bringing _ (λ d b. (refl, λ l. (refl, b))) y.queue e)
      ∙ simp map-id

-- What one frame and one command keep of a stage: the song that plays and where it stands, the master, the tail, each voice, and the counters. Assumes nothing.
use mathlib.Core.Path.{◌≡◌, refl}
use mathlib.Core.Bool.{Bool, true, false, cond}
use Prim.Native.Nat.{ℕ, ◌+◌, ◌≤◌, ◌<◌}
use native.Mathlib.Omega.{arith}
use lib.Dec.{eqb}
use lib.ListN.{length}
use lib.Ieee.{Float}
use borrow.Author.Tests.{eqb-false}
use Rattle.std.specs.Prelude.{Option, Some, None}
use Rattle.counts.specs.declared.Handle.{Handle}
use Rattle.counts.specs.declared.Claim.{Claim}
use Rattle.ramp.specs.declared.Ramp.{Ramp}
use Rattle.ramp.specs.Number.{zero32, two32, between}
use Rattle.ramp.specs.Ramp.{tween_of, set_of, tick_of}
use Rattle.ramp.specs.Tail.{tail_start}
use Rattle.ramp.proofs.Kept.{tick_falls, tick_target, set_remaining, set_target}
use Rattle.timeline.specs.declared.Command.{Command}
use Rattle.timeline.specs.Command.{claim_of, takes_voice}
use Rattle.transport.specs.declared.TransportState.{TransportState}
use Rattle.transport.specs.Transport.{cursor_on, transport_fits}
use Rattle.transport.proofs.Fits.{fresh_fits, state_fits, stop_fits, seek_fits, clear_fits, loop_fits_law, step_fits}
use Rattle.bank.specs.Recording.{View}
use Rattle.oneshot.specs.declared.Pair.{Pair}
use Rattle.oneshot.specs.declared.Voice.{Voice}
use Rattle.oneshot.specs.Voice.{fired_of, voice_of}
use Rattle.oneshot.specs.Mix.{added_to}
use Rattle.oneshot.specs.Sounding.{Each}
use Rattle.oneshot.proofs.Next.{each_kept, no_more, places_next}
use Rattle.oneshot.proofs.Fires.{each_added, places_added}
use Rattle.stage.specs.declared.Settings.{Settings}
use Rattle.stage.specs.declared.Playhead.{Playhead}
use Rattle.stage.specs.declared.Tail.{Tail}
use Rattle.stage.specs.declared.Sound.{Sound}
use Rattle.stage.specs.declared.Counters.{Counters}
use Rattle.stage.specs.declared.Stage.{Stage}
use Rattle.stage.specs.Mode.{is_house}
use Rattle.stage.specs.Playhead.{moved_of, playhead_by}
use Rattle.stage.specs.Sound.{sound, clamp_of, master_frames, tail_from, tail_on, rendered_of, sound_by}
use Rattle.stage.specs.Counters.{counters_by}
use Rattle.stage.specs.Stage.{frame_of, execute_of}
use Rattle.stage.proofs.Clamped.{clamp_between}

-- the master: at most 256 frames remain, and its target is from 0 to 2
pub record MasterFits (r : Ramp) : Type 0 where
  pub remaining : r.remaining ≤ master_frames
  pub target : between zero32 two32 r.target ≡ true

-- what holds of the tail's clip and weight, if there is a tail
abbrev pub OfTail : (Handle → Ramp → Type 0) → Option Tail → Type 0
OfTail P None = Unit {0}
OfTail P (Some t) = P t.song t.weight

-- of the commands executed so many were swaps and stingers
abbrev pub Counted : Counters → Type 0
Counted k = k.swaps + k.fired ≤ k.executed

-- ---- one frame

pub tail_on_law : (P : Handle → Ramp → Type 0) → ((h : Handle) (w : Ramp) → ((tick_of w).ramp.remaining ≡ 0 → ⊥) → P h w → P h (tick_of w).ramp)
    → (view : View) (t : Option Tail) → OfTail P t → OfTail P (tail_on view t)
unfolding tail_on
tail_on_law P keeps view None p = tt
tail_on_law P keeps view (Some t) p = go (eqb (tick_of t.weight).ramp.remaining 0) refl
  where
    go : (b : Bool) → eqb (tick_of t.weight).ramp.remaining 0 ≡ b
        → OfTail P (cond b None (Some (record { song = t.song; cursor = record { 0 = cursor_on (view t.song).frames t.cursor.0 }; weight = (tick_of t.weight).ramp })))
    go true e = tt
    go false e = keeps t.song t.weight (eqb-false (tick_of t.weight).ramp.remaining 0 e) p

module _ (x : Settings) (view : View) (s : Stage) where
  -- a frame moves the clock by one
  pub frame_clock : (frame_of x view s).stage.clock.0 ≡ s.clock.0 + 1
  unfolding frame_of
  frame_clock = refl

  -- a frame keeps the song that plays
  pub frame_song : (frame_of x view s).stage.playhead.song ≡ s.playhead.song
  unfolding frame_of moved_of
  frame_song = refl

  -- a frame keeps position <= length and a loop as Loop allows
  pub frame_fits : transport_fits (view s.playhead.song).extent s.playhead.transport ≡ true
      → transport_fits (view s.playhead.song).extent (frame_of x view s).stage.playhead.transport ≡ true
  unfolding frame_of moved_of
  frame_fits = step_fits (is_house x) (view s.playhead.song).frames (view s.playhead.song).extent s.playhead.transport

  -- a frame keeps the master in its ranges
  pub frame_master : MasterFits s.sound.master → MasterFits (frame_of x view s).stage.sound.master
  unfolding frame_of rendered_of
  frame_master m = record { remaining = omega (arith, tick_falls s.sound.master); target = rw (tick_target s.sound.master) m.target }

  -- what a tick keeps of the weight of a tail that stays, a frame keeps of the tail
  pub frame_tail : (P : Handle → Ramp → Type 0) → ((h : Handle) (w : Ramp) → ((tick_of w).ramp.remaining ≡ 0 → ⊥) → P h w → P h (tick_of w).ramp)
      → OfTail P s.sound.fade.tail → OfTail P (frame_of x view s).stage.sound.fade.tail
  unfolding frame_of rendered_of
  frame_tail P keeps = tail_on_law P keeps view s.sound.fade.tail

  -- what a frame keeps of one voice it keeps of each that stays
  pub frame_voices : (P : Voice → Type 0) → ((v : Voice) (p : Pair) → P v → (voice_of (view v.handle) v p).more ≡ true → P (voice_of (view v.handle) v p).voice)
      → Each P s.sound.voices → Each P (frame_of x view s).stage.sound.voices
  unfolding frame_of rendered_of
  frame_voices P keeps = each_kept view P keeps s.sound.voices

  -- after a frame no more voices sound
  pub frame_count : (frame_of x view s).stage.sound.voices.count ≤ s.sound.voices.count
  unfolding frame_of rendered_of
  frame_count = no_more view s.sound.voices

  -- a frame keeps the table's places
  pub frame_places : s.sound.voices.count ≤ length s.sound.voices.table → length (frame_of x view s).stage.sound.voices.table ≡ length s.sound.voices.table
  unfolding frame_of rendered_of
  frame_places = places_next view s.sound.voices

  -- a frame counts no command
  pub frame_counters : (frame_of x view s).stage.counters ≡ s.counters
  unfolding frame_of
  frame_counters = refl

-- ---- one command

-- Gain, Swap and Stinger alone change the sound, each a part of it
sounds : (P : Sound → Type 0) (x : Settings) (p : Playhead) (c : Command) (s : Sound) → P s
    → ((g : Float) → P (sound (set_of s.master (clamp_of g) (tween_of master_frames)) s.fade.tail s.voices))
    → P (sound s.master (Some (tail_from p)) s.voices)
    → ((h : Handle) (g : Float) → c ≡ Command.Stinger h g → P (sound s.master s.fade.tail (added_to s.voices (fired_of x.rate h g))))
    → P (sound_by x p c s)
unfolding sound_by
sounds P x p Command.Play s rest gain swap sting = rest
sounds P x p Command.Pause s rest gain swap sting = rest
sounds P x p Command.Stop s rest gain swap sting = rest
sounds P x p (Command.Seek f) s rest gain swap sting = rest
sounds P x p (Command.Transition f) s rest gain swap sting = rest
sounds P x p (Command.Loop a e) s rest gain swap sting = rest
sounds P x p Command.ClearLoop s rest gain swap sting = rest
sounds P x p (Command.Gain g) s rest gain swap sting = gain g
sounds P x p (Command.Swap h) s rest gain swap sting = swap
sounds P x p (Command.Stinger h g) s rest gain swap sting = sting h g refl

-- a command keeps the song, but that a Swap's is the one that it claims
song_by : (P : Claim → Type 0) (extent : ℕ) (c : Command) (p : Playhead) → P (Claim.Song p.song) → P (claim_of c) → P (Claim.Song (playhead_by extent c p).song)
unfolding playhead_by
song_by P extent Command.Play p old new = old
song_by P extent Command.Pause p old new = old
song_by P extent Command.Stop p old new = old
song_by P extent (Command.Seek f) p old new = old
song_by P extent (Command.Transition f) p old new = old
song_by P extent (Command.Loop a e) p old new = old
song_by P extent Command.ClearLoop p old new = old
song_by P extent (Command.Gain g) p old new = old
song_by P extent (Command.Swap h) p old new = new
song_by P extent (Command.Stinger h g) p old new = old

-- a command keeps position <= length and a loop as Loop allows, for the length of the song that then plays
pub fits_by : (lasts : Handle → ℕ) (c : Command) (p : Playhead) → transport_fits (lasts p.song) p.transport ≡ true
    → transport_fits (lasts (playhead_by (lasts p.song) c p).song) (playhead_by (lasts p.song) c p).transport ≡ true
unfolding playhead_by
fits_by lasts Command.Play p h = state_fits (lasts p.song) p.transport h TransportState.Playing
fits_by lasts Command.Pause p h = state_fits (lasts p.song) p.transport h TransportState.Paused
fits_by lasts Command.Stop p h = stop_fits (lasts p.song) p.transport h
fits_by lasts (Command.Seek f) p h = seek_fits (lasts p.song) p.transport h f
fits_by lasts (Command.Transition f) p h = seek_fits (lasts p.song) p.transport h f
fits_by lasts (Command.Loop a e) p h = loop_fits_law (lasts p.song) p.transport h (Some (record { start = a; end = e }))
fits_by lasts Command.ClearLoop p h = clear_fits (lasts p.song) p.transport h
fits_by lasts (Command.Gain g) p h = h
fits_by lasts (Command.Swap k) p h = fresh_fits (lasts k) TransportState.Playing
fits_by lasts (Command.Stinger k g) p h = h

counts_by : (c : Command) (k : Counters) → ((counters_by c k).executed ≡ k.executed + 1) × ((counters_by c k).swaps + (counters_by c k).fired ≤ k.swaps + k.fired + 1)
unfolding counters_by
counts_by Command.Play k = (refl, omega arith)
counts_by Command.Pause k = (refl, omega arith)
counts_by Command.Stop k = (refl, omega arith)
counts_by (Command.Seek f) k = (refl, omega arith)
counts_by (Command.Transition f) k = (refl, omega arith)
counts_by (Command.Loop a e) k = (refl, omega arith)
counts_by Command.ClearLoop k = (refl, omega arith)
counts_by (Command.Gain g) k = (refl, omega arith)
counts_by (Command.Swap h) k = (refl, omega arith)
counts_by (Command.Stinger h g) k = (refl, omega arith)

count_by : (x : Settings) (p : Playhead) (c : Command) (s : Sound) → (sound_by x p c s).voices.count ≡ cond (takes_voice (claim_of c)) (s.voices.count + 1) s.voices.count
unfolding sound_by added_to
count_by x p Command.Play s = refl
count_by x p Command.Pause s = refl
count_by x p Command.Stop s = refl
count_by x p (Command.Seek f) s = refl
count_by x p (Command.Transition f) s = refl
count_by x p (Command.Loop a e) s = refl
count_by x p Command.ClearLoop s = refl
count_by x p (Command.Gain g) s = refl
count_by x p (Command.Swap h) s = refl
count_by x p (Command.Stinger h g) s = refl

module _ (x : Settings) (extent : ℕ) (c : Command) (s : Stage) where
  -- a command leaves the clock
  pub exec_clock : (execute_of x extent c s).clock ≡ s.clock
  unfolding execute_of
  exec_clock = refl

  -- the song after a command is the one before it, or the one that it claims
  pub exec_song : (P : Claim → Type 0) → P (Claim.Song s.playhead.song) → P (claim_of c) → P (Claim.Song (execute_of x extent c s).playhead.song)
  unfolding execute_of
  exec_song P = song_by P extent c s.playhead

  -- a command keeps the master in its ranges
  pub exec_master : MasterFits s.sound.master → MasterFits (execute_of x extent c s).sound.master
  unfolding execute_of
  exec_master m =
      sounds (λ t. MasterFits t.master) x s.playhead c s.sound m
      (λ g. let r = s.sound.master in
      record { remaining = omega (arith, set_remaining r (clamp_of g) (tween_of master_frames)); target = rw (set_target r (clamp_of g) (tween_of master_frames)) (clamp_between g) })
      m (λ h g e. m)

  -- what holds of the tail, and of the song before with the weight that a tail begins with, holds of the tail after a command
  pub exec_tail : (P : Handle → Ramp → Type 0) → P s.playhead.song tail_start → OfTail P s.sound.fade.tail → OfTail P (execute_of x extent c s).sound.fade.tail
  unfolding execute_of
  exec_tail P begins t = sounds (λ u. OfTail P u.fade.tail) x s.playhead c s.sound t (λ g. t) begins (λ h g e. t)

  -- what holds of each voice, and of the one that a Stinger fires, holds of each after a command
  pub exec_voices : (P : Voice → Type 0) → (takes_voice (claim_of c) ≡ true → s.sound.voices.count < length s.sound.voices.table)
      → ((h : Handle) (g : Float) → c ≡ Command.Stinger h g → P (fired_of x.rate h g))
      → Each P s.sound.voices → Each P (execute_of x extent c s).sound.voices
  unfolding execute_of
  exec_voices P room fires e =
      sounds (λ t. Each P t.voices) x s.playhead c s.sound e (λ g. e) e
      (λ h g q. each_added P s.sound.voices (fired_of x.rate h g) (room (rw q refl)) e (fires h g q))

  -- a Stinger sounds one voice more
  pub exec_count : (execute_of x extent c s).sound.voices.count ≡ cond (takes_voice (claim_of c)) (s.sound.voices.count + 1) s.sound.voices.count
  unfolding execute_of
  exec_count = count_by x s.playhead c s.sound

  -- a command keeps the table's places
  pub exec_places : length (execute_of x extent c s).sound.voices.table ≡ length s.sound.voices.table
  unfolding execute_of
  exec_places =
      sounds (λ t. length t.voices.table ≡ length s.sound.voices.table) x s.playhead c s.sound refl (λ g. refl) refl
      (λ h g e. places_added s.sound.voices (fired_of x.rate h g))

  -- each counts as executed
  pub exec_executed : (execute_of x extent c s).counters.executed ≡ s.counters.executed + 1
  unfolding execute_of
  exec_executed = (counts_by c s.counters).0

  -- a command keeps swaps + stingers fired <= executed
  pub exec_counted : Counted s.counters → Counted (execute_of x extent c s).counters
  unfolding execute_of
  exec_counted h = omega (arith, (counts_by c s.counters).0, (counts_by c s.counters).1)

-- and so over the whole stage
pub exec_fits : (lasts : Handle → ℕ) (x : Settings) (c : Command) (s : Stage) → transport_fits (lasts s.playhead.song) s.playhead.transport ≡ true
    → transport_fits (lasts (execute_of x (lasts s.playhead.song) c s).playhead.song) (execute_of x (lasts s.playhead.song) c s).playhead.transport ≡ true
unfolding execute_of
exec_fits lasts x c s = fits_by lasts c s.playhead

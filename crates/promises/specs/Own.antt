-- 'A stale handle .. never reads another clip': a handle stands for its own clip and no other. Definitions only.
use Rattle.std.specs.Prelude.{◌≡◌, List, ℕ, ◌+◌, ◌<◌, length, Float, Option, Some, None}
use Rattle.laws.specs.Queue.{Each}
use Rattle.counts.specs.declared.Handle.{Handle}
use Rattle.counts.specs.declared.Claim.{Claim}
use Rattle.timeline.specs.Command.{claim_of}
use Rattle.timeline.specs.Queue.{frame}
use Rattle.bank.specs.declared.Kind.{Kind}
use Rattle.bank.specs.Sample.{frames_of}
use Rattle.bank.specs.Slots.{clip_of, extent_of}
use Rattle.bank.specs.Recording.{Recording, view_of}
use Rattle.oneshot.specs.Mix.{voice_at}
use Rattle.stage.specs.declared.Tail.{Tail}
use Rattle.session.specs.Answer.{gives, says}
use Rattle.clips.specs.Open.{open_of}
use Rattle.clips.specs.Load.{load_of}
use Rattle.submission.specs.Order.{waiting}
use Rattle.promises.specs.Calls.{State, Call, load, block, refusal, after, after_all, out_of, report_of, Opening, opened, state}
use Rattle.promises.specs.Kept.{Good}
use Rattle.promises.specs.Retire.{Live}
use Rattle.promises.specs.Stale.{AllGiven}

-- a clip as it was given
pub record Clipped : Type 0 where
  pub samples : List Float
  pub kind : Kind
  pub rate : ℕ

-- it sounds so
abbrev pub sounds_as : Clipped → Recording
sounds_as c = record { frames = frames_of c.samples; extent = extent_of c.kind; samples = c.samples }

-- in a state a handle stands for it: its samples, its kind with a song's length, and its rate
pub record StandsFor (h : Handle) (c : Clipped) (x : State) : Type 0 where
  pub sounds : view_of x.pool x.session.bank h ≡ sounds_as c
  pub kind : (clip_of x.session.bank h).kind ≡ c.kind
  pub rate : (clip_of x.session.bank h).rate ≡ c.rate

-- a load gives a handle
abbrev pub LoadGives : State → Clipped → Handle → Type 0
LoadGives x c h = says (load_of x.session x.queue x.capture x.pool c.samples c.kind c.rate).0.answer ≡ gives h

-- the call that loads it
abbrev pub loading : Clipped → Call
loading c = load c.samples c.kind c.rate

-- an opening gives a handle
abbrev pub OpenGives : Opening → Handle → Type 0
OpenGives o h = says (open_of o.settings o.queue o.capture o.pool o.samples o.rate o.extent).0.answer ≡ gives h

-- its song
abbrev pub song_of : Opening → Clipped
song_of o = record { samples = o.samples; kind = Kind.Song o.extent; rate = o.rate }

pub record ReadsItsOwn : Type 0 where
  -- a handle that a load gave is live then, and after any calls it stands for what was loaded while it is live
  pub loaded : (x : State) (c : Clipped) (h : Handle) (ks : List Call) → Good x → AllGiven ks → LoadGives x c h
      → Live h (after (loading c) x) × (Live h (after_all ks (after (loading c) x)) → StandsFor h c (after_all ks (after (loading c) x)))
  -- so does the one that opening gave
  pub opening : (o : Opening) (h : Handle) (ks : List Call) → AllGiven ks → OpenGives o h
      → Live h (opened o).1 × (Live h (after_all ks (opened o).1) → StandsFor h (song_of o) (after_all ks (opened o).1))
  -- a serial never comes twice: a later load gives a higher one
  pub serials : (x : State) (c d : Clipped) (h k : Handle) (ks : List Call) → Good x → AllGiven ks → LoadGives x c h
      → LoadGives (after_all ks (after (loading c) x)) d k → h.serial < k.serial
  -- and a higher one than opening
  pub first : (o : Opening) (d : Clipped) (h k : Handle) (ks : List Call) → AllGiven ks → OpenGives o h
      → LoadGives (after_all ks (opened o).1) d k → h.serial < k.serial

-- ---- nothing else is heard

-- two pools have the same samples for a handle's clip
abbrev pub SameFor : State → List Float → Handle → Type 0
SameFor x pool h = view_of x.pool x.session.bank h ≡ view_of pool x.session.bank h

-- for the tail's
abbrev pub SameForTail : State → List Float → Option Tail → Type 0
SameForTail x pool None = Unit {0}
SameForTail x pool (Some t) = SameFor x pool t.song

-- and for what a command names
abbrev pub SameForClaim : State → List Float → Claim → Type 0
SameForClaim x pool Claim.Nothing = Unit {0}
SameForClaim x pool (Claim.Song h) = SameFor x pool h
SameForClaim x pool (Claim.Stinger h) = SameFor x pool h

-- for what n frames read: song, tail, sounding voices, and what is named by commands before the last frame's end; one at clock + n is executed, and its clip is
-- not read
pub record SameRead (x : State) (pool : List Float) (n : ℕ) : Type 0 where
  pub size : length pool ≡ length x.pool
  pub song : SameFor x pool x.session.stage.playhead.song
  pub tail : SameForTail x pool x.session.stage.sound.fade.tail
  pub voices : (i : ℕ) → i < x.session.stage.sound.voices.count → SameFor x pool (voice_at x.session.stage.sound.voices i).handle
  pub named : Each (λ r. frame r < x.session.stage.clock.0 + n → SameForClaim x pool (claim_of r.command)) (waiting x.session x.queue)

-- over another pool that agrees so a block makes the same and leaves the same
abbrev pub NothingElse : Type 0
NothingElse =
    (x : State) (pool out : List Float) → SameRead x pool (frames_of out)
    → let y : State = state x.session x.queue x.capture pool in
    (out_of y out ≡ out_of x out) × (report_of y out ≡ report_of x out) × (refusal (block out) y ≡ refusal (block out) x) × ((after (block out) y).session ≡ (after (block out) x).session)

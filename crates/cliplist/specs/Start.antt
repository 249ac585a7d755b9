-- A clip list, the sessions that start with it, and the session that is made of it. Definitions only.
use Rattle.std.specs.Prelude.{ℕ, ◌+◌, ◌-◌, ◌^◌, ◌≤◌, ◌≡◌, Bool, true, not, ◌&&◌, List, [], ◌∷◌, ltb, eqb, set, replicate, None}
use Rattle.laws.specs.Order.{any}
use Rattle.laws.specs.Queue.{Each}
use Rattle.counts.specs.declared.Handle.{Handle}
use Rattle.counts.specs.Handles.{same_handle}
use Rattle.transport.specs.declared.TransportState.{TransportState}
use Rattle.transport.specs.Transport.{transport}
use Rattle.transport.specs.Leap.{blindly}
use Rattle.bank.specs.declared.Clip.{Clip}
use Rattle.bank.specs.declared.Bank.{Bank}
use Rattle.bank.specs.Slots.{blank, live, clip_of}
use Rattle.session.specs.declared.Session.{Session}
use Rattle.clips.specs.Open.{session_of}
use Rattle.cliplist.specs.declared.Entry.{Entry}

-- ---- the sessions that have a list

-- a line of the list names the handle
abbrev pub names : List Entry → Handle → Bool
names l h = any (λ (e : Entry). same_handle h e.handle) l

-- the handle of a line stands for the clip of that line
abbrev pub Listed : Bank → Entry → Type 0
Listed b e = ((clip_of b e.handle).kind ≡ e.kind) × ((clip_of b e.handle).rate ≡ e.rate) × ((clip_of b e.handle).frames ≡ e.frames)

-- a bank has a list: its live handles are those named, and each stands for the clip listed
pub record Has (l : List Entry) (b : Bank) : Type 0 where
  pub lives : (h : Handle) → live b h ≡ names l h
  pub clips : Each (Listed b) l

-- a session has a list whose first line is e: its clips are the list's, its mode is m, its song is e's and so is its rate
pub record HasList (m : ℕ) (e : Entry) (l : List Entry) (t : Session) : Type 0 where
  pub clips : Has l t.bank
  pub mode : t.settings.mode ≡ m
  pub rate : t.settings.rate ≡ e.rate
  pub song : t.stage.playhead.song ≡ e.handle

-- it starts with the list: at clock 0, stopped at 0 with no loop and no laps, nothing queued, sounding or numbered, its queue for 256 or more
pub record Starts (m : ℕ) (e : Entry) (l : List Entry) (t : Session) : Type 0 where
  pub list : HasList m e l t
  pub clock : t.stage.clock.0 ≡ 0
  pub stands : blindly t.stage.playhead.transport ≡ transport TransportState.Stopped 0 0 None 0
  pub queued : t.queued ≡ 0
  pub voices : t.stage.sound.voices.count ≡ 0
  pub number : t.desk.number ≡ 0
  pub room : 256 ≤ t.settings.queue

-- ---- the session of a list

-- a line is for slot i
abbrev pub takes : List Entry → ℕ → Bool
takes l i = any (λ (e : Entry). eqb i e.handle.slot) l

-- each clip in a slot of its own
unfoldable pub spaced : List Entry → Bool
spaced [] = true
spaced (e ∷ l) = ltb e.handle.slot 32 && not (takes l e.handle.slot) && spaced l

-- the frames of all
unfoldable pub total_of : List Entry → ℕ
total_of [] = 0
total_of (e ∷ l) = total_of l + e.frames

-- a listed clip, laid at a start
abbrev pub clip_at : Entry → ℕ → Clip
clip_at e start = record { serial = e.handle.serial; kind = e.kind; start = start; frames = e.frames; rate = e.rate }

-- no clip; every serial counts as given
unfoldable pub no_clips : Bank
no_clips = record { used = 0; last = 2 ^ 32 - 1; clips = replicate 32 blank }

-- one clip more, in its slot
unfoldable pub listed_in : Bank → Entry → ℕ → Bank
listed_in b e start = record { used = b.used + 2 ^ e.handle.slot; last = b.last; clips = set b.clips e.handle.slot (clip_at e start) }

-- side by side from the pool's start; the last line of the list at the head
unfoldable pub bank_of : List Entry → Bank
bank_of [] = no_clips
bank_of (e ∷ l) = listed_in (bank_of l) e (total_of l)

-- the session of a list whose first line is e: a queue of 256, no capture, a pool of the frames of all
abbrev pub made_of : ℕ → Entry → List Entry → Session
made_of mode e l = session_of (record { rate = e.rate; mode = mode; queue = 256; capture = 0; pool = total_of l }) (bank_of l) e.handle

-- The same starting session, as far as a dry run looks: two sessions with their queues. Definitions only.
use Rattle.std.specs.Prelude.{◌≡◌, true, List, ℕ, ◌+◌, ◌≤◌}
use Rattle.counts.specs.declared.Handle.{Handle}
use Rattle.timeline.specs.Queue.{queue, stingers}
use Rattle.bank.specs.declared.Bank.{Bank}
use Rattle.bank.specs.Slots.{live, clip_of}
use Rattle.session.specs.declared.Session.{Session}
use Rattle.leaps.specs.Dry.{dry_of}

-- a handle is live in both banks or in neither, and then its clips are of one kind, length and rate; where they lie does not count
pub record SameClips (b k : Bank) : Type 0 where
  pub lives : (h : Handle) → live b h ≡ live k h
  pub kinds : (h : Handle) → live b h ≡ true → (clip_of b h).kind ≡ (clip_of k h).kind
  pub rates : (h : Handle) → live b h ≡ true → (clip_of b h).rate ≡ (clip_of k h).rate

-- rate, clips, clock and playhead, what is queued, the voices taken and the last number; room for n commands more in both queues
pub record Alike (n : ℕ) (s : Session) (q : List ℕ) (t : Session) (p : List ℕ) : Type 0 where
  pub rate : s.settings.rate ≡ t.settings.rate
  pub clips : SameClips s.bank t.bank
  pub stands : dry_of s.stage ≡ dry_of t.stage
  pub queued : s.queued ≡ t.queued
  pub waiting : queue q s.queued ≡ queue p t.queued
  pub stinging : stingers q s.queued + s.stage.sound.voices.count ≡ stingers p t.queued + t.stage.sound.voices.count
  pub number : s.desk.number ≡ t.desk.number
  pub room : s.queued + n ≤ s.settings.queue
  pub other : t.queued + n ≤ t.settings.queue

-- Well formed: the rules' paragraph, clause by clause and in its order. Definitions only.
use Rattle.std.specs.Prelude.{ℕ, ◌+◌, ◌*◌, ◌%◌, ◌^◌, Bool, true, not, ◌&&◌, List, leb, ltb, eqb, length, Result, Ok, Option, Some, None}
use Rattle.counts.specs.Below.{within, all_below}
use Rattle.counts.specs.declared.Claim.{Claim}
use Rattle.ramp.specs.Number.{zero32, two32, sixteen32, between}
use Rattle.ramp.specs.Ramp.{declick_of}
use Rattle.ramp.specs.Tail.{tail_frames}
use Rattle.timeline.specs.Command.{claim_of}
use Rattle.timeline.specs.Record.{read_of}
use Rattle.timeline.specs.Store.{row_at}
use Rattle.timeline.specs.Queue.{queue_ok, capture_ok, stingers}
use Rattle.transport.specs.Transport.{loop_fits}
use Rattle.bank.specs.Slots.{clip_of, claim_ok}
use Rattle.bank.specs.WellFormed.{rate_ok, bank_ok}
use Rattle.oneshot.specs.declared.Voice.{Voice}
use Rattle.oneshot.specs.Mix.{voice_at}
use Rattle.stage.specs.declared.Settings.{Settings}
use Rattle.stage.specs.declared.Tail.{Tail}
use Rattle.stage.specs.Mode.{mode_ok}
use Rattle.stage.specs.Sound.{master_frames}
use Rattle.session.specs.declared.Session.{Session}
use Rattle.session.specs.declared.Refusal.{Refusal}
use Rattle.session.specs.Refusal.{first}
use Rattle.session.specs.Session.{extent_now, captured_now}

-- ---- the numbers above are in range

-- a rate, a queue capacity, a capture capacity, a pool and a mode
unfoldable pub settings_ok : Settings → Bool
settings_ok x = rate_ok x.rate && within 1 4096 x.queue && leb x.capture 4096 && within 1 33554432 x.pool && mode_ok x.mode

-- the clock goes to 2^62, and no count passes its store
unfoldable pub numbers_ok : Session → Bool
numbers_ok s =
    settings_ok s.settings
    && leb s.stage.clock.0 (2 ^ 62)
    && leb s.queued s.settings.queue
    && leb (captured_now s.desk) s.settings.capture
    && leb s.stage.sound.voices.count 16

-- ---- store sizes are exactly the capacities'

unfoldable pub stores_ok : Settings → List ℕ → List ℕ → Bool
stores_ok x q c = eqb (length q) (x.queue * 5) && eqb (length c) (x.capture * 5)

-- ---- used clips lie in the pool, apart, with distinct serials already given: bank_ok
-- ---- queue strictly ordered; queued and captured commands readable, gains as 14 allows, numbers from 1 to the last given, rising in the capture

unfoldable pub records_ok : Session → List ℕ → List ℕ → Bool
records_ok s q c = queue_ok s.desk.number q s.queued && capture_ok s.desk.number c (captured_now s.desk)

-- ---- every held handle live, of right kind and rate

-- what is held is live, of right kind and rate
abbrev pub held : Session → Claim → Bool
held s c = claim_ok s.bank s.settings.rate c

-- the song that a swap left behind
abbrev pub tail_held : Session → Option Tail → Bool
tail_held s None = true
tail_held s (Some t) = held s (Claim.Song t.song)

-- the clip of a voice
abbrev pub voice_held : Session → Voice → Bool
voice_held s v = held s (Claim.Stinger v.handle)

-- the clip of record j, if it holds one
abbrev pub row_held : Session → List ℕ → ℕ → Bool
row_held s ws j = held s (claim_of (read_of (row_at ws j)))

-- every voice that sounds passes a test
abbrev pub every_voice : Session → (Voice → Bool) → Bool
every_voice s p = all_below s.stage.sound.voices.count (λ i. p (voice_at s.stage.sound.voices i))

-- song, tail, voices, queue and capture
unfoldable pub handles_ok : Session → List ℕ → List ℕ → Bool
handles_ok s q c =
    held s (Claim.Song s.stage.playhead.song)
    && tail_held s s.stage.sound.fade.tail
    && every_voice s (voice_held s)
    && all_below s.queued (row_held s q)
    && all_below (captured_now s.desk) (row_held s c)

-- ---- position <= length; a loop as Loop allows

unfoldable pub song_ok : Session → Bool
song_ok s =
    leb s.stage.playhead.transport.position.0 (extent_now s) && loop_fits (extent_now s) s.stage.playhead.transport.looped

-- ---- queued stingers + voices <= 16

unfoldable pub stingers_ok : Session → List ℕ → Bool
stingers_ok s q = leb (stingers q s.queued + s.stage.sound.voices.count) 16

-- ---- voice heads even, inside clips

-- the head of a voice
abbrev pub head_ok : Session → Voice → Bool
head_ok s v = eqb (v.head.0 % 2) 0 && ltb v.head.0 ((clip_of s.bank v.handle).frames * 2)

-- of every one
unfoldable pub heads_ok : Session → Bool
heads_ok s = every_voice s (head_ok s)

-- ---- remaining <= 256 (master), 1..1024 (tail, target 0), at most the declick (voices); targets in range

-- the master's target is from 0 to 2
unfoldable pub master_ok : Session → Bool
master_ok s = leb s.stage.sound.master.remaining master_frames && between zero32 two32 s.stage.sound.master.target

-- the weight of a tail, if there is one
abbrev pub weight_ok : Option Tail → Bool
weight_ok None = true
weight_ok (Some t) = within 1 tail_frames t.weight.remaining && between zero32 zero32 t.weight.target

-- a voice's target is from 0 to 16
abbrev pub gain_ok : Session → Voice → Bool
gain_ok s v = leb v.gain.remaining (declick_of s.settings.rate).frames && between zero32 sixteen32 v.gain.target

-- all of them
unfoldable pub ramps_ok : Session → Bool
ramps_ok s = master_ok s && weight_ok s.stage.sound.fade.tail && every_voice s (gain_ok s)

-- so all that is asked of one voice: its clip, its head and its gain
abbrev pub voice_ok : Session → Voice → Bool
voice_ok s v = voice_held s v && head_ok s v && gain_ok s v

-- and of a tail: its clip and its weight
abbrev pub tail_ok : Session → Option Tail → Bool
tail_ok s t = tail_held s t && weight_ok t

-- ---- executed + queued <= last number; swaps + stingers fired <= executed

unfoldable pub counts_ok : Session → Bool
counts_ok s =
    leb (s.stage.counters.executed + s.queued) s.desk.number
    && leb (s.stage.counters.swaps + s.stage.counters.fired) s.stage.counters.executed

-- ---- the session with its queue and capture; ramp value and step may be any bits

unfoldable pub well_formed : Session → List ℕ → List ℕ → Bool
well_formed s q c =
    numbers_ok s
    && stores_ok s.settings q c
    && bank_ok s.bank s.settings.pool
    && records_ok s q c
    && handles_ok s q c
    && song_ok s
    && stingers_ok s q
    && heads_ok s
    && ramps_ok s
    && counts_ok s

-- 1 alone: start capture, replay, snapshot and metrics weigh nothing else
unfoldable pub weigh_only : Session → List ℕ → List ℕ → Result (Unit {0}) Refusal
weigh_only s q c = first (not (well_formed s q c)) Refusal.NotWellFormed (Ok tt)

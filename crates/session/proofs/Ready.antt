-- What a frame, a command and the reading of the queue's first record ask, a well formed session has. Assumes nothing.
use mathlib.Core.Path.{◌≡◌, subst}
use mathlib.Core.Bool.{Bool, true, cond}
use mathlib.Core.List.{List}
use Prim.Native.Nat.{ℕ, suc, ◌+◌, ◌*◌, ◌%◌, ◌^◌, ◌≤◌, ◌<◌}
use native.Mathlib.Omega.{arith}
use lib.Dec.{eqb, ltb}
use lib.ListN.{length}
use lib.Ieee.{Float}
use borrow.Author.Tests.{eqb-true, ltb-true}
use Rattle.std.specs.Prelude.{Option, Some, None}
use Rattle.counts.specs.declared.Handle.{Handle}
use Rattle.counts.specs.declared.Claim.{Claim}
use Rattle.counts.proofs.Truth.{and_l, and_r}
use Rattle.timeline.specs.Command.{claim_of, takes_voice, gain_ok}
use Rattle.timeline.specs.Record.{readable, read_of}
use Rattle.timeline.specs.Store.{row_at}
use Rattle.timeline.specs.Queue.{stingers, entry_ok}
use Rattle.timeline.proofs.Queue.{stingers_first}
use Rattle.timeline.proofs.WellFormed.{queue_entry, entry_readable, entry_gain}
use Rattle.bank.specs.Slots.{clip_of, live}
use Rattle.bank.specs.Sample.{is_pool}
use Rattle.bank.proofs.Clauses.{live_has}
use Rattle.bank.proofs.Claims.{song_has, stinger_has}
use Rattle.bank.proofs.Pool.{live_lies}
use Rattle.oneshot.specs.declared.Voice.{Voice}
use Rattle.oneshot.specs.Mix.{voice_at}
use Rattle.oneshot.specs.Sounding.{LiesIn, Sounds}
use Rattle.stage.specs.declared.Tail.{Tail}
use Rattle.stage.specs.Ready.{Fades, FrameReady, ExecReady}
use Rattle.session.specs.declared.Session.{Session}
use Rattle.session.specs.WellFormed.{held, tail_held, voice_held, head_ok, well_formed}
use Rattle.session.proofs.Parts.{parts}

-- a clip that is held as a song or as a stinger is live
song_live : (s : Session) (h : Handle) → held s (Claim.Song h) ≡ true → live s.bank h ≡ true
song_live s h e = (song_has s.bank s.settings.rate h e).alive

stinger_live : (s : Session) (h : Handle) → held s (Claim.Stinger h) ≡ true → live s.bank h ≡ true
stinger_live s h e = (stinger_has s.bank s.settings.rate h e).alive

fewer : (b : Bool) (a k : ℕ) → b ≡ true → cond b (a + 1) a + k ≤ 16 → k < 16
fewer b a k e h = let m : a + 1 + k ≤ 16 = rw e at h in omega arith

module _ (s : Session) (q c : List ℕ) (w : well_formed s q c ≡ true) where
  -- the queue's live records lie in its store
  pub queue_lies : s.queued * 5 ≤ length q
  queue_lies = let p = parts s q c w in omega arith

  module _ (pool : List Float) (fits : is_pool pool s.settings.pool ≡ true) where
    lies : (h : Handle) → live s.bank h ≡ true → (h.slot < 32) × LiesIn (length pool) (clip_of s.bank h)
    lies h e = ((live_has s.bank h e).among, live_lies s.bank s.settings.pool (parts s q c w).bank pool fits h e)

    fades : (t : Option Tail) → tail_held s t ≡ true → Fades (length pool) s.bank t
    fades None e = tt
    fades (Some t) e = lies t.song (song_live s t.song e)

    sounds : (v : Voice) → voice_held s v ≡ true → head_ok s v ≡ true → Sounds (length pool) s.bank v
    sounds v e h =
        let l = lies v.handle (stinger_live s v.handle e) in
        let even : Bool = eqb (v.head.0 % 2) 0 in
        let inside : Bool = ltb v.head.0 ((clip_of s.bank v.handle).frames * 2) in
        record { slot = l.0; inside = l.1; even = eqb-true _ _ (and_l even inside h); left = ltb-true _ _ (and_r even inside h) }

    -- a frame can be made, over a pool of its length
    pub frame_ready : FrameReady (length pool) s.bank s.stage
    frame_ready =
        let p = parts s q c w in
        let l = lies s.stage.playhead.song (song_live s s.stage.playhead.song p.song) in
        record {
          slot = l.0;
          song = l.1;
          looped = p.looped;
          sound = record {
            tail = fades s.stage.sound.fade.tail p.tail;
            voices = record { few = p.voices; each = λ i h. sounds (voice_at s.stage.sound.voices i) (p.voices_held i h) (p.heads i h) };
          };
          clock = omega arith;
        }

  module _ (n : ℕ) (e : s.queued ≡ suc n) where
    -- the queue's first record lies in its store,
    pub first_lies : n * 5 + 5 ≤ length q
    first_lies = let l = queue_lies in omega arith

    entry : entry_ok s.desk.number (row_at q n) ≡ true
    entry = queue_entry s.desk.number q s.queued (parts s q c w).queue n (omega arith)

    -- is readable,
    pub first_readable : readable (row_at q n) ≡ true
    first_readable = entry_readable s.desk.number (row_at q n) entry

    -- has a gain that 14 allows,
    pub first_gain : gain_ok (read_of (row_at q n)) ≡ true
    first_gain = entry_gain s.desk.number (row_at q n) entry

    -- and holds a live clip of right kind and rate, if it holds one
    pub first_held : held s (claim_of (read_of (row_at q n))) ≡ true
    first_held = (parts s q c w).queue_held n (omega arith)

    -- with the first command, if that is a Stinger, counted: queued stingers + voices <= 16
    pub first_counted : cond (takes_voice (claim_of (read_of (row_at q n)))) (stingers q n + 1) (stingers q n) + s.stage.sound.voices.count ≤ 16
    first_counted =
        let k : ℕ = s.stage.sound.voices.count in
        subst (λ m. m + k ≤ 16) (stingers_first q n) (subst (λ m. stingers q m + k ≤ 16) e (parts s q c w).stinging)

    -- a Stinger that is first finds a voice free
    pub first_voice : takes_voice (claim_of (read_of (row_at q n))) ≡ true → s.stage.sound.voices.count < 16
    first_voice t = fewer (takes_voice (claim_of (read_of (row_at q n)))) (stingers q n) s.stage.sound.voices.count t first_counted

    -- the first command can be executed
    pub exec_ready : s.desk.number < 2 ^ 64 → ExecReady (read_of (row_at q n)) s.stage
    exec_ready h =
        let p = parts s q c w in
        record { counters = record { executed = omega arith; swaps = omega arith; fired = omega arith }; voice = first_voice }

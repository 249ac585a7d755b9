-- What a session holds: song, tail, voices, queue and running capture. All of it is live, of right kind and rate, and a bank that keeps it so
-- keeps the session well formed. Assumes nothing.
use mathlib.Core.Path.{◌≡◌, refl, sym, ap, ◌∙◌}
use mathlib.Core.Bool.{Bool, true, false, ◌||◌}
use mathlib.Core.Logic.{◌⊎◌, inl, inr}
use mathlib.Core.List.{List}
use Prim.Native.Nat.{ℕ, ◌^◌, ◌<◌}
use native.Mathlib.Omega.{arith}
use borrow.Author.Tests.{eq-eqb}
use Rattle.std.specs.Prelude.{Option, Some, None}
use Rattle.counts.specs.declared.Claim.{Claim}
use Rattle.counts.specs.declared.Handle.{Handle}
use Rattle.counts.specs.declared.SongFrame.{SongFrame}
use Rattle.counts.specs.Below.{any_below}
use Rattle.counts.specs.Handles.{same_handle, claims}
use Rattle.counts.proofs.Truth.{two_ways, never, and_true, or_l, or_r, or_cases}
use Rattle.counts.proofs.Below.{any_true, any_search}
use Rattle.ramp.specs.declared.Ramp.{Ramp}
use Rattle.timeline.specs.Command.{claim_of}
use Rattle.timeline.specs.Record.{read_of, holds_row}
use Rattle.timeline.specs.Store.{row_at}
use Rattle.timeline.specs.Queue.{holds}
use Rattle.timeline.proofs.Words.{holds_read}
use Rattle.bank.specs.declared.Bank.{Bank}
use Rattle.bank.specs.Slots.{clip_of, live, claim_ok}
use Rattle.bank.specs.WellFormed.{bank_ok}
use Rattle.bank.proofs.Handles.{live_given, same_is}
use Rattle.bank.proofs.Claims.{song_has, stinger_has}
use Rattle.oneshot.specs.Mix.{voice_at}
use Rattle.stage.specs.declared.Tail.{Tail}
use Rattle.session.specs.declared.Session.{Session}
use Rattle.session.specs.Session.{with_bank, captured_now}
use Rattle.session.specs.WellFormed.{tail_held, well_formed}
use Rattle.session.proofs.Parts.{Parts, parts, whole}
use Rattle.session.proofs.Typed.{Typed}
use Rattle.clips.specs.Retire.{tail_holds, stage_holds, held_now}

-- the tail holds a song
abbrev pub tail_claim : Option Tail → Claim
tail_claim None = Claim.Nothing
tail_claim (Some t) = Claim.Song t.song

-- what is so of everything that a session holds
pub record Every (P : Claim → Type 0) (s : Session) (q c : List ℕ) : Type 0 where
  pub song : P (Claim.Song s.stage.playhead.song)
  pub tail : P (tail_claim s.stage.sound.fade.tail)
  pub voices : (i : ℕ) → i < s.stage.sound.voices.count → P (Claim.Stinger (voice_at s.stage.sound.voices i).handle)
  pub queue : (j : ℕ) → j < s.queued → P (claim_of (read_of (row_at q j)))
  pub capture : (j : ℕ) → j < captured_now s.desk → P (claim_of (read_of (row_at c j)))

-- what holds a clip: song, tail, voice, queue or running capture
pub data Holder (h : Handle) (s : Session) (q c : List ℕ) : Type 0 where
  by_song : s.stage.playhead.song ≡ h → Holder h s q c
  by_tail : (at : SongFrame) (w : Ramp) → s.stage.sound.fade.tail ≡ Some (record { song = h; cursor = at; weight = w }) → Holder h s q c
  by_voice : (i : ℕ) → i < s.stage.sound.voices.count → (voice_at s.stage.sound.voices i).handle ≡ h → Holder h s q c
  by_queue : (j : ℕ) → j < s.queued → claims h (claim_of (read_of (row_at q j))) ≡ true → Holder h s q c
  by_capture : (j : ℕ) → j < captured_now s.desk → claims h (claim_of (read_of (row_at c j))) ≡ true → Holder h s q c

-- two facts of everything held give a third
pub every_both : {P Q R : Claim → Type 0} (s : Session) (q c : List ℕ) → ((y : Claim) → P y → Q y → R y) → Every P s q c → Every Q s q c → Every R s q c
every_both s q c f a b =
    record {
      song = f _ a.song b.song;
      tail = f _ a.tail b.tail;
      voices = λ i l. f _ (a.voices i l) (b.voices i l);
      queue = λ j l. f _ (a.queue j l) (b.queue j l);
      capture = λ j l. f _ (a.capture j l) (b.capture j l);
    }

tail_has : (b : Bank) (s : Session) (t : Option Tail) → tail_held (with_bank s b) t ≡ true → claim_ok b s.settings.rate (tail_claim t) ≡ true
unfolding claim_ok
tail_has b s None e = refl
tail_has b s (Some t) e = e

tail_is : (b : Bank) (s : Session) (t : Option Tail) → claim_ok b s.settings.rate (tail_claim t) ≡ true → tail_held (with_bank s b) t ≡ true
tail_is b s None e = refl
tail_is b s (Some t) e = e

module _ (s : Session) (q c : List ℕ) (e : well_formed s q c ≡ true) where
  p : Parts s q c
  p = parts s q c e

  -- every held handle is live, of right kind and rate
  pub all_held : Every (λ y. claim_ok s.bank s.settings.rate y ≡ true) s q c
  all_held =
      record {
        song = p.song;
        tail = tail_has s.bank s s.stage.sound.fade.tail p.tail;
        voices = p.voices_held;
        queue = p.queue_held;
        capture = p.capture_held;
      }

  -- a live handle's serial has 32 bits
  pub live_small : Typed s → (h : Handle) → live s.bank h ≡ true → h.serial < 2 ^ 32
  live_small t h alive = let g = live_given s.bank s.settings.pool p.bank h alive in let l = t.bank.serials in omega arith

  -- over another bank that is well formed, where what is held is so still and every live handle has its clip, a session is well formed
  pub over_bank : (b : Bank) → bank_ok b s.settings.pool ≡ true → Every (λ y. claim_ok b s.settings.rate y ≡ true) s q c
      → ((h : Handle) → live s.bank h ≡ true → clip_of b h ≡ clip_of s.bank h) → well_formed (with_bank s b) q c ≡ true
  over_bank b ok held same =
      let rate : ℕ = s.settings.rate in
      let song : Handle = s.stage.playhead.song in
      let its : clip_of b song ≡ clip_of s.bank song = same song (song_has s.bank rate song p.song).alive in
      whole (with_bank s b) q c (
      record {
        settings = p.settings;
        clock = p.clock;
        queued = p.queued;
        captured = p.captured;
        voices = p.voices;
        queue_size = p.queue_size;
        capture_size = p.capture_size;
        bank = ok;
        queue = p.queue;
        capture = p.capture;
        song = held.song;
        tail = tail_is b s s.stage.sound.fade.tail held.tail;
        voices_held = held.voices;
        queue_held = held.queue;
        capture_held = held.capture;
        position = rw its p.position;
        looped = rw its p.looped;
        stinging = p.stinging;
        heads = λ i l. (let h : Handle = (voice_at s.stage.sound.voices i).handle in rw (same h (stinger_has s.bank rate h (p.voices_held i l)).alive) (p.heads i l));
        master = p.master;
        master_target = p.master_target;
        weight = p.weight;
        gains = p.gains;
        executed = p.executed;
        special = p.special;
      })

-- ---- which clips are held

same_as : (h k : Handle) → k ≡ h → same_handle h k ≡ true
same_as h k e = rw e (and_true (eq-eqb h.slot h.slot refl) (eq-eqb h.serial h.serial refl))

module _ (h : Handle) (s : Session) (q c : List ℕ) (small : h.serial < 2 ^ 32) where
  abbrev song : Bool
  song = same_handle h s.stage.playhead.song

  abbrev tail : Bool
  tail = tail_holds h s.stage.sound.fade.tail

  abbrev voice : ℕ → Bool
  voice i = same_handle h (voice_at s.stage.sound.voices i).handle

  abbrev voices : Bool
  voices = any_below s.stage.sound.voices.count voice

  abbrev queue : Bool
  queue = holds h q s.queued

  abbrev capture : Bool
  capture = holds h c (captured_now s.desk)

  by_tail_law : (t : Option Tail) → s.stage.sound.fade.tail ≡ t → claims h (tail_claim t) ≡ true → Holder h s q c
  by_tail_law None p e = absurd (never (sym e))
  by_tail_law (Some t) p e = by_tail t.cursor t.weight (rw (same_is h t.song e) p)

  tail_claims : (t : Option Tail) → tail_holds h t ≡ claims h (tail_claim t)
  tail_claims None = refl
  tail_claims (Some t) = refl

  -- song, tail, voice, queue and running capture hold a clip,
  pub held_is : Holder h s q c → held_now s q c h ≡ true
  unfolding held_now stage_holds
  held_is (by_song e) = or_l capture (or_l queue (or_l voices (or_l tail (same_as h s.stage.playhead.song e))))
  held_is (by_tail at w e) = or_l capture (or_l queue (or_l voices (or_r song (ap (tail_holds h) e ∙ same_as h h refl))))
  held_is (by_voice i l e) =
      or_l capture (or_l queue (or_r (song || tail) (any_true voice s.stage.sound.voices.count i l (same_as h (voice_at s.stage.sound.voices i).handle e))))
  held_is (by_queue j l e) =
      or_l capture (or_r (stage_holds h s.stage) (any_true (λ i. holds_row h (row_at q i)) s.queued j l (holds_read h small (row_at q j) ∙ e)))
  held_is (by_capture j l e) =
      or_r (stage_holds h s.stage || queue) (any_true (λ i. holds_row h (row_at c i)) (captured_now s.desk) j l (holds_read h small (row_at c j) ∙ e))

  -- and nothing else does
  pub held_has : held_now s q c h ≡ true → Holder h s q c
  unfolding held_now stage_holds
  held_has e = captured (or_cases (stage_holds h s.stage || queue) capture e)
    where
      played : (song ≡ true) ⊎ (tail ≡ true) → Holder h s q c
      played (inl e) = by_song (sym (same_is h s.stage.playhead.song e))
      played (inr e) = by_tail_law s.stage.sound.fade.tail refl (sym (tail_claims s.stage.sound.fade.tail) ∙ e)

      sounded : (song || tail ≡ true) ⊎ (voices ≡ true) → Holder h s q c
      sounded (inl e) = played (or_cases song tail e)
      sounded (inr e) =
          let f = any_search voice s.stage.sound.voices.count e in
          by_voice f.0 f.1 (sym (same_is h (voice_at s.stage.sound.voices f.0).handle f.2))

      queued : (stage_holds h s.stage ≡ true) ⊎ (queue ≡ true) → Holder h s q c
      queued (inl e) = sounded (or_cases (song || tail) voices e)
      queued (inr e) =
          let f = any_search (λ i. holds_row h (row_at q i)) s.queued e in
          by_queue f.0 f.1 (sym (holds_read h small (row_at q f.0)) ∙ f.2)

      captured : (stage_holds h s.stage || queue ≡ true) ⊎ (capture ≡ true) → Holder h s q c
      captured (inl e) = queued (or_cases (stage_holds h s.stage) queue e)
      captured (inr e) =
          let f = any_search (λ i. holds_row h (row_at c i)) (captured_now s.desk) e in
          by_capture f.0 f.1 (sym (holds_read h small (row_at c f.0)) ∙ f.2)

  -- a claim to it would hold it
  unclaimed : held_now s q c h ≡ false → (y : Claim) → (claims h y ≡ true → Holder h s q c) → claims h y ≡ false
  unclaimed e y f = go (two_ways (claims h y))
    where
      go : (claims h y ≡ true) ⊎ (claims h y ≡ false) → claims h y ≡ false
      go (inl p) = absurd (never (sym (held_is (f p)) ∙ e))
      go (inr p) = p

  -- where it is not held, nothing that is held claims it
  pub held_by_none : held_now s q c h ≡ false → Every (λ y. claims h y ≡ false) s q c
  held_by_none e =
      record {
        song = unclaimed e (Claim.Song s.stage.playhead.song) (λ p. by_song (sym (same_is h s.stage.playhead.song p)));
        tail = unclaimed e (tail_claim s.stage.sound.fade.tail) (by_tail_law s.stage.sound.fade.tail refl);
        voices = λ i l. (let k : Handle = (voice_at s.stage.sound.voices i).handle in unclaimed e (Claim.Stinger k) (λ p. by_voice i l (sym (same_is h k p))));
        queue = λ j l. unclaimed e (claim_of (read_of (row_at q j))) (by_queue j l);
        capture = λ j l. unclaimed e (claim_of (read_of (row_at c j))) (by_capture j l);
      }

claimed_live : (h : Handle) (b : Bank) (rate : ℕ) (y : Claim) → claims h y ≡ true → claim_ok b rate y ≡ true → live b h ≡ true
claimed_live h b rate Claim.Nothing e f = absurd (never (sym e))
claimed_live h b rate (Claim.Song k) e f = rw (same_is h k e) (song_has b rate k f).alive
claimed_live h b rate (Claim.Stinger k) e f = rw (same_is h k e) (stinger_has b rate k f).alive

-- what is held is live
pub holder_live : (h : Handle) (s : Session) (q c : List ℕ) → well_formed s q c ≡ true → Holder h s q c → live s.bank h ≡ true
holder_live h s q c e x = go x
  where
    held : Every (λ y. claim_ok s.bank s.settings.rate y ≡ true) s q c
    held = all_held s q c e

    go : Holder h s q c → live s.bank h ≡ true
    go (by_song p) = claimed_live h s.bank s.settings.rate (Claim.Song s.stage.playhead.song) (same_as h s.stage.playhead.song p) held.song
    go (by_tail at w p) = claimed_live h s.bank s.settings.rate (Claim.Song h) (same_as h h refl) (rw p at held.tail)
    go (by_voice i l p) =
        claimed_live h s.bank s.settings.rate (Claim.Stinger (voice_at s.stage.sound.voices i).handle) (same_as h (voice_at s.stage.sound.voices i).handle p) (held.voices i l)
    go (by_queue j l p) = claimed_live h s.bank s.settings.rate (claim_of (read_of (row_at q j))) p (held.queue j l)
    go (by_capture j l p) = claimed_live h s.bank s.settings.rate (claim_of (read_of (row_at c j))) p (held.capture j l)

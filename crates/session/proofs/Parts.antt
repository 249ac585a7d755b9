-- A well formed session, taken apart and put together: each clause of the rules' paragraph as a fact of its own. Assumes nothing.
use mathlib.Core.Path.{◌≡◌}
use mathlib.Core.Bool.{Bool, true, ◌&&◌}
use mathlib.Core.List.{List}
use Prim.Native.Nat.{ℕ, ◌+◌, ◌*◌, ◌^◌, ◌≤◌, ◌<◌}
use lib.Dec.{leb}
use lib.ListN.{length}
use borrow.Author.Tests.{le-leb, leb-true, eq-eqb}
use Rattle.counts.specs.declared.Claim.{Claim}
use Rattle.counts.specs.Below.{all_below}
use Rattle.counts.proofs.Truth.{and_l, and_r, and_true}
use Rattle.counts.proofs.Below.{all_at, all_true}
use Rattle.ramp.specs.Number.{zero32, two32, between}
use Rattle.timeline.specs.Queue.{queue_ok, capture_ok, stingers}
use Rattle.transport.specs.Transport.{loop_fits}
use Rattle.bank.specs.WellFormed.{bank_ok}
use Rattle.oneshot.specs.Mix.{voice_at}
use Rattle.stage.specs.Sound.{master_frames}
use Rattle.session.specs.declared.Session.{Session}
use Rattle.session.specs.Session.{extent_now, captured_now}
use Rattle.session.specs.WellFormed.{settings_ok, numbers_ok, stores_ok, held, tail_held, voice_held, row_held, song_ok, stingers_ok, head_ok, master_ok, weight_ok, gain_ok, voice_ok, counts_ok, well_formed}
use Rattle.session.proofs.Checks.{numbers_has, stores_has, checks, checked}

pub record Parts (s : Session) (q c : List ℕ) : Type 0 where
  pub settings : settings_ok s.settings ≡ true
  pub clock : s.stage.clock.0 ≤ 2 ^ 62
  pub queued : s.queued ≤ s.settings.queue
  pub captured : captured_now s.desk ≤ s.settings.capture
  pub voices : s.stage.sound.voices.count ≤ 16
  pub queue_size : length q ≡ s.settings.queue * 5
  pub capture_size : length c ≡ s.settings.capture * 5
  pub bank : bank_ok s.bank s.settings.pool ≡ true
  pub queue : queue_ok s.desk.number q s.queued ≡ true
  pub capture : capture_ok s.desk.number c (captured_now s.desk) ≡ true
  pub song : held s (Claim.Song s.stage.playhead.song) ≡ true
  pub tail : tail_held s s.stage.sound.fade.tail ≡ true
  pub voices_held : (i : ℕ) → i < s.stage.sound.voices.count → voice_held s (voice_at s.stage.sound.voices i) ≡ true
  pub queue_held : (j : ℕ) → j < s.queued → row_held s q j ≡ true
  pub capture_held : (j : ℕ) → j < captured_now s.desk → row_held s c j ≡ true
  pub position : s.stage.playhead.transport.position.0 ≤ extent_now s
  pub looped : loop_fits (extent_now s) s.stage.playhead.transport.looped ≡ true
  pub stinging : stingers q s.queued + s.stage.sound.voices.count ≤ 16
  pub heads : (i : ℕ) → i < s.stage.sound.voices.count → head_ok s (voice_at s.stage.sound.voices i) ≡ true
  pub master : s.stage.sound.master.remaining ≤ master_frames
  pub master_target : between zero32 two32 s.stage.sound.master.target ≡ true
  pub weight : weight_ok s.stage.sound.fade.tail ≡ true
  pub gains : (i : ℕ) → i < s.stage.sound.voices.count → gain_ok s (voice_at s.stage.sound.voices i) ≡ true
  pub executed : s.stage.counters.executed + s.queued ≤ s.desk.number
  pub special : s.stage.counters.swaps + s.stage.counters.fired ≤ s.stage.counters.executed

module _ (s : Session) (q c : List ℕ) where
  -- a well formed session has every part
  pub parts : well_formed s q c ≡ true → Parts s q c
  unfolding song_ok stingers_ok master_ok counts_ok
  parts e =
      let k = checks s q c e in
      let vs = s.stage.sound.voices in
      let n = numbers_has s k.numbers in
      let sizes = stores_has s.settings q c k.stores in
      let q0 = queue_ok s.desk.number q s.queued in
      let q1 = all_below s.queued (row_held s q) in
      let rows = and_l (q0 && q1) (stingers_ok s q) k.queue in
      let c0 = capture_ok s.desk.number c (captured_now s.desk) in
      let c1 = all_below (captured_now s.desk) (row_held s c) in
      let h0 = held s (Claim.Song s.stage.playhead.song) in
      let p0 = leb s.stage.playhead.transport.position.0 (extent_now s) in
      let p1 = loop_fits (extent_now s) s.stage.playhead.transport.looped in
      let place : p0 && p1 ≡ true = and_r h0 (song_ok s) k.song in
      let t0 = tail_held s s.stage.sound.fade.tail in
      let t1 = weight_ok s.stage.sound.fade.tail in
      let v0 : ℕ → Bool = λ i. voice_held s (voice_at vs i) in
      let v1 : ℕ → Bool = λ i. head_ok s (voice_at vs i) in
      let v2 : ℕ → Bool = λ i. gain_ok s (voice_at vs i) in
      let at : (i : ℕ) → i < vs.count → v0 i && v1 i && v2 i ≡ true = λ i l. all_at (λ i. voice_ok s (voice_at vs i)) vs.count i k.voices l in
      let g0 = leb s.stage.sound.master.remaining master_frames in
      let g1 = between zero32 two32 s.stage.sound.master.target in
      let d0 = leb (s.stage.counters.executed + s.queued) s.desk.number in
      let d1 = leb (s.stage.counters.swaps + s.stage.counters.fired) s.stage.counters.executed in
      record {
        settings = n.settings;
        clock = n.clock;
        queued = n.queued;
        captured = n.captured;
        voices = n.voices;
        queue_size = sizes.0;
        capture_size = sizes.1;
        bank = k.bank;
        queue = and_l q0 q1 rows;
        capture = and_l c0 c1 k.capture;
        song = and_l h0 (song_ok s) k.song;
        tail = and_l t0 t1 k.tail;
        voices_held = λ i l. and_l (v0 i) (v1 i) (and_l (v0 i && v1 i) (v2 i) (at i l));
        queue_held = λ j l. all_at (row_held s q) s.queued j (and_r q0 q1 rows) l;
        capture_held = λ j l. all_at (row_held s c) (captured_now s.desk) j (and_r c0 c1 k.capture) l;
        position = leb-true s.stage.playhead.transport.position.0 (extent_now s) (and_l p0 p1 place);
        looped = and_r p0 p1 place;
        stinging = leb-true (stingers q s.queued + vs.count) 16 (and_r (q0 && q1) (stingers_ok s q) k.queue);
        heads = λ i l. and_r (v0 i) (v1 i) (and_l (v0 i && v1 i) (v2 i) (at i l));
        master = leb-true s.stage.sound.master.remaining master_frames (and_l g0 g1 k.master);
        master_target = and_r g0 g1 k.master;
        weight = and_r t0 t1 k.tail;
        gains = λ i l. and_r (v0 i && v1 i) (v2 i) (at i l);
        executed = leb-true (s.stage.counters.executed + s.queued) s.desk.number (and_l d0 d1 k.counts);
        special = leb-true (s.stage.counters.swaps + s.stage.counters.fired) s.stage.counters.executed (and_r d0 d1 k.counts);
      }

  -- and one that has every part is well formed
  pub whole : Parts s q c → well_formed s q c ≡ true
  unfolding numbers_ok stores_ok song_ok stingers_ok master_ok counts_ok
  whole p =
      let vs = s.stage.sound.voices in
      checked s q c
      (record {
        numbers = and_true (and_true (and_true (and_true p.settings (le-leb _ _ p.clock)) (le-leb _ _ p.queued)) (le-leb _ _ p.captured)) (le-leb _ _ p.voices);
        stores = and_true (eq-eqb _ _ p.queue_size) (eq-eqb _ _ p.capture_size);
        bank = p.bank;
        song = and_true p.song (and_true (le-leb _ _ p.position) p.looped);
        tail = and_true p.tail p.weight;
        queue = and_true (and_true p.queue (all_true (row_held s q) s.queued p.queue_held)) (le-leb _ _ p.stinging);
        capture = and_true p.capture (all_true (row_held s c) (captured_now s.desk) p.capture_held);
        voices = all_true (λ i. voice_ok s (voice_at vs i)) vs.count (λ i l. and_true (and_true (p.voices_held i l) (p.heads i l)) (p.gains i l));
        master = and_true (le-leb _ _ p.master) p.master_target;
        counts = and_true (le-leb _ _ p.executed) (le-leb _ _ p.special);
      })

-- whose clock is not past its end
pub clock_most : (s : Session) (q c : List ℕ) → well_formed s q c ≡ true → s.stage.clock.0 ≤ 2 ^ 62
clock_most s q c formed = (parts s q c formed).clock

-- Well formed as the code weighs it: one check after the other, and all that is asked of a voice at once. Assumes nothing.
use mathlib.Core.Path.{◌≡◌, sym, ap, ap₂, ◌∙◌}
use mathlib.Core.Bool.{Bool, true, false, ◌&&◌}
use mathlib.Core.List.{List}
use Prim.Native.Nat.{ℕ, ◌-◌, ◌*◌, ◌^◌, ◌≤◌}
use native.Mathlib.Omega.{arith}
use lib.Dec.{leb, eqb}
use lib.ListN.{length}
use borrow.Author.Tests.{leb-true, eqb-true}
use Rattle.counts.specs.declared.Claim.{Claim}
use Rattle.counts.specs.Below.{all_below}
use Rattle.counts.proofs.Truth.{never, and_l, and_r, and_true}
use Rattle.counts.proofs.Below.{all_and}
use Rattle.timeline.specs.Queue.{ordered_at, rising_at, queue_ok, capture_ok, stingers}
use Rattle.bank.specs.WellFormed.{bank_ok}
use Rattle.bank.proofs.Sums.{leb_move}
use Rattle.oneshot.specs.Mix.{voice_at}
use Rattle.stage.specs.declared.Settings.{Settings}
use Rattle.session.specs.declared.Session.{Session}
use Rattle.session.specs.Session.{captured_now}
use Rattle.session.specs.WellFormed.{settings_ok, numbers_ok, stores_ok, records_ok, held, tail_held, voice_held, row_held, every_voice, handles_ok, song_ok, stingers_ok, head_ok, heads_ok, master_ok, weight_ok, gain_ok, ramps_ok, voice_ok, tail_ok, counts_ok, well_formed}
use Rattle.session.proofs.Sizes.{agree}
use Rattle.session.proofs.Walk.{asked, asked_each}

-- ---- what a single check gives

-- the numbers, each in its range
pub record Numbers (s : Session) : Type 0 where
  pub settings : settings_ok s.settings ≡ true
  pub clock : s.stage.clock.0 ≤ 2 ^ 62
  pub queued : s.queued ≤ s.settings.queue
  pub captured : captured_now s.desk ≤ s.settings.capture
  pub voices : s.stage.sound.voices.count ≤ 16

-- numbers that pass their check are in range
pub numbers_has : (s : Session) → numbers_ok s ≡ true → Numbers s
unfolding numbers_ok
numbers_has s e =
    let x0 = settings_ok s.settings in
    let x1 = leb s.stage.clock.0 (2 ^ 62) in
    let x2 = leb s.queued s.settings.queue in
    let x3 = leb (captured_now s.desk) s.settings.capture in
    let x4 = leb s.stage.sound.voices.count 16 in
    let n3 = and_l (x0 && x1 && x2 && x3) x4 e in
    let n2 = and_l (x0 && x1 && x2) x3 n3 in
    let n1 = and_l (x0 && x1) x2 n2 in
    record {
      settings = and_l x0 x1 n1;
      clock = leb-true s.stage.clock.0 (2 ^ 62) (and_r x0 x1 n1);
      queued = leb-true s.queued s.settings.queue (and_r (x0 && x1) x2 n2);
      captured = leb-true (captured_now s.desk) s.settings.capture (and_r (x0 && x1 && x2) x3 n3);
      voices = leb-true s.stage.sound.voices.count 16 (and_r (x0 && x1 && x2 && x3) x4 e);
    }

-- stores that pass their check have exactly the capacities' sizes
pub stores_has : (x : Settings) (q c : List ℕ) → stores_ok x q c ≡ true → (length q ≡ x.queue * 5) × (length c ≡ x.capture * 5)
unfolding stores_ok
stores_has x q c e =
    let q0 = eqb (length q) (x.queue * 5) in
    let c0 = eqb (length c) (x.capture * 5) in
    (eqb-true (length q) (x.queue * 5) (and_l q0 c0 e), eqb-true (length c) (x.capture * 5) (and_r q0 c0 e))

-- so the queued and the captured records lie in their stores
pub rooms : (s : Session) (q c : List ℕ) → numbers_ok s ≡ true → stores_ok s.settings q c ≡ true
    → (s.queued * 5 ≤ length q) × (captured_now s.desk * 5 ≤ length c)
rooms s q c n e =
    let m = numbers_has s n in
    let l = stores_has s.settings q c e in
    (omega arith, omega arith)

-- ---- the walks

-- of the queue: its records in order, what they hold, and its Stingers with the voices
abbrev pub queue_fits : Session → List ℕ → Bool
queue_fits s q = queue_ok s.desk.number q s.queued && all_below s.queued (row_held s q) && stingers_ok s q

-- of the capture: its records in order, and what they hold
abbrev pub capture_fits : Session → List ℕ → Bool
capture_fits s c = capture_ok s.desk.number c (captured_now s.desk) && all_below (captured_now s.desk) (row_held s c)

module _ (s : Session) where
  -- so much is asked by the walk over the queue
  pub queue_walk : (q : List ℕ) → s.stage.sound.voices.count ≤ 16
      → all_below s.queued (asked s.bank s.settings.rate s.desk.number (ordered_at q) q) && leb (stingers q s.queued) (16 - s.stage.sound.voices.count)
      ≡ queue_fits s q
  unfolding queue_ok stingers_ok
  queue_walk q few =
      ap₂ ◌&&◌ (asked_each s.bank s.settings.rate s.desk.number (ordered_at q) q s.queued) (leb_move (stingers q s.queued) s.stage.sound.voices.count 16 few)

  -- and by that over the capture
  pub capture_walk : (c : List ℕ) → let m = captured_now s.desk in
      all_below m (asked s.bank s.settings.rate s.desk.number (rising_at c) c) ≡ capture_fits s c
  unfolding capture_ok
  capture_walk c = asked_each s.bank s.settings.rate s.desk.number (rising_at c) c (captured_now s.desk)

-- ---- all of them

-- what each check finds
pub record Checks (s : Session) (q c : List ℕ) : Type 0 where
  pub numbers : numbers_ok s ≡ true
  pub stores : stores_ok s.settings q c ≡ true
  pub bank : bank_ok s.bank s.settings.pool ≡ true
  pub song : held s (Claim.Song s.stage.playhead.song) && song_ok s ≡ true
  pub tail : tail_ok s s.stage.sound.fade.tail ≡ true
  pub queue : queue_fits s q ≡ true
  pub capture : capture_fits s c ≡ true
  pub voices : every_voice s (voice_ok s) ≡ true
  pub master : master_ok s ≡ true
  pub counts : counts_ok s ≡ true

-- all that is asked of every voice is each thing asked of every voice
voices_each : (s : Session) → every_voice s (voice_ok s) ≡ every_voice s (voice_held s) && every_voice s (head_ok s) && every_voice s (gain_ok s)
voices_each s =
    let at = voice_at s.stage.sound.voices in
    let n = s.stage.sound.voices.count in
    all_and (λ i. voice_held s (at i) && head_ok s (at i)) (λ i. gain_ok s (at i)) n
    ∙ ap (λ b. b && every_voice s (gain_ok s)) (all_and (λ i. voice_held s (at i)) (λ i. head_ok s (at i)) n)

-- a check that does not fail is passed
pub passes : {r t : Bool} → r ≡ t → r ≡ true → t ≡ true
passes e f = sym e ∙ f

module _ (s : Session) (q c : List ℕ) where
  -- a well formed session passes every check
  pub checks : well_formed s q c ≡ true → Checks s q c
  unfolding well_formed records_ok handles_ok heads_ok ramps_ok
  checks e =
      let n : Bool = numbers_ok s in
      let st : Bool = stores_ok s.settings q c in
      let b : Bool = bank_ok s.bank s.settings.pool in
      let r : Bool = records_ok s q c in
      let h : Bool = handles_ok s q c in
      let sg : Bool = song_ok s in
      let sn : Bool = stingers_ok s q in
      let hd : Bool = heads_ok s in
      let rp : Bool = ramps_ok s in
      let ct : Bool = counts_ok s in
      let e9 = and_l (n && st && b && r && h && sg && sn && hd && rp) ct e in
      let e8 = and_l (n && st && b && r && h && sg && sn && hd) rp e9 in
      let e7 = and_l (n && st && b && r && h && sg && sn) hd e8 in
      let e6 = and_l (n && st && b && r && h && sg) sn e7 in
      let e5 = and_l (n && st && b && r && h) sg e6 in
      let e4 = and_l (n && st && b && r) h e5 in
      let e3 = and_l (n && st && b) r e4 in
      let e2 = and_l (n && st) b e3 in
      let er : r ≡ true = and_r (n && st && b) r e4 in
      let r0 = queue_ok s.desk.number q s.queued in
      let r1 = capture_ok s.desk.number c (captured_now s.desk) in
      let eh : h ≡ true = and_r (n && st && b && r) h e5 in
      let erp : rp ≡ true = and_r (n && st && b && r && h && sg && sn && hd) rp e9 in
      let h0 = held s (Claim.Song s.stage.playhead.song) in
      let h1 = tail_held s s.stage.sound.fade.tail in
      let h2 = every_voice s (voice_held s) in
      let h3 = all_below s.queued (row_held s q) in
      let h4 = all_below (captured_now s.desk) (row_held s c) in
      let k3 = and_l (h0 && h1 && h2 && h3) h4 eh in
      let k2 = and_l (h0 && h1 && h2) h3 k3 in
      let k1 = and_l (h0 && h1) h2 k2 in
      let g0 = master_ok s in
      let g1 = weight_ok s.stage.sound.fade.tail in
      let g2 = every_voice s (gain_ok s) in
      let m2 = and_l (g0 && g1) g2 erp in
      record {
        numbers = and_l n st e2;
        stores = and_r n st e2;
        bank = and_r (n && st) b e3;
        song = and_true (and_l h0 h1 k1) (and_r (n && st && b && r && h) sg e6);
        tail = and_true (and_r h0 h1 k1) (and_r g0 g1 m2);
        queue = and_true (and_true (and_l r0 r1 er) (and_r (h0 && h1 && h2) h3 k3)) (and_r (n && st && b && r && h && sg) sn e7);
        capture = and_true (and_r r0 r1 er) (and_r (h0 && h1 && h2 && h3) h4 eh);
        voices = voices_each s ∙ and_true (and_true (and_r (h0 && h1) h2 k2) (and_r (n && st && b && r && h && sg && sn) hd e8)) (and_r (g0 && g1) g2 erp);
        master = and_l g0 g1 m2;
        counts = and_r (n && st && b && r && h && sg && sn && hd && rp) ct e;
      }

  -- and one that passes every check is well formed
  pub checked : Checks s q c → well_formed s q c ≡ true
  unfolding well_formed records_ok handles_ok heads_ok ramps_ok
  checked k =
      let h0 = held s (Claim.Song s.stage.playhead.song) in
      let t0 = tail_held s s.stage.sound.fade.tail in
      let t1 = weight_ok s.stage.sound.fade.tail in
      let v0 = every_voice s (voice_held s) in
      let v1 = every_voice s (head_ok s) in
      let v2 = every_voice s (gain_ok s) in
      let v = sym (voices_each s) ∙ k.voices in
      let w = and_l (v0 && v1) v2 v in
      let q0 = queue_ok s.desk.number q s.queued in
      let q1 = all_below s.queued (row_held s q) in
      let kq = and_l (q0 && q1) (stingers_ok s q) k.queue in
      let c0 = capture_ok s.desk.number c (captured_now s.desk) in
      let c1 = all_below (captured_now s.desk) (row_held s c) in
      let records : records_ok s q c ≡ true = and_true (and_l q0 q1 kq) (and_l c0 c1 k.capture) in
      let handles : handles_ok s q c ≡ true =
      and_true (and_true (and_true (and_true (and_l h0 (song_ok s) k.song) (and_l t0 t1 k.tail)) (and_l v0 v1 w)) (and_r q0 q1 kq)) (and_r c0 c1 k.capture) in
      let ramps : ramps_ok s ≡ true = and_true (and_true k.master (and_r t0 t1 k.tail)) (and_r (v0 && v1) v2 v) in
      let basis = and_true (and_true (and_true k.numbers k.stores) k.bank) records in
      and_true (and_true (and_true (and_true (and_true (and_true basis handles) (and_r h0 (song_ok s) k.song)) (and_r (q0 && q1) (stingers_ok s q) k.queue)) (and_r v0 v1 w)) ramps) k.counts

  -- so the last check decides
  pub decides : (t : Bool) → (t ≡ true → Checks s q c) → (Checks s q c → t ≡ true) → t ≡ well_formed s q c
  decides t f g = agree t (well_formed s q c) (λ e. checked (f e)) (λ e. g (checks e))

  -- one that fails a check is not
  pub fails : {r t : Bool} → r ≡ t → r ≡ false → (Checks s q c → t ≡ true) → false ≡ well_formed s q c
  fails e f field = decides false (λ n. absurd (never (sym n))) (λ k. sym f ∙ e ∙ field k)

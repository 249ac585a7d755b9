-- `formed` meets its contract: a check that fails is one that a well formed session passes, and the last decides.
use mathlib.Core.Path.{◌≡◌, refl, sym, ap, ◌∙◌}
use mathlib.Core.Bool.{Bool, true, ◌&&◌}
use mathlib.Core.List.{List}
use Prim.Native.Nat.{ℕ, ◌+◌, ◌^◌, ◌≤◌}
use native.Mathlib.Omega.{arith}
use lib.Dec.{leb}
use lib.ListN.{length}
use Rattle.counts.specs.declared.Claim.{Claim}
use Rattle.counts.proofs.Truth.{and_true}
use Rattle.counts.proofs.Below.{all_true}
use Rattle.ramp.specs.Number.{zero32, two32, between}
use Rattle.timeline.specs.Queue.{ordered_at, rising_at}
use Rattle.transport.specs.Transport.{loop_fits}
use Rattle.stage.specs.Sound.{master_frames}
use Rattle.session.specs.declared.Session.{Session}
use Rattle.session.specs.Session.{extent_now, captured_now}
use Rattle.session.specs.WellFormed.{settings_ok, numbers_ok, held, every_voice, song_ok, master_ok, voice_ok, tail_ok, counts_ok}
use Rattle.session.proofs.Walk.{clip_read, asked_none, stingers_fit}
use Rattle.session.proofs.Checks.{Checks, queue_fits, capture_fits, numbers_has, rooms, queue_walk, capture_walk, passes, decides, fails}
use Rattle.session.proofs.formed.Goals as goal
use Rattle.session.proofs.formed.Goals.{then-queued-gt0+else-not-queued_ok, else-queued-gt0, then-captured-gt0+else-not-captured_ok, else-captured-gt0, then-count-gt0+else-not-voices_ok, else-count-gt0}

-- ---- what each check weighs

module _ (s : Session) (r : Bool) where
  -- the numbers,
  numbers_is : (k : ℕ) → k ≡ captured_now s.desk
      → r ≡ settings_ok s.settings && leb s.stage.clock.0 (2 ^ 62) && leb s.queued s.settings.queue && leb k s.settings.capture && leb s.stage.sound.voices.count 16
      → r ≡ numbers_ok s
  unfolding numbers_ok
  numbers_is k e f = rw e at f

  -- the master,
  master_is : r ≡ leb s.stage.sound.master.remaining master_frames && between zero32 two32 s.stage.sound.master.target → r ≡ master_ok s
  unfolding master_ok
  master_is e = e

  -- the counts
  counts_is : r ≡ leb (s.stage.counters.executed + s.queued) s.desk.number && leb (s.stage.counters.swaps + s.stage.counters.fired) s.stage.counters.executed → r ≡ counts_ok s
  unfolding counts_ok
  counts_is e = e

  -- and the song
  song_is : r ≡ held s (Claim.Song s.stage.playhead.song) && (leb s.stage.playhead.transport.position.0 (extent_now s) && loop_fits (extent_now s) s.stage.playhead.transport.looped)
      → r ≡ held s (Claim.Song s.stage.playhead.song) && song_ok s
  unfolding song_ok
  song_is e = e

-- ---- stores with nothing in them

-- no record is queued,
queue_none : (s : Session) (q : List ℕ) → s.stage.sound.voices.count ≤ 16 → s.queued ≤ 0 → queue_fits s q ≡ true
queue_none s q few n =
    sym (queue_walk s q few) ∙ and_true (asked_none s.bank s.settings.rate s.desk.number (ordered_at q) q s.queued n) (stingers_fit q s.queued _ n)

-- and none captured
capture_none : (s : Session) (d : List ℕ) → captured_now s.desk ≤ 0 → capture_fits s d ≡ true
capture_none s d n = sym (capture_walk s d) ∙ asked_none s.bank s.settings.rate s.desk.number (rising_at d) d (captured_now s.desk) n

-- ---- the goals

pub returns-then-not-numbers_ok : goal.returns-then-not-numbers_ok
returns-then-not-numbers_ok c =
    let s : Session = record { settings = c.args.settings; bank = c.args.bank; stage = c.args.stage; queued = c.args.queued; desk = c.args.desk } in
    fails _ _ _ (numbers_is s _ _ c.captured_now-captured.ensures c.numbers_ok.ensures) c.if-not-numbers_ok.true (λ k. k.numbers)

pub returns-then-not-stores_ok : goal.returns-then-not-stores_ok
returns-then-not-stores_ok c =
    let s : Session = record { settings = c.args.settings; bank = c.args.bank; stage = c.args.stage; queued = c.args.queued; desk = c.args.desk } in
    fails _ _ _ (c.stores_ok.ensures) c.if-not-stores_ok.true (λ k. k.stores)

pub returns-then-not-master_ok : goal.returns-then-not-master_ok
returns-then-not-master_ok c =
    let s : Session = record { settings = c.args.settings; bank = c.args.bank; stage = c.args.stage; queued = c.args.queued; desk = c.args.desk } in
    fails _ _ _ (master_is s _ c.master_ok.ensures) c.if-not-master_ok.true (λ k. k.master)

pub returns-then-not-counts_ok : goal.returns-then-not-counts_ok
returns-then-not-counts_ok c =
    let s : Session = record { settings = c.args.settings; bank = c.args.bank; stage = c.args.stage; queued = c.args.queued; desk = c.args.desk } in
    fails _ _ _ (counts_is s _ c.counts_ok.ensures) c.if-not-counts_ok.true (λ k. k.counts)

pub returns-then-not-bank_ok : goal.returns-then-not-bank_ok
returns-then-not-bank_ok c =
    let s : Session = record { settings = c.args.settings; bank = c.args.bank; stage = c.args.stage; queued = c.args.queued; desk = c.args.desk } in
    fails _ _ _ (c.bank_ok.ensures) c.if-not-bank_ok.true (λ k. k.bank)

pub returns-then-not-song_ok : goal.returns-then-not-song_ok
returns-then-not-song_ok c =
    let s : Session = record { settings = c.args.settings; bank = c.args.bank; stage = c.args.stage; queued = c.args.queued; desk = c.args.desk } in
    let m : length c.args.bank.clips ≡ 32 = omega arith in
    fails _ _ _ (song_is s _ (c.song_ok.ensures c.args.bank refl (clip_read c.args.bank c.args.bank refl m _ _ _ c.place_of-place.ensures))) c.if-not-song_ok.true (λ k. k.song)

pub queued_ok-requires : goal.queued_ok-requires
queued_ok-requires c =
    let s : Session = record { settings = c.args.settings; bank = c.args.bank; stage = c.args.stage; queued = c.args.queued; desk = c.args.desk } in
    let numbers : numbers_ok s ≡ true = passes (numbers_is s _ _ c.captured_now-captured.ensures c.numbers_ok.ensures) c.if-not-numbers_ok.false in
    let room = rooms s c.args.queue.now c.args.capture.now numbers (passes c.stores_ok.ensures c.if-not-stores_ok.false) in
    room.0

pub returns-then-not-queued_ok : goal.returns-then-not-queued_ok
returns-then-not-queued_ok c =
    let s : Session = record { settings = c.args.settings; bank = c.args.bank; stage = c.args.stage; queued = c.args.queued; desk = c.args.desk } in
    let numbers : numbers_ok s ≡ true = passes (numbers_is s _ _ c.captured_now-captured.ensures c.numbers_ok.ensures) c.if-not-numbers_ok.false in
    let few = (numbers_has s numbers).voices in
    fails _ _ _ (c.queued_ok.ensures ∙ queue_walk s c.args.queue.now few) c.if-not-queued_ok.true (λ k. k.queue)

pub captured_ok-requires : goal.captured_ok-requires
captured_ok-requires c =
    let s : Session = record { settings = c.args.settings; bank = c.args.bank; stage = c.args.stage; queued = c.args.queued; desk = c.args.desk } in
    let numbers : numbers_ok s ≡ true = passes (numbers_is s _ _ c.captured_now-captured.ensures c.numbers_ok.ensures) c.if-not-numbers_ok.false in
    let room = rooms s c.args.queue.now c.args.capture.now numbers (passes c.stores_ok.ensures c.if-not-stores_ok.false) in
    rw c.captured_now-captured.ensures room.1

pub returns-then-not-captured_ok : goal.returns-then-not-captured_ok
returns-then-not-captured_ok c =
    let s : Session = record { settings = c.args.settings; bank = c.args.bank; stage = c.args.stage; queued = c.args.queued; desk = c.args.desk } in
    fails _ _ _ ((rw c.captured_now-captured.ensures at c.captured_ok.ensures) ∙ capture_walk s c.args.capture.now) c.if-not-captured_ok.true (λ k. k.capture)

pub returns-then-not-voices_ok : goal.returns-then-not-voices_ok
returns-then-not-voices_ok c =
    let s : Session = record { settings = c.args.settings; bank = c.args.bank; stage = c.args.stage; queued = c.args.queued; desk = c.args.desk } in
    fails _ _ _ (c.voices_ok.ensures s refl refl) c.if-not-voices_ok.true (λ k. k.voices)

pub returns-in-None : goal.returns-in-None
returns-in-None c =
    let s : Session = record { settings = c.args.settings; bank = c.args.bank; stage = c.args.stage; queued = c.args.queued; desk = c.args.desk } in
    let numbers : numbers_ok s ≡ true = passes (numbers_is s _ _ c.captured_now-captured.ensures c.numbers_ok.ensures) c.if-not-numbers_ok.false in
    let few = (numbers_has s numbers).voices in
    let m : length c.args.bank.clips ≡ 32 = omega arith in
    let queue : queue_fits s c.args.queue.now ≡ true =
    elim c.if-queued-gt0.branch [ then-queued-gt0+else-not-queued_ok w ↦ passes (w.queued_ok.ensures ∙ queue_walk s c.args.queue.now few) w.if-not-queued_ok.false | else-queued-gt0 w ↦ queue_none s c.args.queue.now few w.if-queued-gt0.false ] in
    let capture : capture_fits s c.args.capture.now ≡ true =
    elim c.if-captured-gt0.branch [ then-captured-gt0+else-not-captured_ok w ↦ passes ((rw c.captured_now-captured.ensures at w.captured_ok.ensures) ∙ capture_walk s c.args.capture.now) w.if-not-captured_ok.false | else-captured-gt0 w ↦ capture_none s c.args.capture.now (rw c.captured_now-captured.ensures at w.if-captured-gt0.false) ] in
    let voices : every_voice s (voice_ok s) ≡ true =
    elim c.if-count-gt0.branch [ then-count-gt0+else-not-voices_ok w ↦ passes (w.voices_ok.ensures s refl refl) w.if-not-voices_ok.false | else-count-gt0 w ↦ all_true _ _ (λ i l. absurd (omega (arith, w.if-count-gt0.false))) ] in
    let settled : tail_ok s c.args.stage.sound.fade.tail ≡ true → Checks s c.args.queue.now c.args.capture.now =
    λ e. record {
      numbers = numbers;
      stores = passes c.stores_ok.ensures c.if-not-stores_ok.false;
      bank = passes c.bank_ok.ensures c.if-not-bank_ok.false;
      song = passes (song_is s _ (c.song_ok.ensures c.args.bank refl (clip_read c.args.bank c.args.bank refl m _ _ _ c.place_of-place.ensures))) c.if-not-song_ok.false;
      tail = e;
      queue = queue;
      capture = capture;
      voices = voices;
      master = passes (master_is s _ c.master_ok.ensures) c.if-not-master_ok.false;
      counts = passes (counts_is s _ c.counts_ok.ensures) c.if-not-counts_ok.false;
    } in
    decides _ _ _ _ (λ e. settled (ap (tail_ok s) c.in-None.is)) (λ k. refl)

pub returns-in-Some : goal.returns-in-Some
returns-in-Some c =
    let s : Session = record { settings = c.args.settings; bank = c.args.bank; stage = c.args.stage; queued = c.args.queued; desk = c.args.desk } in
    let numbers : numbers_ok s ≡ true = passes (numbers_is s _ _ c.captured_now-captured.ensures c.numbers_ok.ensures) c.if-not-numbers_ok.false in
    let few = (numbers_has s numbers).voices in
    let m : length c.args.bank.clips ≡ 32 = omega arith in
    let queue : queue_fits s c.args.queue.now ≡ true =
    elim c.if-queued-gt0.branch [ then-queued-gt0+else-not-queued_ok w ↦ passes (w.queued_ok.ensures ∙ queue_walk s c.args.queue.now few) w.if-not-queued_ok.false | else-queued-gt0 w ↦ queue_none s c.args.queue.now few w.if-queued-gt0.false ] in
    let capture : capture_fits s c.args.capture.now ≡ true =
    elim c.if-captured-gt0.branch [ then-captured-gt0+else-not-captured_ok w ↦ passes ((rw c.captured_now-captured.ensures at w.captured_ok.ensures) ∙ capture_walk s c.args.capture.now) w.if-not-captured_ok.false | else-captured-gt0 w ↦ capture_none s c.args.capture.now (rw c.captured_now-captured.ensures at w.if-captured-gt0.false) ] in
    let voices : every_voice s (voice_ok s) ≡ true =
    elim c.if-count-gt0.branch [ then-count-gt0+else-not-voices_ok w ↦ passes (w.voices_ok.ensures s refl refl) w.if-not-voices_ok.false | else-count-gt0 w ↦ all_true _ _ (λ i l. absurd (omega (arith, w.if-count-gt0.false))) ] in
    let settled : tail_ok s c.args.stage.sound.fade.tail ≡ true → Checks s c.args.queue.now c.args.capture.now =
    λ e. record {
      numbers = numbers;
      stores = passes c.stores_ok.ensures c.if-not-stores_ok.false;
      bank = passes c.bank_ok.ensures c.if-not-bank_ok.false;
      song = passes (song_is s _ (c.song_ok.ensures c.args.bank refl (clip_read c.args.bank c.args.bank refl m _ _ _ c.place_of-place.ensures))) c.if-not-song_ok.false;
      tail = e;
      queue = queue;
      capture = capture;
      voices = voices;
      master = passes (master_is s _ c.master_ok.ensures) c.if-not-master_ok.false;
      counts = passes (counts_is s _ c.counts_ok.ensures) c.if-not-counts_ok.false;
    } in
    let clip = clip_read c.args.bank c.args.bank refl m _ _ _ c.place_of-place-in-Some.ensures in
    c.tail_ok.ensures c.args.bank refl clip ∙ sym (ap (tail_ok s) c.in-Some.is) ∙ decides _ _ _ _ settled (λ k. k.tail)

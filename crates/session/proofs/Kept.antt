-- A well formed session stays well formed: after one frame, and after its first queued command. Assumes nothing.
use mathlib.Core.Path.{◌≡◌, refl, ◌∙◌, subst}
use mathlib.Core.Bool.{Bool, true, false, cond, ◌&&◌}
use mathlib.Core.List.{List}
use Prim.Native.Nat.{ℕ, suc, ◌+◌, ◌*◌, ◌%◌, ◌^◌, ◌≤◌, ◌<◌}
use native.Mathlib.Omega.{arith}
use lib.Dec.{leb, eqb, ltb}
use lib.ListN.{length}
use lib.Ieee.{Float, le}
use borrow.Author.Tests.{eq-eqb, eqb-true, le-leb, leb-true, lt-ltb}
use Rattle.std.specs.Prelude.{Option, Some, None}
use Rattle.counts.specs.declared.Handle.{Handle}
use Rattle.counts.specs.declared.Claim.{Claim}
use Rattle.counts.specs.Below.{within}
use Rattle.counts.proofs.Truth.{and_true, and_l, and_r}
use Rattle.counts.proofs.Below.{within_is, within_low, within_high}
use Rattle.ramp.specs.Number.{zero32, sixteen32, finite, between}
use Rattle.ramp.specs.Ramp.{declick_of}
use Rattle.ramp.specs.Tail.{tail_frames}
use Rattle.timeline.specs.declared.Command.{Command}
use Rattle.timeline.specs.Command as commands
use Rattle.timeline.specs.Command.{claim_of, takes_voice}
use Rattle.timeline.specs.Record.{read_of}
use Rattle.timeline.specs.Store.{row_at}
use Rattle.timeline.specs.Queue.{queue_ok, stingers}
use Rattle.timeline.proofs.WellFormed.{queue_takes}
use Rattle.transport.specs.Transport.{transport_fits}
use Rattle.transport.proofs.Fits.{placed, loops}
use Rattle.bank.specs.Slots.{clip_of, extent_of}
use Rattle.bank.specs.Recording.{view_of}
use Rattle.bank.specs.WellFormed.{bank_ok}
use Rattle.bank.proofs.Claims.{stinger_has}
use Rattle.bank.proofs.Handles.{live_clip}
use Rattle.oneshot.specs.declared.Pair.{Pair}
use Rattle.oneshot.specs.declared.Voice.{Voice}
use Rattle.oneshot.specs.Voice.{fired_of, voice_of}
use Rattle.oneshot.specs.Mix.{voice_at}
use Rattle.oneshot.proofs.Next.{frame_handle, frame_remaining, frame_target}
use Rattle.oneshot.proofs.Fires.{fired_remaining, fired_target}
use Rattle.stage.specs.declared.Tail.{Tail}
use Rattle.stage.specs.declared.Stage.{Stage}
use Rattle.stage.specs.Stage.{frame_of, execute_of}
use Rattle.stage.proofs.Keeps.{MasterFits, OfTail, frame_clock, frame_song, frame_fits, frame_master, frame_tail, frame_voices, frame_count, frame_places, frame_counters, exec_clock, exec_song, exec_fits, exec_master, exec_tail, exec_voices, exec_count, exec_places, exec_executed, exec_counted}
use Rattle.stage.proofs.Weight.{TailWeighs, frame_weighs, exec_weighs}
use Rattle.session.specs.declared.Session.{Session}
use Rattle.session.specs.Session.{with_stage, extent_now}
use Rattle.session.specs.WellFormed.{held, tail_held, voice_held, head_ok, weight_ok, gain_ok, well_formed}
use Rattle.session.proofs.Parts.{parts, whole}
use Rattle.session.proofs.Ready.{first_gain, first_held, first_counted, first_voice}

-- ---- the tail

weight_has : (t : Option Tail) → weight_ok t ≡ true → TailWeighs t
weight_has None e = tt
weight_has (Some t) e =
    let few : Bool = within 1 tail_frames t.weight.remaining in
    let zero : Bool = between zero32 zero32 t.weight.target in
    record {
      from = within_low 1 tail_frames t.weight.remaining (and_l few zero e);
      to = within_high 1 tail_frames t.weight.remaining (and_l few zero e);
      target = and_r few zero e;
    }

weight_is : (t : Option Tail) → TailWeighs t → weight_ok t ≡ true
weight_is None w = refl
weight_is (Some t) w = and_true (within_is 1 tail_frames t.weight.remaining w.from w.to) w.target

module _ (s : Session) where
  abbrev TailHeld : Option Tail → Type 0
  TailHeld = OfTail (λ h w. held s (Claim.Song h) ≡ true)

  tail_has : (t : Option Tail) → tail_held s t ≡ true → TailHeld t
  tail_has None e = tt
  tail_has (Some t) e = e

  tail_is : (t : Option Tail) → TailHeld t → tail_held s t ≡ true
  tail_is None e = refl
  tail_is (Some t) e = e

  -- ---- a voice, a frame on

  module _ (pool : List Float) (v : Voice) (p : Pair) where
    abbrev next : Voice
    next = (voice_of (view_of pool s.bank v.handle) v p).voice

    held_next : voice_held s v ≡ true → voice_held s next ≡ true
    held_next h = rw (frame_handle (view_of pool s.bank v.handle) v p) h

    head_next : head_ok s v ≡ true → (voice_of (view_of pool s.bank v.handle) v p).more ≡ true → head_ok s next ≡ true
    unfolding voice_of view_of
    head_next h m =
        let even : Bool = eqb (v.head.0 % 2) 0 in
        let inside : Bool = ltb v.head.0 ((clip_of s.bank v.handle).frames * 2) in
        and_true (eq-eqb ((v.head.0 + 2) % 2) 0 (omega (arith, eqb-true (v.head.0 % 2) 0 (and_l even inside h)))) m

    gain_next : gain_ok s v ≡ true → gain_ok s next ≡ true
    gain_next h =
        let x = view_of pool s.bank v.handle in
        let most : ℕ = (declick_of s.settings.rate).frames in
        let few : Bool = leb v.gain.remaining most in
        let range : Bool = between zero32 sixteen32 v.gain.target in
        and_true (le-leb next.gain.remaining most (omega (arith, frame_remaining x v p, leb-true v.gain.remaining most (and_l few range h))))
        (rw (frame_target x v p) (and_r few range h))

  -- ---- a voice that a command fires

  module _ (room : ℕ) (ok : bank_ok s.bank room ≡ true) (c : Command) (claim : held s (claim_of c) ≡ true) (gain : commands.gain_ok c ≡ true)
      (h : Handle) (g : Float) (e : c ≡ Command.Stinger h g) where
    abbrev fired : Voice
    fired = fired_of s.settings.rate h g

    held_fired : voice_held s fired ≡ true
    unfolding fired_of
    held_fired = subst (λ d. held s (claim_of d) ≡ true) e claim

    head_fired : head_ok s fired ≡ true
    unfolding fired_of
    head_fired =
        let live = (stinger_has s.bank s.settings.rate h (subst (λ d. held s (claim_of d) ≡ true) e claim)).alive in
        let f = (live_clip s.bank room ok h live).long in
        lt-ltb 0 ((clip_of s.bank h).frames * 2) (omega arith)

    gain_fired : gain_ok s fired ≡ true
    gain_fired =
        let most : ℕ = (declick_of s.settings.rate).frames in
        let allowed : finite g && le g sixteen32 ≡ true = subst (λ d. commands.gain_ok d ≡ true) e gain in
        and_true (le-leb fired.gain.remaining most (omega (arith, fired_remaining s.settings.rate h g)))
        (fired_target s.settings.rate h g (and_r (finite g) (le g sixteen32) allowed))

one_more : (b : Bool) (a k : ℕ) → cond b (a + 1) a + k ≤ 16 → a + cond b (k + 1) k ≤ 16
one_more true a k h = omega arith
one_more false a k h = omega arith

module _ (s : Session) (q c : List ℕ) (w : well_formed s q c ≡ true) where
  -- the song's position and loop fit it
  pub song_fits : transport_fits (extent_now s) s.stage.playhead.transport ≡ true
  song_fits = let p = parts s q c w in and_true (le-leb _ _ p.position) p.looped

  master_fits : MasterFits s.stage.sound.master
  master_fits = let p = parts s q c w in record { remaining = p.master; target = p.master_target }

  module _ (pool : List Float) where
    abbrev framed : Stage
    framed = (frame_of s.settings (view_of pool s.bank) s.stage).stage

    framed_fits : transport_fits (extent_of (clip_of s.bank framed.playhead.song).kind) framed.playhead.transport ≡ true
    unfolding view_of
    framed_fits =
        rw (frame_song s.settings (view_of pool s.bank) s.stage) (frame_fits s.settings (view_of pool s.bank) s.stage song_fits)

    -- a frame keeps a session well formed, over any pool
    pub frame_keeps : s.stage.clock.0 + 1 ≤ 2 ^ 62 → well_formed (with_stage s framed s.queued) q c ≡ true
    frame_keeps h =
        let p = parts s q c w in
        let x = s.settings in
        let view = view_of pool s.bank in
        let t : Session = with_stage s framed s.queued in
        let count = frame_count x view s.stage in
        let master = frame_master x view s.stage master_fits in
        whole t q c
        (record {
          settings = p.settings;
          clock = rw (frame_clock x view s.stage) h;
          queued = p.queued;
          captured = p.captured;
          voices = omega arith;
          queue_size = p.queue_size;
          capture_size = p.capture_size;
          bank = p.bank;
          queue = p.queue;
          capture = p.capture;
          song = rw (frame_song x view s.stage) p.song;
          tail = tail_is t framed.sound.fade.tail (frame_tail x view s.stage (λ h w. held s (Claim.Song h) ≡ true) (λ h w n e. e) (tail_has s s.stage.sound.fade.tail p.tail));
          voices_held = frame_voices x view s.stage (λ v. voice_held s v ≡ true) (λ v a e m. held_next s pool v a e) p.voices_held;
          queue_held = p.queue_held;
          capture_held = p.capture_held;
          position = placed (extent_now t) framed.playhead.transport framed_fits;
          looped = loops (extent_now t) framed.playhead.transport framed_fits;
          stinging = omega (arith, p.stinging);
          heads = frame_voices x view s.stage (λ v. head_ok s v ≡ true) (λ v a e m. head_next s pool v a e m) p.heads;
          master = master.remaining;
          master_target = master.target;
          weight = weight_is framed.sound.fade.tail (frame_weighs x view s.stage (weight_has s.stage.sound.fade.tail p.weight));
          gains = frame_voices x view s.stage (λ v. gain_ok s v ≡ true) (λ v a e m. gain_next s pool v a e) p.gains;
          executed = rw (frame_counters x view s.stage) p.executed;
          special = rw (frame_counters x view s.stage) p.special;
        })

    -- and the table its 16 places
    pub frame_table : length s.stage.sound.voices.table ≡ 16 → length framed.sound.voices.table ≡ 16
    frame_table h = let p = parts s q c w in frame_places s.settings (view_of pool s.bank) s.stage (omega arith) ∙ h

  module _ (n : ℕ) (e : s.queued ≡ suc n) (places : length s.stage.sound.voices.table ≡ 16) where
    abbrev command : Command
    command = read_of (row_at q n)

    abbrev executed : Stage
    executed = execute_of s.settings (extent_now s) command s.stage

    fires : (P : Voice → Type 0) → ((h : Handle) (g : Float) → command ≡ Command.Stinger h g → P (fired_of s.settings.rate h g))
        → ((i : ℕ) → i < s.stage.sound.voices.count → P (voice_at s.stage.sound.voices i))
        → ((i : ℕ) → i < executed.sound.voices.count → P (voice_at executed.sound.voices i))
    fires P = exec_voices s.settings (extent_now s) command s.stage P (λ t. let l = first_voice s q c w n e t in omega arith)

    -- the first command, executed and taken from the queue, keeps a session well formed
    pub exec_keeps : well_formed (with_stage s executed n) q c ≡ true
    exec_keeps =
        let p = parts s q c w in
        let x = s.settings in
        let extent : ℕ = extent_now s in
        let t : Session = with_stage s executed n in
        let claim = first_held s q c w n e in
        let gain = first_gain s q c w n e in
        let master = exec_master x extent command s.stage master_fits in
        let fit : transport_fits (extent_now t) executed.playhead.transport ≡ true =
        exec_fits (λ h. extent_of (clip_of s.bank h).kind) x command s.stage song_fits in
        let counted : stingers q n + executed.sound.voices.count ≤ 16 =
        rw (exec_count x extent command s.stage)
        (one_more (takes_voice (claim_of command)) (stingers q n) s.stage.sound.voices.count (first_counted s q c w n e)) in
        whole t q c
        (record {
          settings = p.settings;
          clock = rw (exec_clock x extent command s.stage) p.clock;
          queued = omega arith;
          captured = p.captured;
          voices = omega arith;
          queue_size = p.queue_size;
          capture_size = p.capture_size;
          bank = p.bank;
          queue = queue_takes s.desk.number q n (subst (λ m. queue_ok s.desk.number q m ≡ true) e p.queue);
          capture = p.capture;
          song = exec_song x extent command s.stage (λ k. held s k ≡ true) p.song claim;
          tail = tail_is t executed.sound.fade.tail (exec_tail x extent command s.stage (λ h w. held s (Claim.Song h) ≡ true) p.song (tail_has s s.stage.sound.fade.tail p.tail));
          voices_held = fires (λ v. voice_held s v ≡ true) (held_fired s s.settings.pool p.bank command claim gain) p.voices_held;
          queue_held = λ j l. p.queue_held j (omega arith);
          capture_held = p.capture_held;
          position = placed (extent_now t) executed.playhead.transport fit;
          looped = loops (extent_now t) executed.playhead.transport fit;
          stinging = counted;
          heads = fires (λ v. head_ok s v ≡ true) (head_fired s s.settings.pool p.bank command claim gain) p.heads;
          master = master.remaining;
          master_target = master.target;
          weight = weight_is executed.sound.fade.tail (exec_weighs x extent command s.stage (weight_has s.stage.sound.fade.tail p.weight));
          gains = fires (λ v. gain_ok s v ≡ true) (gain_fired s s.settings.pool p.bank command claim gain) p.gains;
          executed = omega (arith, exec_executed x extent command s.stage, p.executed);
          special = exec_counted x extent command s.stage p.special;
        })

    -- and the table its 16 places
    pub exec_table : length executed.sound.voices.table ≡ 16
    exec_table = exec_places s.settings (extent_now s) command s.stage ∙ places

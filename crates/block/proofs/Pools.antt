-- Two pools that agree on the clips that a block reads give equal blocks. Assumes nothing.
use mathlib.Core.Path.{◌≡◌, refl, sym, ap, subst, ◌∙◌}
use mathlib.Core.Logic.{⊎_elim}
use mathlib.Core.Bool.{Bool, true, false, cond}
use mathlib.Core.List.{List}
use Prim.Native.Nat.{ℕ, ◌+◌, ◌≤◌, ◌<◌, min}
use native.Mathlib.Omega.{arith}
use lib.Dec.{eqb}
use lib.ListN.{length, take, length-set}
use lib.Seq.{get_or-set_other, take_all, take-length}
use lib.Ieee.{Float}
use Rattle.std.specs.Prelude.{Option, Some, None}
use Rattle.laws.specs.Queue.{Each}
use Rattle.laws.specs.Alike.{Maps}
use Rattle.laws.specs.Block.{At, stand, block}
use Rattle.laws.proofs.Lists.{each_map}
use Rattle.laws.proofs.Mapped.{block_agrees}
use Rattle.counts.specs.declared.Handle.{Handle}
use Rattle.counts.specs.declared.Claim.{Claim}
use Rattle.counts.proofs.Truth.{lt_or_le}
use Rattle.ramp.specs.Ramp.{tick_of}
use Rattle.timeline.specs.declared.Command.{Command}
use Rattle.timeline.specs.declared.QueueRecord.{QueueRecord}
use Rattle.timeline.specs.Command.{claim_of}
use Rattle.timeline.specs.Queue.{queue, frame}
use Rattle.transport.specs.Transport.{cursor_on}
use Rattle.bank.specs.Sample.{frames_of}
use Rattle.bank.specs.Recording.{View, view_of}
use Rattle.oneshot.specs.declared.Voice.{Voice}
use Rattle.oneshot.specs.declared.Voices.{Voices}
use Rattle.oneshot.specs.declared.Pair.{Pair}
use Rattle.oneshot.specs.declared.Mixed.{Mixed}
use Rattle.oneshot.specs.Voice.{fired_of}
use Rattle.oneshot.specs.Mix.{blank_voice, voice_at, added_to, mix_in}
use Rattle.oneshot.specs.Sounding as voices
use Rattle.oneshot.proofs.Next.{frame_handle, each_kept}
use Rattle.oneshot.proofs.Fires.{each_added}
use Rattle.oneshot.proofs.Agree.{views_agree}
use Rattle.stage.specs.declared.Settings.{Settings}
use Rattle.stage.specs.declared.Tail.{Tail}
use Rattle.stage.specs.declared.Stage.{Stage}
use Rattle.stage.specs.Playhead.{moved_of, playhead_by}
use Rattle.stage.specs.Sound.{with_tail, tail_on, rendered_of, sound_by}
use Rattle.stage.specs.Stage.{frame_of, execute_of}
use Rattle.stage.specs.Machine.{machine_of}
use Rattle.stage.proofs.Clock.{clocked}
use Rattle.session.specs.declared.Session.{Session}
use Rattle.block.specs.Block.{weigh_block, ran_of, block_of}

-- ---- the voices that stand in the table: as many as are counted, at most as many as it has places

abbrev standing : Voices → Voices
standing t = record { table = t.table; count = min t.count (length t.table) }

take_min : {A : Type 0} (l : List A) (n : ℕ) → take n l ≡ take (min n (length l)) l
take_min l n =
    ⊎_elim (λ (h : n < length l). let f : min n (length l) ≡ n = omega arith in rw f)
    (λ (h : length l ≤ n).
    let f : min n (length l) ≡ length l = omega arith in
    rw (f, take_all n l h) (sym (take-length l)))
    (lt_or_le n (length l))

mix_standing : (view : View) (t : Voices) → mix_in view t ≡ mix_in view (standing t)
unfolding mix_in
mix_standing view t = rw (take_min t.table t.count)

module _ (P : Voice → Type 0) where
  standing_added : (t : Voices) (v : Voice) → voices.Each P (standing t) → P v → voices.Each P (standing (added_to t v))
  unfolding added_to
  standing_added t v e p =
      ⊎_elim
      (λ (l : t.count < length t.table) i h.
      each_added P t v l (λ j g. e j (omega arith)) p i (omega (arith, length-set t.table t.count v)))
      (λ (l : length t.table ≤ t.count) i h.
      let k : i < length t.table = omega (arith, length-set t.table t.count v) in
      subst P (sym (get_or-set_other t.table t.count i v blank_voice (λ w. omega arith))) (e i (omega arith)))
      (lt_or_le t.count (length t.table))

-- ---- two views of the clips

module _ (view other : View) where
  -- they agree on a handle's clip,
  abbrev pub Same : Handle → Type 0
  Same h = view h ≡ other h

  -- on a voice's,
  abbrev pub SameVoice : Voice → Type 0
  SameVoice v = Same v.handle

  -- on the tail's, if there is one,
  abbrev pub SameTail : Option Tail → Type 0
  SameTail None = Unit {0}
  SameTail (Some t) = Same t.song

  -- and on what a command names
  abbrev pub SameClaim : Claim → Type 0
  SameClaim Claim.Nothing = Unit {0}
  SameClaim (Claim.Song h) = Same h
  SameClaim (Claim.Stinger h) = Same h

  -- they agree on every clip that a stage holds: the song, the tail and the voices that sound
  pub record SameHeld (s : Stage) : Type 0 where
    pub song : Same s.playhead.song
    pub tail : SameTail s.sound.fade.tail
    pub voices : voices.Each SameVoice s.sound.voices

  -- the same of the voices that stand in the table
  record Agree (s : Stage) : Type 0 where
    song : Same s.playhead.song
    tail : SameTail s.sound.fade.tail
    voices : voices.Each SameVoice (standing s.sound.voices)

  share_agrees : (x : Settings) (g : Float) (t : Option Tail) (p : Pair) → SameTail t → with_tail x other g t p ≡ with_tail x view g t p
  unfolding with_tail
  share_agrees x g None p e = refl
  share_agrees x g (Some t) p e = rw e

  tail_agrees : (t : Option Tail) → SameTail t → tail_on other t ≡ tail_on view t
  unfolding tail_on
  tail_agrees None e = refl
  tail_agrees (Some t) e = rw e

  tail_on_law : (t : Option Tail) → SameTail t → SameTail (tail_on view t)
  unfolding tail_on
  tail_on_law None e = tt
  tail_on_law (Some t) e = go (eqb (tick_of t.weight).ramp.remaining 0)
    where
      go : (b : Bool) → SameTail (cond b None (Some (record { song = t.song; cursor = record { 0 = cursor_on (view t.song).frames t.cursor.0 }; weight = (tick_of t.weight).ramp })))
      go true = tt
      go false = e

  mix_agrees : (t : Voices) → voices.Each SameVoice (standing t) → mix_in other t ≡ mix_in view t
  mix_agrees t e = mix_standing other t ∙ sym (mix_standing view t ∙ views_agree view other (standing t) e)

  frame_agrees : (x : Settings) (s : Stage) → Agree s → frame_of x other s ≡ frame_of x view s
  unfolding frame_of rendered_of
  frame_agrees x s a =
      rw (← a.song, mix_agrees s.sound.voices a.voices, tail_agrees s.sound.fade.tail a.tail, share_agrees x _ s.sound.fade.tail _ a.tail)

  frame_keeps : (x : Settings) (s : Stage) → Agree s → Agree (frame_of x view s).stage
  unfolding frame_of rendered_of moved_of
  frame_keeps x s a =
      record {
        song = a.song;
        tail = tail_on_law s.sound.fade.tail a.tail;
        voices = λ i h.
            subst (λ (t : Voices). SameVoice (voice_at t i)) (ap (λ (m : Mixed). m.voices) (sym (mix_standing view s.sound.voices)))
            (each_kept view SameVoice (λ v p e k. subst Same (sym (frame_handle (view v.handle) v p)) e) (standing s.sound.voices) a.voices i
            (rw (← mix_standing view s.sound.voices) (omega arith)));
      }

  exec_keeps : (x : Settings) (n : ℕ) (c : Command) (s : Stage) → Agree s → SameClaim (claim_of c) → Agree (execute_of x n c s)
  unfolding execute_of playhead_by sound_by fired_of
  exec_keeps x n Command.Play s a e = record { song = a.song; tail = a.tail; voices = a.voices }
  exec_keeps x n Command.Pause s a e = record { song = a.song; tail = a.tail; voices = a.voices }
  exec_keeps x n Command.Stop s a e = record { song = a.song; tail = a.tail; voices = a.voices }
  exec_keeps x n (Command.Seek f) s a e = record { song = a.song; tail = a.tail; voices = a.voices }
  exec_keeps x n (Command.Transition f) s a e = record { song = a.song; tail = a.tail; voices = a.voices }
  exec_keeps x n (Command.Loop b f) s a e = record { song = a.song; tail = a.tail; voices = a.voices }
  exec_keeps x n Command.ClearLoop s a e = record { song = a.song; tail = a.tail; voices = a.voices }
  exec_keeps x n (Command.Gain g) s a e = record { song = a.song; tail = a.tail; voices = a.voices }
  exec_keeps x n (Command.Swap h) s a e = record { song = e; tail = a.song; voices = a.voices }
  exec_keeps x n (Command.Stinger h g) s a e =
      record { song = a.song; tail = a.tail; voices = standing_added SameVoice s.sound.voices (fired_of x.rate h g) a.voices e }

  agrees : (x : Settings)
      → Maps (λ s. s) (λ a. a) (λ e. e) Agree (λ d d'. (d' ≡ d) × SameClaim (claim_of d.command)) (machine_of x view) (machine_of x other)
  agrees x =
      record {
        clocks = λ s p. refl;
        execs = λ d d' s p q. rw (q.0, p.song);
        tells = λ d d' s p q. rw (q.0, p.song);
        nexts = λ s p. rw (frame_agrees x s p);
        makes = λ s p. rw (frame_agrees x s p);
        keeps = λ d d' s p q. exec_keeps x (view s.playhead.song).extent d.command s p q.1;
        goes = λ s p. frame_keeps x s p;
      }

  -- a block reads no other clips than those that the stage holds and those that commands before its end name: one at its end is executed and not read
  pub views_agree_on : (x : Settings) (n : ℕ) (at : At Stage QueueRecord) → SameHeld at.core
      → Each (λ r. frame r < at.core.clock.0 + n → SameClaim (claim_of r.command)) at.queue
      → block (machine_of x other) n at ≡ block (machine_of x view) n at
  views_agree_on x n at h q =
      block_agrees (machine_of x view) Agree (λ d d'. (d' ≡ d) × SameClaim (claim_of d.command)) (machine_of x other) (agrees x) (clocked x view)
      (λ d. refl) (λ d s p. (rw p.song, rw p.song)) n at (record { song = h.song; tail = h.tail; voices = λ i l. h.voices i (omega arith) })
      (each_map _ _ (λ r f l. (refl, f l)) at.queue q)

-- ---- two pools

-- they agree on the clips that a block of n frames reads: the song, the tail, the sounding voices, and what commands before its end name
pub record SameRead (p o : List Float) (s : Session) (q : List ℕ) (n : ℕ) : Type 0 where
  pub held : SameHeld (view_of p s.bank) (view_of o s.bank) s.stage
  pub named : Each (λ r. frame r < s.stage.clock.0 + n → SameClaim (view_of p s.bank) (view_of o s.bank) (claim_of r.command)) (queue q s.queued)

module _ (s : Session) (q c : List ℕ) (p o : List Float) where
  -- then the blocks are equal,
  pub ran_agrees : (n : ℕ) → SameRead p o s q n → ran_of s q o n ≡ ran_of s q p n
  unfolding ran_of
  ran_agrees n h = views_agree_on (view_of p s.bank) (view_of o s.bank) s.settings n (stand s.stage (queue q s.queued)) h.held h.named

  -- and so at the call, if they have one length
  pub block_agrees_on : (out : List Float) → length o ≡ length p → SameRead p o s q (frames_of out) → block_of s q c o out ≡ block_of s q c p out
  unfolding block_of weigh_block
  block_agrees_on out e h = rw (e, ran_agrees (frames_of out) h)

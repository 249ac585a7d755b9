-- In house mode playhead and sound go together in every session reached from opening: at opening both are at 0, and frames, commands, snapshots, loads and
-- retirements keep them so. A seek past the length does too, since a clip is no longer than its song's length. Assumes nothing.
use mathlib.Core.Path.{◌≡◌, refl, sym, ap, ◌∙◌}
use mathlib.Core.Bool.{Bool, true, false, cond}
use mathlib.Core.Logic.{inl, inr}
use mathlib.Core.List.{List}
use Prim.Native.Nat.{ℕ, ◌*◌, ◌≤◌}
use lib.Ieee.{Float}
use borrow.Author.Tests.{le-leb}
use Rattle.std.specs.Prelude.{Some}
use Rattle.std.specs.Bool.{then_some}
use Rattle.std.specs.Option.{option_map_or}
use Rattle.counts.specs.declared.Handle.{Handle}
use Rattle.counts.specs.Counts.{place_of}
use Rattle.counts.proofs.Truth.{and_true, cond_both}
use Rattle.timeline.specs.declared.Command.{Command}
use Rattle.transport.specs.declared.Transport.{Transport}
use Rattle.transport.specs.Transport.{is_playing, wrap_of, step_of, loop_fits, transport_fits, looped_by}
use Rattle.transport.specs.Together.{Together}
use Rattle.transport.proofs.Moves.{wrap_keeps}
use Rattle.transport.proofs.Together.{wrap_together, seek_together, step_together}
use Rattle.bank.specs.declared.Clip.{Clip}
use Rattle.bank.specs.declared.Bank.{Bank}
use Rattle.bank.specs.Slots.{clip_of, live}
use Rattle.bank.specs.Recording.{Recording, recording_of, view_of}
use Rattle.bank.proofs.Claims.{song_has, song_length}
use Rattle.oneshot.specs.Pair.{silence, pair_at}
use Rattle.stage.specs.declared.Settings.{Settings}
use Rattle.stage.specs.declared.Playhead.{Playhead}
use Rattle.stage.specs.declared.Stage.{Stage}
use Rattle.stage.specs.Mode.{is_house}
use Rattle.stage.specs.Playhead.{moved_of, playhead_by}
use Rattle.stage.specs.Sound.{played_of}
use Rattle.stage.specs.Stage.{frame_of, execute_of}
use Rattle.stage.proofs.Past.{past_clip_law}
use Rattle.session.specs.declared.Session.{Session}
use Rattle.session.specs.Session.{extent_now}
use Rattle.session.specs.WellFormed.{well_formed}
use Rattle.session.proofs.Parts.{parts}
use Rattle.promises.specs.Together.{next_stage, song_gives, at_playhead, PlayheadSounds}
use Rattle.promises.proofs.Banked.{clip_stays}
use Rattle.promises.proofs.Stages.{Stays, reached_has, next_has}

-- ---- in a well formed session

module _ (s : Session) (q c : List ℕ) (w : well_formed s q c ≡ true) where
  abbrev song : Handle
  song = s.stage.playhead.song

  -- the song is live,
  song_live : live s.bank song ≡ true
  song_live = (song_has s.bank s.settings.rate song (parts s q c w).song).alive

  -- its clip is no longer than its length,
  short : (clip_of s.bank song).frames ≤ extent_now s
  short = let p = parts s q c w in (song_length s.bank s.settings.pool s.settings.rate song p.bank (song_has s.bank s.settings.rate song p.song)).0

  -- and the playhead fits it
  fits : transport_fits (extent_now s) s.stage.playhead.transport ≡ true
  fits = let p = parts s q c w in and_true (le-leb s.stage.playhead.transport.position.0 (extent_now s) p.position) p.looped

-- ---- a command

exec_together : (frames : Handle → ℕ) (extent : ℕ) (c : Command) (p : Playhead) → frames p.song ≤ extent → Together (frames p.song) p.transport
    → Together (frames (playhead_by extent c p).song) (playhead_by extent c p).transport
unfolding playhead_by
exec_together frames extent Command.Play p l h = h
exec_together frames extent Command.Pause p l h = h
exec_together frames extent Command.Stop p l h = inl refl
exec_together frames extent (Command.Seek f) p l h = seek_together (frames p.song) extent l f p.transport
exec_together frames extent (Command.Transition f) p l h = seek_together (frames p.song) extent l f p.transport
exec_together frames extent (Command.Loop a e) p l h =
    cond_both (Together (frames p.song)) (loop_fits extent (Some (record { start = a; end = e }))) (looped_by (Some (record { start = a; end = e })) p.transport) p.transport h h
exec_together frames extent Command.ClearLoop p l h = h
exec_together frames extent (Command.Gain g) p l h = h
exec_together frames extent (Command.Swap k) p l h = inl refl
exec_together frames extent (Command.Stinger k g) p l h = h

-- ---- in every reached session

-- in house mode, over the clips of a bank
abbrev Met : Settings → Bank → Stage → Type 0
Met x b s = is_house x ≡ true → Together (clip_of b s.playhead.song).frames s.playhead.transport

met_stays : Stays Met
unfolding frame_of moved_of execute_of view_of
met_stays =
    record {
      opens = λ x b h house. inl refl;
      frames = λ s q c pool w h house. rw house (step_together _ (extent_now s) (short s q c w) s.stage.playhead.transport (fits s q c w) (h house));
      execs = λ s q c d w h house. exec_together (λ k. (clip_of s.bank k).frames) (extent_now s) d s.stage.playhead (short s q c w) (h house);
      applies = λ s y h house. inl refl;
      banks = λ x y g d h house.
          let s : Session = x.session in
          rw (clip_stays x y g.pooled s.stage.playhead.song (song_live s x.queue x.capture g.formed) d) (h house);
    }

-- ---- what sounds

-- where cursor and position are together the clip gives the same at both,
same_pair : (pool : List Float) (c : Clip) (t : Transport) → Together c.frames t → pair_at (recording_of pool c) (place_of t.cursor) ≡ pair_at (recording_of pool c) (place_of t.position)
same_pair pool c t (inl e) = ap (λ (n : ℕ). pair_at (recording_of pool c) (record { 0 = n * 2 })) e
same_pair pool c t (inr h) = past_clip_law pool c t.cursor h.0 ∙ sym (past_clip_law pool c t.position h.1)

-- so that a frame's song is what it has at the playhead
gives : (x : Settings) (pool : List Float) (b : Bank) (p : Playhead) → is_house x ≡ true → Together (clip_of b p.song).frames p.transport
    → song_gives x (view_of pool b) p ≡ at_playhead (view_of pool b) p
unfolding played_of moved_of step_of view_of
gives x pool b p house h =
    let c : Clip = clip_of b p.song in
    rw (house, (wrap_keeps true p.transport).0)
    (go (is_playing p.transport.state) (same_pair pool c (wrap_of true p.transport) (wrap_together c.frames p.transport h)))
  where
    go : (plays : Bool) → let r : Recording = recording_of pool (clip_of b p.song) in let w : Transport = wrap_of true p.transport in
        pair_at r (place_of w.cursor) ≡ pair_at r (place_of w.position)
        → option_map_or (λ y. pair_at r (place_of y)) (then_some plays w.cursor) silence ≡ cond plays (pair_at r (place_of w.position)) silence
    go true e = e
    go false e = refl

pub playhead_sounds : PlayheadSounds
unfolding view_of
playhead_sounds =
    record {
      together = reached_has Met met_stays;
      sounds = λ x r house. gives x.session.settings x.pool x.session.bank (next_stage x).playhead house (next_has Met met_stays x r house);
    }

-- The dry run equals the session. Assumes nothing.
use mathlib.Core.Path.{◌≡◌, sym, ap, ◌∙◌, subst}
use mathlib.Core.Bool.{true, false}
use mathlib.Core.List.{List, [], ◌∷◌}
use Prim.Native.Nat.{ℕ, ◌+◌, ◌/◌, ◌^◌, ◌≤◌}
use native.Mathlib.Omega.{arith}
use lib.ListN.{length}
use lib.Ieee.{Float}
use Rattle.laws.specs.Block.{stand, block}
use Rattle.laws.specs.Queue.{Each}
use Rattle.laws.proofs.Cut.{block_none}
use Rattle.counts.specs.declared.Claim.{Claim}
use Rattle.timeline.specs.declared.QueueRecord.{QueueRecord}
use Rattle.timeline.specs.Command.{claim_of}
use Rattle.timeline.specs.Record.{read_of}
use Rattle.timeline.specs.Store.{row_at}
use Rattle.timeline.specs.Queue.{queue}
use Rattle.timeline.proofs.Queue.{each_queued}
use Rattle.bank.specs.declared.Bank.{Bank}
use Rattle.bank.specs.Slots.{claim_ok, extent_of}
use Rattle.bank.specs.Sample.{frames_of, is_odd}
use Rattle.bank.specs.Recording.{view_of}
use Rattle.bank.proofs.Claims.{song_has}
use Rattle.session.specs.declared.Session.{Session}
use Rattle.session.proofs.Parts.{Parts, parts, whole}
use Rattle.block.specs.Block.{ran_of, block_done, block_of, blocks_of, joined}
use Rattle.block.proofs.Weigh.{Accepted, block_done_law}
use Rattle.block.proofs.Cut.{frames_joined, joined_even, front_accepted, rest_accepted, rest_places, block_cuts}
use Rattle.submission.specs.Replay.{Replaying, replayed}
use Rattle.submission.proofs.Kept.{replayed_well}
use Rattle.submission.proofs.Leaves.{heart, replayed_leaves}
use Rattle.submission.proofs.Reported.{replay_done_law}
use Rattle.leaps.specs.declared.Dry.{Dry}
use Rattle.leaps.specs.Laps.{lapped_machine, lapped_ran}
use Rattle.leaps.specs.Dry.{dry_of, dry_machine, lengths_in, dry_ran, dried}
use Rattle.leaps.specs.Same.{SameClips, Alike}
use Rattle.leaps.specs.Equal.{executed_by, Full, Comes, DryRun}
use Rattle.leaps.proofs.Laps.{lapped_at, lapped_cut}
use Rattle.leaps.proofs.Part.{Lasts, block_dried}
use Rattle.leaps.proofs.Replay.{Both, replayed_both}
use Rattle.std.specs.Prelude.{Ok}

module _ (b k : Bank) (clips : SameClips b k) (pool : List Float) where
  -- a song that is held in one has its length in both
  same_lasts : (rate : ℕ) (c : Claim) → claim_ok k rate c ≡ true → Lasts (lengths_in b) (view_of pool k) c
  unfolding view_of
  same_lasts rate Claim.Nothing e = tt
  same_lasts rate (Claim.Song h) e = ap extent_of (clips.kinds h (clips.lives h ∙ (song_has k rate h e).alive))
  same_lasts rate (Claim.Stinger h) e = tt

-- ONE BLOCK of two sessions that are alike
pub alike_ran : (k : ℕ) (s : Session) (q : List ℕ) (t : Session) (p d : List ℕ) → Alike k s q t p → Parts t p d → (pool : List Float) (n : ℕ)
    → dry_ran s q n ≡ dried (lapped_ran t p pool n)
unfolding dry_ran lapped_ran
alike_ran k s q t p d l a pool n =
    ap (λ (x : Dry). block (dry_machine (lengths_in s.bank)) n (stand x (queue q s.queued))) l.stands
    ∙ ap (λ (x : List QueueRecord). block (dry_machine (lengths_in s.bank)) n (stand (dry_of t.stage) x)) l.waiting
    ∙ block_dried t.settings (view_of pool t.bank) (lengths_in s.bank) n (stand t.stage (queue p t.queued))
    (lasts (Claim.Song t.stage.playhead.song) a.song)
    (each_queued _ p t.queued (λ j h. lasts (claim_of (read_of (row_at p j))) (a.queue_held j h)))
  where
    lasts : (c : Claim) → claim_ok t.bank t.settings.rate c ≡ true → Lasts (lengths_in s.bank) (view_of pool t.bank) c
    lasts = same_lasts s.bank t.bank l.clips pool t.settings.rate

-- ---- at the calls

-- what blocks execute is what one block of all their frames executes
executed_joined : (t : Session) (p d : List ℕ) (pool : List Float) (outs : List (List Float)) → length t.stage.sound.voices.table ≡ 16
    → Accepted t p d pool (joined outs) → Each (λ out. is_odd out ≡ false) outs → executed_by t p d pool outs ≡ (lapped_ran t p pool (frames_of (joined outs))).told
unfolding lapped_ran
executed_joined t p d pool [] places a e = rw (block_none (lapped_machine t.settings (view_of pool t.bank)) (stand t.stage (queue p t.queued)))
executed_joined t p d pool (x ∷ outs) places a e =
    let w = block_done_law t p d pool x (front_accepted t p d pool x (joined outs) places a e.0) in
    let ih = executed_joined (block_of t p d pool x).0.session p d pool outs (rest_places t p d pool x (joined outs) places a e.0) (rest_accepted t p d pool x (joined outs) places a e.0) e.1 in
    rw (frames_joined x (joined outs) e.0, lapped_cut t p pool (frames_of x) (frames_of (joined outs)), ih, w)

-- ANY BLOCKS of two sessions that are alike
pub alike_comes : (k : ℕ) (s : Session) (q : List ℕ) (t : Session) (p d : List ℕ) (pool : List Float) (outs : List (List Float)) → Alike k s q t p → Full t p d pool
    → Each (λ out. is_odd out ≡ false) outs → t.stage.clock.0 + frames_of (joined outs) ≤ 2 ^ 62 → Comes (dry_ran s q (frames_of (joined outs))) t p d pool outs
alike_comes k s q t p d pool outs l f e clock =
    let n : ℕ = frames_of (joined outs) in
    let a : Accepted t p d pool (joined outs) = record { formed = f.formed; lent = f.pooled; even = joined_even outs e; clock = clock } in
    let same : dry_ran s q n ≡ dried (lapped_ran t p pool n) = alike_ran k s q t p d l (parts t p d f.formed) pool n in
    let ends : (blocks_of t p d pool outs).0 ≡ (block_done t (ran_of t p pool n)).0.session =
    ap (λ z. z.0) (sym (block_cuts t p d pool outs f.voices a e)) ∙ ap (λ z. z.0.session) (block_done_law t p d pool (joined outs) a) in
    record { stands = rw (same, ends, lapped_at t p pool n); queued = rw (same, ends, lapped_at t p pool n); executed = rw same (sym (executed_joined t p d pool outs f.voices a e)) }

-- ---- after a replay

-- a full session is full
full_replayed : (t : Session) (p d : List ℕ) (pool : List Float) (list : List ℕ) (n : ℕ) → Full t p d pool → Full (replayed t p list n).session (replayed t p list n).queue d pool
full_replayed t p d pool list n f =
    let z : Session = (replayed t p list n).session in
    let l : heart z ≡ heart t = replayed_leaves t p list n in
    let settings : z.settings ≡ t.settings = ap (λ y. y.0) l in
    let stage : z.stage ≡ t.stage = ap (λ y. y.2) l in
    record {
      formed = whole _ _ _ (replayed_well d t p list (parts t p d f.formed) n);
      pooled = rw settings f.pooled;
      voices = rw stage f.voices;
    }

-- THE DRY RUN
pub dry_run_law : DryRun
dry_run_law s q c t p d pool list outs w f l e clock =
    let n : ℕ = length list / 5 in
    let z : Replaying = replayed s q list n in
    let y : Replaying = replayed t p list n in
    let o : Both 0 z y = replayed_both s q c t p d (parts s q c w) (parts t p d f.formed) list n 0 (subst (λ (j : ℕ). Alike j s q t p) (omega arith) l) in
    let stage : y.session.stage ≡ t.stage = ap (λ x. x.2) (replayed_leaves t p list n) in
    record {
      report = rw (replay_done_law s q c list w, replay_done_law t p d list f.formed) (ap Ok o.report);
      comes =
          rw (replay_done_law s q c list w, replay_done_law t p d list f.formed)
          (alike_comes 0 z.session z.queue y.session y.queue d pool outs o.alike (full_replayed t p d pool list n f) e (rw stage clock));
    }

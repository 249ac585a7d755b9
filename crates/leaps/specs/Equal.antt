-- What is claimed of a dry run, at the calls. Definitions only.
use Rattle.std.specs.Prelude.{◌≡◌, true, false, List, [], ◌∷◌, ◌++◌, ℕ, ◌+◌, ◌/◌, ◌^◌, ◌≤◌, length, Float}
use Rattle.laws.specs.Block.{Ran}
use Rattle.laws.specs.Queue.{Each}
use Rattle.timeline.specs.declared.QueueRecord.{QueueRecord}
use Rattle.bank.specs.Sample.{frames_of, is_pool, is_odd}
use Rattle.session.specs.declared.Session.{Session}
use Rattle.session.specs.WellFormed.{well_formed}
use Rattle.block.specs.Block.{block_of, blocks_of, joined}
use Rattle.submission.specs.Replay.{replay_of}
use Rattle.leaps.specs.declared.Dry.{Dry}
use Rattle.leaps.specs.Laps.{Lapped, lapped_ran}
use Rattle.leaps.specs.Dry.{dry_of, dry_ran}
use Rattle.leaps.specs.Same.{Alike}

-- what the commands tell that blocks execute, with the laps before and after each, one block after the other
abbrev pub executed_by : Session → List ℕ → List ℕ → List Float → List (List Float) → List Lapped
executed_by s q c pool [] = []
executed_by s q c pool (out ∷ outs) = (lapped_ran s q pool (frames_of out)).told ++ executed_by (block_of s q c pool out).0.session q c pool outs

-- a full session with its stores: well formed, over a pool of its length, its table of 16 places
pub record Full (t : Session) (p d : List ℕ) (pool : List Float) : Type 0 where
  pub formed : well_formed t p d ≡ true
  pub pooled : is_pool pool t.settings.pool ≡ true
  pub voices : length t.stage.sound.voices.table ≡ 16

-- a dry run has come to where blocks of a session come: the same clock, song, state, position, loop and laps, the same commands executed, with the laps before and after each, and as many still queued
pub record Comes (r : Ran Dry QueueRecord (Unit {0}) Lapped) (t : Session) (p d : List ℕ) (pool : List Float) (outs : List (List Float)) : Type 0 where
  pub stands : r.at.core ≡ dry_of (blocks_of t p d pool outs).0.stage
  pub queued : length r.at.queue ≡ (blocks_of t p d pool outs).0.queued
  pub executed : r.told ≡ executed_by t p d pool outs

-- the dry session replays what the full one replays, with the same report, and then comes to where its blocks come
pub record Equals (s : Session) (q c : List ℕ) (t : Session) (p d : List ℕ) (pool : List Float) (list : List ℕ) (outs : List (List Float)) : Type 0 where
  pub report : (replay_of s q c list).0.answer ≡ (replay_of t p d list).0.answer
  pub comes : Comes (dry_ran (replay_of s q c list).0.session (replay_of s q c list).1 (frames_of (joined outs))) (replay_of t p d list).0.session (replay_of t p d list).1 d pool outs

-- THE CLAIM, of any dry session and any full one that are alike, with room for the list, over blocks that the full one accepts
abbrev pub DryRun : Type 0
DryRun =
    (s : Session) (q c : List ℕ) (t : Session) (p d : List ℕ) (pool : List Float) (list : List ℕ) (outs : List (List Float))
    → well_formed s q c ≡ true → Full t p d pool → Alike (length list / 5) s q t p
    → Each (λ out. is_odd out ≡ false) outs → t.stage.clock.0 + frames_of (joined outs) ≤ 2 ^ 62
    → Equals s q c t p d pool list outs

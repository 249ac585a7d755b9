-- The steps of a block's loop. Definitions only.
use Rattle.std.specs.Prelude.{ℕ, zero, suc, ◌+◌, ◌*◌, ◌-◌, ◌^◌, ◌≤◌, ◌<◌, min, ◌≡◌, Bool, true, false, List, leb, length, Float}
use Rattle.timeline.specs.Command.{gain_ok}
use Rattle.timeline.specs.Record.{readable, read_of}
use Rattle.timeline.specs.Store.{row_at}
use Rattle.bank.specs.Sample.{frames_of, is_pool}
use Rattle.bank.specs.declared.Clip.{Clip}
use Rattle.bank.specs.declared.Bank.{Bank}
use Rattle.bank.specs.Slots.{extent_of}
use Rattle.stage.specs.declared.Settings.{Settings}
use Rattle.stage.specs.declared.Stage.{Stage}
use Rattle.stage.specs.Stage.{execute_of}
use Rattle.stage.specs.Ready.{ExecReady}
use Rattle.session.specs.declared.Desk.{Desk}
use Rattle.session.specs.WellFormed.{well_formed}
use Rattle.block.specs.Block.{of_parts}

-- the first of n queued commands is due at clock frame t
abbrev pub first_due : List ℕ → ℕ → ℕ → Bool
first_due q zero t = false
first_due q (suc n) t = leb (row_at q n).at t

-- the frames before the first of n queued commands is due, and at most those that are left
abbrev pub lead_of : List ℕ → ℕ → ℕ → ℕ → ℕ
lead_of q zero t left = left
lead_of q (suc n) t left = min ((row_at q n).at - t) left

-- the first of n queued commands is executed, where a clip is the song that plays
abbrev pub first_done : Settings → Clip → List ℕ → ℕ → Stage → Stage
first_done x clip q n t = execute_of x (extent_of clip.kind) (read_of (row_at q (n - 1))) t

-- what every step asks of a session's parts: with some desk and some capture they are well formed, and their numbers are of their types
pub record Going (x : Settings) (b : Bank) (t : Stage) (n : ℕ) (q : List ℕ) : Type 0 where
  pub desk : Desk
  pub capture : List ℕ
  pub formed : well_formed (of_parts x b t n desk) q capture ≡ true
  pub places : length t.sound.voices.table ≡ 16
  pub number : desk.number < 2 ^ 64

-- the first of n queued commands can be read and executed
pub record Executable (q : List ℕ) (n : ℕ) (t : Stage) : Type 0 where
  pub some : 0 < n
  pub lies : n * 5 ≤ length q
  pub reads : readable (row_at q (n - 1)) ≡ true
  pub gain : gain_ok (read_of (row_at q (n - 1))) ≡ true
  pub ready : ExecReady (read_of (row_at q (n - 1))) t

-- a block can be made of an output, over a pool of its length, before the clock's end
pub record Fillable (x : Settings) (b : Bank) (t : Stage) (n : ℕ) (q : List ℕ) (pool out : List Float) : Type 0 where
  pub going : Going x b t n q
  pub lent : is_pool pool x.pool ≡ true
  pub even : length out ≡ frames_of out * 2
  pub clock : t.clock.0 + frames_of out ≤ 2 ^ 62

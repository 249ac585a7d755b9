-- 'A session mode, chosen at opening and kept in the session record', and what house is for: a swap under a lowered master lets no room burst through.
-- Definitions only.
use Rattle.std.specs.Prelude.{◌≡◌, true, false, ℕ, ◌≤◌, Float}
use Rattle.std.specs.Float.{nan, inf, fin}
use Rattle.std.specs.Float.Ieee.{lt}
use Rattle.ramp.specs.Tail.{tail_frames, tail_start, ticks}
use Rattle.oneshot.specs.declared.Pair.{Pair}
use Rattle.oneshot.specs.Pair.{times}
use Rattle.stage.specs.declared.Settings.{Settings}
use Rattle.stage.specs.Mode.{mode_ok, is_house}
use Rattle.stage.specs.Sound.{tail_share}
use Rattle.promises.specs.Calls.{State, Call, after, Opening, opened, Reached}

-- without its sign
abbrev pub magnitude : Float → Float
magnitude nan = nan
magnitude (inf s) = inf false
magnitude (fin s m e) = fin false m e

-- a pair is on neither side louder than another
abbrev pub NoLouder : Pair → Pair → Type 0
NoLouder p q = (lt (magnitude q.left) (magnitude p.left) ≡ false) × (lt (magnitude q.right) (magnitude p.right) ≡ false)

pub record Modes : Type 0 where
  -- the settings are those of the opening,
  pub chosen : (o : Opening) → (opened o).0 ≡ 0 → (opened o).1.session.settings ≡ o.settings
  -- whatever is called,
  pub kept : (k : Call) (x : State) → (after k x).session.settings ≡ x.session.settings
  -- their mode is known,
  pub known : (x : State) → Reached x → mode_ok x.session.settings.mode ≡ true
  -- and in house mode a tail's share is no louder than the tail under the master, after any of its ticks
  pub under : (x : Settings) → is_house x ≡ true → (g : Float) (tail : Pair) (k : ℕ) → k ≤ tail_frames → NoLouder (tail_share x g tail (ticks k tail_start).value) (times tail g)

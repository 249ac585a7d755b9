-- What a voice, and the table of them, must be like to sound: all of it holds in a well formed session. Definitions only.
use Rattle.std.specs.Prelude.{ℕ, ◌+◌, ◌*◌, ◌%◌, ◌≤◌, ◌<◌, ◌≡◌}
use Rattle.bank.specs.declared.Clip.{Clip}
use Rattle.bank.specs.declared.Bank.{Bank}
use Rattle.bank.specs.Slots.{clip_of}
use Rattle.oneshot.specs.declared.Voice.{Voice}
use Rattle.oneshot.specs.declared.Voices.{Voices}
use Rattle.oneshot.specs.Mix.{voice_at}

-- a clip lies in a pool of n samples
abbrev pub LiesIn : ℕ → Clip → Type 0
LiesIn n c = (c.start + c.frames) * 2 ≤ n

-- a voice has a slot of the bank, whose clip lies in the pool; its head is even and inside the clip
pub record Sounds (n : ℕ) (b : Bank) (v : Voice) : Type 0 where
  pub slot : v.handle.slot < 32
  pub inside : LiesIn n (clip_of b v.handle)
  pub even : v.head.0 % 2 ≡ 0
  pub left : v.head.0 < (clip_of b v.handle).frames * 2

-- what holds of every voice that sounds
abbrev pub Each : (Voice → Type 0) → Voices → Type 0
Each P t = (i : ℕ) → i < t.count → P (voice_at t i)

-- at most 16 voices, and each of them can sound
pub record Ready (n : ℕ) (b : Bank) (t : Voices) : Type 0 where
  pub few : t.count ≤ 16
  pub each : Each (Sounds n b) t

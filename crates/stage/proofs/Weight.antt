-- The tail's weight: a frame and a command keep it in its ranges, and, where it is exactly what is left of a tail that began at 1, exactly that. Assumes nothing.
use mathlib.Core.Path.{◌≡◌, refl, sym, subst}
use mathlib.Core.Bool.{true}
use Prim.Native.Nat.{ℕ, zero, suc, ◌≤◌}
use native.Mathlib.Omega.{arith}
use lib.Ieee.{le}
use Rattle.std.specs.Prelude.{Option}
use Rattle.laws.specs.Block.{At, block}
use Rattle.laws.proofs.Lists.{each_all}
use Rattle.laws.proofs.Stepwise.{block_keeps}
use Rattle.ramp.specs.declared.Ramp.{Ramp}
use Rattle.ramp.specs.Number.{zero32, between}
use Rattle.ramp.specs.Ramp.{tick_of}
use Rattle.ramp.specs.Tail.{tail_frames}
use Rattle.ramp.proofs.Kept.{tick_falls, tick_target}
use Rattle.ramp.proofs.Left.{Left, start, tick}
use Rattle.timeline.specs.declared.Command.{Command}
use Rattle.timeline.specs.declared.QueueRecord.{QueueRecord}
use Rattle.bank.specs.Recording.{View}
use Rattle.stage.specs.declared.Settings.{Settings}
use Rattle.stage.specs.declared.Tail.{Tail}
use Rattle.stage.specs.declared.Stage.{Stage}
use Rattle.stage.specs.Stage.{frame_of, execute_of}
use Rattle.stage.specs.Machine.{machine_of}
use Rattle.stage.proofs.Keeps.{OfTail, frame_tail, exec_tail}

-- 1 to 1,024 frames remain, and the target is 0
pub record Weighs (w : Ramp) : Type 0 where
  pub from : 1 ≤ w.remaining
  pub to : w.remaining ≤ tail_frames
  pub target : between zero32 zero32 w.target ≡ true

-- 1 to 1,024 frames remain, and the weight is exactly so many 1,024ths
pub record Exact (w : Ramp) : Type 0 where
  pub from : 1 ≤ w.remaining
  pub to : w.remaining ≤ tail_frames
  pub left : Left w.remaining w

-- the weight of the tail, if there is one, is in its ranges
abbrev pub TailWeighs : Option Tail → Type 0
TailWeighs = OfTail (λ h w. Weighs w)

-- it is exactly what is left
abbrev pub TailLeft : Option Tail → Type 0
TailLeft = OfTail (λ h w. Exact w)

ticked : (n : ℕ) (w : Ramp) → 1 ≤ n → n ≤ 1024 → Left n w → Left (tick_of w).ramp.remaining (tick_of w).ramp
ticked zero w f t l = absurd (omega arith)
ticked (suc n) w f t l = let k : Left n (tick_of w).ramp = tick n w t l in subst (λ m. Left m (tick_of w).ramp) (sym k.remaining) k

module _ (x : Settings) (view : View) (s : Stage) where
  -- a frame keeps the tail's weight in its ranges, or the tail is gone
  pub frame_weighs : TailWeighs s.sound.fade.tail → TailWeighs (frame_of x view s).stage.sound.fade.tail
  frame_weighs =
      frame_tail x view s (λ h w. Weighs w)
      (λ h w n p. record { from = omega (arith, n); to = omega (arith, tick_falls w); target = rw (tick_target w) p.target })

  -- a frame leaves exactly one 1,024th less, or the tail is gone
  pub frame_left : TailLeft s.sound.fade.tail → TailLeft (frame_of x view s).stage.sound.fade.tail
  frame_left =
      frame_tail x view s (λ h w. Exact w)
      (λ h w n p. record { from = omega (arith, n); to = omega (arith, tick_falls w); left = ticked w.remaining w p.from p.to p.left })

module _ (x : Settings) (extent : ℕ) (c : Command) (s : Stage) where
  -- a command keeps the tail's weight in its ranges: a Swap's begins there
  pub exec_weighs : TailWeighs s.sound.fade.tail → TailWeighs (execute_of x extent c s).sound.fade.tail
  unfolding le
  exec_weighs = exec_tail x extent c s (λ h w. Weighs w) (record { from = omega arith; to = omega arith; target = refl })

  -- a command keeps the tail's weight exact: a Swap's begins at 1 with 1,024 frames left
  pub exec_left : TailLeft s.sound.fade.tail → TailLeft (execute_of x extent c s).sound.fade.tail
  exec_left = exec_tail x extent c s (λ h w. Exact w) (record { from = omega arith; to = omega arith; left = start })

-- a block keeps the tail's weight exact
pub block_left : (x : Settings) (view : View) (n : ℕ) (a : At Stage QueueRecord) → TailLeft a.core.sound.fade.tail
    → TailLeft (block (machine_of x view) n a).at.core.sound.fade.tail
block_left x view n a l =
    (block_keeps (machine_of x view) (λ s. TailLeft s.sound.fade.tail) (λ d. Unit {0})
    (λ d s u. exec_left x (view s.playhead.song).extent d.command s) (λ s. frame_left x view s) n a l (each_all (λ d. Unit {0}) (λ d. tt) a.queue)).0

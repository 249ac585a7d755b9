-- 'The final stinger addition, never -0.0': the stinger sum is never -0.0, and so no sample of a block is. Definitions only.
use Rattle.std.specs.Prelude.{◌≡◌, Bool, true, false, List, zero, suc, Float}
use Rattle.std.specs.Float.{nan, inf, fin}
use Rattle.laws.specs.Queue.{Each}
use Rattle.bank.specs.Recording.{View}
use Rattle.oneshot.specs.declared.Voices.{Voices}
use Rattle.oneshot.specs.Mix.{mix_in}
use Rattle.promises.specs.Calls.{State, block, refusal, out_of}

-- -0.0, with any exponent
abbrev pub minus_zero : Float → Bool
minus_zero nan = false
minus_zero (inf s) = false
minus_zero (fin true zero e) = true
minus_zero (fin true (suc m) e) = false
minus_zero (fin false m e) = false

pub record NeverMinusZero : Type 0 where
  -- the stinger sum, over any clips and voices
  pub sum : (view : View) (t : Voices) → (minus_zero (mix_in view t).sum.left ≡ false) × (minus_zero (mix_in view t).sum.right ≡ false)
  -- every sample of an accepted block
  pub samples : (x : State) (out : List Float) → refusal (block out) x ≡ 0 → Each (λ v. minus_zero v ≡ false) (out_of x out)

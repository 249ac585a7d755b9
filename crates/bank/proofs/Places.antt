-- Places of a list: what is read inside it, and a list copied place by place into a part of another. Assumes nothing.
use mathlib.Core.Path.{◌≡◌, sym, ◌∙◌}
use mathlib.Core.List.{List, ◌++◌}
use Prim.Native.Nat.{ℕ, ◌+◌, ◌-◌, ◌<◌}
use native.Mathlib.Omega.{arith}
use native.Mathlib.Nat.{le_of_eq}
use native.Mathlib.Numerals.{add-one}
use lib.ListN.{get_or, length, take, drop, set}
use lib.Seq.{drop-cons, take-suc, take-suc-set, take-length, take_all, drop-drop}
use Rattle.bank.specs.Room.{pasted}

module _ {ℓ} {A : Type ℓ} where
  -- what stands inside a list does not turn on what is read past its end
  pub get_d_any : (l : List A) (i : ℕ) (a b : A) → i < length l → get_or l i a ≡ get_or l i b
  get_d_any l i a b h = cc (drop-cons l i a h, drop-cons l i b h)

  -- one more place is copied
  pub copy_step : (d s : List A) (i : ℕ) (z : A) → i < length d → i < length s → take i d ≡ take i s → take (i + 1) (set d i (get_or s i z)) ≡ take (i + 1) s
  copy_step d s i z hd hs e = rw (add-one, take-suc-set d i (get_or s i z) hd, take-suc s i z hs, e)

  -- all are copied
  pub copy_done : (d s : List A) (i : ℕ) → i ≡ length s → length d ≡ length s → take i d ≡ take i s → d ≡ s
  copy_done d s i e f g =
      let a : take (length s) d ≡ d = take_all (length s) d (le_of_eq f) in
      let b : take (length s) s ≡ s = take-length s in
      sym a ∙ (rw e at g) ∙ b

  -- a part that became the samples, between what stood before and after it
  pub part_pasted : (pool samples part : List A) (at : ℕ) → part ≡ samples → take at pool ++ (part ++ drop (at + length samples - at) (drop at pool)) ≡ pasted pool at samples
  unfolding pasted
  part_pasted pool samples part at e =
      let f : at + length samples - at ≡ length samples = omega arith in
      rw (e, f, drop-drop (length samples) at pool)

-- A list that becomes another, mapped, place by place. Assumes nothing.
use mathlib.Core.Path.{◌≡◌, sym, ◌∙◌}
use mathlib.Core.List.{List, map}
use Prim.Native.Nat.{ℕ, ◌+◌, ◌<◌}
use lib.ListN.{get_or, length, take, set, length-map, get_or-map}
use Rattle.bank.proofs.Places.{copy_step, copy_done}

module _ {A B : Type 0} (f : A → B) where
  -- one more place is mapped
  pub map_step : (d : List B) (l : List A) (i : ℕ) (z : A) → i < length d → i < length l → take i d ≡ take i (map f l) → take (i + 1) (set d i (f (get_or l i z))) ≡ take (i + 1) (map f l)
  map_step d l i z hd hl e = rw (← get_or-map f l i z) (copy_step d (map f l) i (f z) hd (rw length-map hl) e)

  -- all are mapped
  pub map_done : (d : List B) (l : List A) (i : ℕ) → i ≡ length l → length d ≡ length l → take i d ≡ take i (map f l) → d ≡ map f l
  map_done d l i e n = copy_done d (map f l) i (e ∙ sym (length-map l f)) (n ∙ sym (length-map l f))

-- Bytes written one behind the other. Assumes nothing.
use mathlib.Core.Path.{◌≡◌, refl, sym, ap, ◌∙◌}
use mathlib.Core.List.{List, [], ◌∷◌, ◌++◌, append_assoc}
use Prim.Native.Nat.{ℕ, suc, ◌+◌, ◌-◌, ◌≤◌}
use native.Mathlib.Nat.{add-zero}
use native.Mathlib.Omega.{arith}
use lib.ListN.{length, set, take, drop}
use lib.Seq.{sets, sets-eq}
use borrow.Rule.Slice.PartMut.{put_mid, Post-is}

sets_append : (a b l : List ℕ) (i : ℕ) → sets l i (a ++ b) ≡ sets (sets l i a) (i + length a) b
sets_append [] b l i = rw (add-zero i) refl
sets_append (x ∷ a) b l i =
    let e : suc i + length a ≡ i + suc (length a) = omega arith in
    sets_append a b (set l i x) (suc i) ∙ ap (λ (n : ℕ). sets (sets (set l i x) (suc i) a) n b) e

-- one list of bytes behind another is both at once
pub two_writes : (a b l : List ℕ) (i j : ℕ) → j ≡ i + length a → sets (sets l i a) j b ≡ sets l i (a ++ b)
two_writes a b l i j e = rw e (sym (sets_append a b l i))

-- bytes written over a part of a list
pub part_sets : (l ys : List ℕ) (at e : ℕ) → e ≡ at + length ys → e ≤ length l → put_mid at (e - at) l ys ≡ sets l at ys
part_sets l ys at e h g =
    ap (λ (r : List ℕ). take at l ++ (ys ++ r)) (Post-is at e l (omega arith)) ∙ rw h (sym (sets-eq ys l at (omega arith) ∙ append_assoc (take at l) ys (drop (at + length ys) l)))

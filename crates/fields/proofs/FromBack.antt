-- The library's search from the back finds the highest place of a word. Assumes nothing.
use mathlib.Core.Path.{◌≡◌, refl, sym, ap, subst, ◌∙◌}
use mathlib.Core.Bool.{Bool, true, false}
use mathlib.Core.List.{List, [], ◌∷◌, ◌++◌}
use Prim.Native.Nat.{ℕ, zero, suc, ◌+◌, ◌≤◌}
use native.Mathlib.Omega.{arith}
use denote.Ref.{Bor}
use denote.Param.Members.{Mut}
use lib.Dec.{eqb}
use lib.ListN.{length, get_or-append, length-append}
use lib.Seq.{get_or-append_seam}
use Rattle.std.proofs.Common.{Option, Some, None, Iter}
use Rattle.std.specs.Fn.{Called}
use Rattle.std.specs.List.{FoldsTo}
use Rattle.std.specs.Option.{MatchOption, IsSomeAnd}
use Rattle.std.specs.Iterator.{Yields, FindsPositionBack}
use Rattle.std.specs.Slice.Iter.{iter_rest, iter_steps_back}
use Rattle.fields.specs.Clips.{place_below}

-- one word more at the end
place_front : (l : List ℕ) (x w k : ℕ) → k ≤ length l → place_below (l ++ (x ∷ [])) w k ≡ place_below l w k
unfolding place_below
place_front l x w zero h = refl
place_front l x w (suc k) h = rw (get_or-append l (x ∷ []) 0 k (omega arith), place_front l x w k (omega arith)) refl

-- the highest place in a whole list
abbrev pub highest : List ℕ → ℕ → ℕ
highest l w = place_below l w (length l)

module _ (l : List ℕ) (x w : ℕ) where
  longer : length (l ++ (x ∷ [])) ≡ suc (length l)
  longer = length-append l (x ∷ []) ∙ omega arith

  last_is : eqb x w ≡ true → highest (l ++ (x ∷ [])) w ≡ length l
  unfolding place_below
  last_is e = rw (longer, get_or-append_seam l x [] 0, e) refl

  last_not : eqb x w ≡ false → highest (l ++ (x ∷ [])) w ≡ highest l w
  unfolding place_below
  last_not e = rw (longer, get_or-append_seam l x [] 0, e) (place_front l x w (length l) (omega arith))

-- a place that is found, or 32
abbrev pub place : Option ℕ → ℕ
place None = 32
place (Some i) = i

module _ {F : Type 0} (g : Mut F (Bor ℕ × Unit {0}) Bool) (w : ℕ) (f : F) (same : (x : Bor ℕ) (b : Bool) (q : F) → Called g f (x, tt) b q → (q ≡ f) × (b ≡ eqb x.now w)) where
  -- words that are not it
  passed : (xs : List (Bor ℕ)) (s t : Iter ℕ) (p q : F) → p ≡ f → Yields iter_steps_back s xs t → FoldsTo (λ p x q. Called g p (x, tt) false q) p xs q
      → (q ≡ f) × (highest (iter_rest s) w ≡ highest (iter_rest t) w) × (length (iter_rest t) + length xs ≡ length (iter_rest s))
  passed [] s t p q a y c = (sym c ∙ a, ap (λ (i : Iter ℕ). highest (iter_rest i) w) y, let e = ap (λ (i : Iter ℕ). length (iter_rest i)) y in omega arith)
  passed (x ∷ xs) s t p q a y c =
      let k = same x false c.0 (subst (λ (p : F). Called g p (x, tt) false c.0) a c.1) in
      let r = passed xs y.0 t c.0 q k.0 y.2 c.2 in
      let n = longer (iter_rest y.0) x.now w in
      let m = r.2 in
      (r.0, rw y.1 (last_not (iter_rest y.0) x.now w (sym k.1) ∙ r.1), rw y.1 (omega arith))

  -- from the back on
  pub found_back : (s u : Iter ℕ) (n : ℕ) → length (iter_rest s) ≡ n → (r : Option ℕ) → FindsPositionBack iter_steps_back g s f n r u → place r ≡ highest (iter_rest s) w
  unfolding place_below
  found_back s u n l r m = go m.1 r m.3.2 m.5
    where
      go : (o : Option (Bor ℕ)) (r : Option ℕ) → iter_steps_back m.3.0 o u → MatchOption o (r ≡ None) (λ x. IsSomeAnd r (λ i. i + 1 + length m.0 ≡ n) × ((h : F) × Called g m.2 (x, tt) true h))
          → place r ≡ highest (iter_rest s) w
      go None r st e =
          let k = passed m.0 s m.3.0 f m.2 refl m.3.1 m.4 in
          rw (e, k.1, st.0) refl
      go (Some x) None st e = absurd e.0
      go (Some x) (Some i) st e =
          let k = passed m.0 s m.3.0 f m.2 refl m.3.1 m.4 in
          let c = same x true e.1.0 (subst (λ (p : F). Called g p (x, tt) true e.1.0) k.0 e.1.1) in
          let long : length (iter_rest m.3.0) ≡ suc (length (iter_rest u)) = rw st (longer (iter_rest u) x.now w) in
          let i-is : i ≡ length (iter_rest u) = let a = e.0 in let b = k.2 in omega arith in
          i-is ∙ sym (k.1 ∙ rw st (last_is (iter_rest u) x.now w (sym c.1)))

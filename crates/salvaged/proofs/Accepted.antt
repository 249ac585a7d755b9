-- A file that the reader accepts, field by field. Assumes nothing.
use Prim.Native.Nat.{ℕ, zero, suc, ◌+◌, ◌-◌, ◌<◌, ◌≤◌}
use mathlib.Core.Path.{◌≡◌, refl, sym, ◌∙◌}
use mathlib.Core.Logic.{◌⊎◌, inl, inr, ⊎_elim}
use mathlib.Core.List.{List, ◌∷◌}
use mathlib.Core.Bool.{Bool, true, false, cond}
use native.Mathlib.Omega.{arith}
use borrow.Author.Tests.{eqb-true, ne_eqb, ltb-false}
use lib.ListN.{length, drop, length-drop}
use lib.Seq.{drop-drop}
use lib.Dec.{eqb}
use Rattle.std.specs.Prelude.{Ok, Err}
use Rattle.std.proofs.Common.{Break, Continue}
use Rattle.counts.proofs.Truth.{lt_or_le}
use Rattle.fields.specs.Field.{piece_size, fields_of, is_more, tag_of}
use Rattle.fields.proofs.Fields.{front_length, fields_none, fields_front, is_more_law}
use Rattle.tourfile.specs.Answer.{Judged}
use Rattle.tourfile.specs.declared.Progress.{Progress}
use Rattle.tourfile.specs.Reader.{Turn, bytes_after, judged_of, behind, settled, turn_of, or_else, weighed}
use Rattle.tourfile.proofs.Judging.{not_done}
use Rattle.tourfile.proofs.Passed.{Passed, fine_passed}
use Rattle.tourfile.proofs.Turns.{behind_at}
use Rattle.remains.specs.Salvage.{field_at}
use Rattle.remains.proofs.Runs.{field_within}

-- the first field has no fault: it is the last one, or the later ones are weighed behind it
first_fine : (clips : List ℕ) (p : Progress) (n : ℕ) (f : List ℕ) (fs : List (List ℕ)) → weighed clips p (f ∷ fs) ≡ Ok n
    → Passed clips p (is_more fs) f × (((tag_of f ≡ 3) × (p.count ≡ n)) ⊎ (weighed clips (behind p f) fs ≡ Ok n))
unfolding weighed turn_of settled
first_fine clips p n f fs e = go (judged_of clips p (is_more fs) f) refl e
  where
    pick : (b : Bool) → eqb (tag_of f) 3 ≡ b → or_else (cond {A = Turn} b (Break (Ok p.count)) (Continue (behind p f))) (λ q. weighed clips q fs) ≡ Ok n
        → ((tag_of f ≡ 3) × (p.count ≡ n)) ⊎ (weighed clips (behind p f) fs ≡ Ok n)
    pick true t e = let m : p.count ≡ n = cc in inl (eqb-true (tag_of f) 3 t, m)
    pick false t e = inr e

    go : (j : Judged) → judged_of clips p (is_more fs) f ≡ j → or_else (settled j p f) (λ q. weighed clips q fs) ≡ Ok n
        → Passed clips p (is_more fs) f × (((tag_of f ≡ 3) × (p.count ≡ n)) ⊎ (weighed clips (behind p f) fs ≡ Ok n))
    go (Err x) j e = absurd (not_done e)
    go (Ok u) j e = (fine_passed clips p (is_more fs) f j, pick (eqb (tag_of f) 3) refl e)

-- what is no command is not counted
uncounted : (p : Progress) (f : List ℕ) → (tag_of f ≡ 2 → ⊥) → (behind p f).count ≡ p.count
unfolding behind
uncounted p f n = rw (ne_eqb (tag_of f) 2 n) refl

-- the fields from a place on: the one that begins there, and those behind it
module _ (file : List ℕ) (p : Progress) (h : p.at < length file) where
  pub fields_here : fields_of (drop p.at file) ≡ field_at file p.at ∷ fields_of (drop (behind p (field_at file p.at)).at file)
  fields_here =
      let b : (behind p (field_at file p.at)).at ≡ p.at + piece_size (drop p.at file) = behind_at p (field_at file p.at) ∙ rw (front_length (drop p.at file)) refl in
      rw (b, ← drop-drop (piece_size (drop p.at file)) p.at file) (fields_front (drop p.at file) (rw length-drop (omega arith)))

-- what holds at the end of an accepted file, and at a field with no fault where it holds behind it, holds from any place on from which fields are accepted
module _ (clips file : List ℕ) (n : ℕ) (P : Progress → Type 0) (end : (p : Progress) → length file ≤ p.at → p.count ≡ n → P p)
    (step : (p : Progress) (more : Bool) → p.at < length file → Passed clips p more (field_at file p.at) → P (behind p (field_at file p.at)) → P p) where
  none_left : (p : Progress) → length file ≤ p.at → weighed clips p (fields_of (drop p.at file)) ≡ Ok n → P p
  unfolding weighed
  none_left p h e = let z : length (drop p.at file) ≡ 0 = rw length-drop (omega arith) in absurd (not_done (rw (fields_none (drop p.at file) z) at e))

  module _ (p : Progress) (h : p.at < length file) where
    abbrev f : List ℕ
    f = field_at file p.at

    abbrev more : Bool
    more = is_more (fields_of (drop (behind p f).at file))

    -- nothing stands behind the last field
    last_here : Passed clips p more f → tag_of f ≡ 3 → p.count ≡ n → P (behind p f)
    unfolding bytes_after
    last_here q t c =
        let m : more ≡ false = rw t at q.after in
        let l : length (drop (behind p f).at file) ≤ 0 = ltb-false 0 (length (drop (behind p f).at file)) (sym (is_more_law (drop (behind p f).at file)) ∙ m) in
        let k : length file - (behind p f).at ≤ 0 = rw length-drop at l in
        let o : tag_of f ≡ 2 → ⊥ = λ z. omega arith in
        end (behind p f) (omega arith) (uncounted p f o ∙ c)

    one_field : (weighed clips (behind p f) (fields_of (drop (behind p f).at file)) ≡ Ok n → P (behind p f)) → weighed clips p (fields_of (drop p.at file)) ≡ Ok n → P p
    one_field ih e =
        let r = first_fine clips p n f (fields_of (drop (behind p f).at file)) (rw (fields_here file p h) at e) in
        step p more h r.0 (⊎_elim (λ (l : (tag_of f ≡ 3) × (p.count ≡ n)). last_here r.0 l.0 l.1) ih r.1)

  within : (k : ℕ) (p : Progress) → length file - p.at ≤ k → weighed clips p (fields_of (drop p.at file)) ≡ Ok n → P p
  within zero p h e = none_left p (omega arith) e
  within (suc k) p h e =
      ⊎_elim
      (λ (l : p.at < length file).
      let b = behind_at p (field_at file p.at) in
      let s = (field_within file p.at l).0 in
      one_field p l (λ w. within k (behind p (field_at file p.at)) (omega arith) w) e)
      (λ (l : length file ≤ p.at). none_left p l e) (lt_or_le p.at (length file))

  pub field_by_field : (p : Progress) → weighed clips p (fields_of (drop p.at file)) ≡ Ok n → P p
  field_by_field p e = within (length file) p (omega arith) e

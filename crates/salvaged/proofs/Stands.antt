-- A field that the reader finds no fault with is kept or passed over. Assumes nothing.
use Prim.Native.Nat.{ℕ}
use mathlib.Core.Path.{◌≡◌, refl}
use mathlib.Core.Logic.{⊎_elim}
use mathlib.Core.List.{List}
use mathlib.Core.Bool.{Bool, true, false, ◌&&◌, ◌||◌, not}
use borrow.Author.Tests.{ne_eqb, le-ltb, leb-true, not-false}
use lib.ListN.{get_or}
use lib.Dec.{leb, ltb, eqb}
use Rattle.counts.proofs.Truth.{never, two_ways}
use Rattle.fields.specs.Clips.{is_handle, is_listed}
use Rattle.fields.specs.Field.{is_whole, tag_of, kind_in, clip_in, has_clip}
use Rattle.tourfile.specs.declared.Progress.{Progress}
use Rattle.tourfile.specs.Reader.{wrong_first, unknown_tag, not_listed}
use Rattle.tourfile.proofs.Passed.{Passed}
use Rattle.remains.specs.Salvage.{no_clip, is_valid, is_kept, is_passed}
use Rattle.remains.proofs.Runs.{kept_tag}

module _ (clips : List ℕ) (p : Progress) (more : Bool) (f : List ℕ) (q : Passed clips p more f) where
  -- a listed clip is one of the 32
  clip_there : no_clip f ≡ false
  unfolding no_clip not_listed is_listed
  clip_there = go (eqb (tag_of f) 2) (has_clip (kind_in f)) (leb 32 (clip_in f)) refl q.clip
    where
      go : (t h b : Bool) → leb 32 (clip_in f) ≡ b → t && (h && not (ltb (clip_in f) 32 && is_handle (get_or clips (clip_in f) 0))) ≡ false → t && (h && b) ≡ false
      go true true true e n = absurd (never (rw (le-ltb (clip_in f) 32 (leb-true 32 (clip_in f) e)) at n))
      go true true false e n = refl
      go true false b e n = refl
      go false h b e n = refl

  valid : is_valid f ≡ true
  unfolding is_valid
  valid = rw (not-false (is_whole f) q.whole, q.size, q.version, q.kind, clip_there) refl

  -- a command is kept,
  pub stands_kept : tag_of f ≡ 2 → is_kept p f ≡ true
  unfolding is_kept
  stands_kept t = rw (valid, t, q.rising) refl

  -- and any other passed over
  pub stands_passed : (tag_of f ≡ 2 → ⊥) → is_passed f ≡ true
  unfolding is_passed wrong_first unknown_tag
  stands_passed n = rw valid (go (eqb p.at 0) (eqb (tag_of f) 1) (eqb (tag_of f) 3) (leb 128 (tag_of f)) q.opens (rw (ne_eqb (tag_of f) 2 n) at q.tag))
    where
      go : (a b c d : Bool) → a && not b ≡ false → not a && not (c || d) ≡ false → b || c || d ≡ true
      go a true c d x y = refl
      go true false c d x y = absurd (never x)
      go false false true d x y = refl
      go false false false true x y = refl
      go false false false false x y = absurd (never y)

-- only a command is kept
pub not_kept : (p : Progress) (f : List ℕ) → (tag_of f ≡ 2 → ⊥) → is_kept p f ≡ false
not_kept p f n = ⊎_elim (λ (k : is_kept p f ≡ true). absurd (n (kept_tag p f k))) (λ (k : is_kept p f ≡ false). k) (two_ways (is_kept p f))

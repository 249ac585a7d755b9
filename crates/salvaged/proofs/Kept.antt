-- The kept fields, one behind the other, and the fields of the fresh file. Assumes nothing.
use Prim.Native.Nat.{ℕ, ◌+◌, ◌<◌, ◌≤◌}
use mathlib.Core.Path.{◌≡◌, refl, ap, ◌∙◌}
use mathlib.Core.Logic.{⊎_elim}
use mathlib.Core.List.{List, [], ◌∷◌, ◌++◌, append_assoc}
use mathlib.Core.Bool.{true, false, ◌&&◌, not}
use lib.ListN.{length, drop}
use lib.Dec.{eqb}
use Rattle.counts.proofs.Truth.{and_l, two_ways}
use Rattle.fields.specs.Field.{is_whole, fields_of, tag_of, number_in}
use Rattle.fields.proofs.Fields.{Field, field_front}
use Rattle.tourfile.specs.declared.Progress.{Progress}
use Rattle.tourfile.specs.Reader.{start, not_rising}
use Rattle.tourfile.specs.Writer.{version_bytes, last_bytes}
use Rattle.roundtrip.proofs.Front.{front_field}
use Rattle.roundtrip.proofs.Written.{version_field, fields_last}
use Rattle.remains.specs.Salvage.{keeps, is_valid, is_kept, field_at, what, ranges_of, kept_fields, laid, file_with, fresh}
use Rattle.remains.specs.Steps.{next}
use Rattle.remains.proofs.Fates.{keeps-true, keeps-false}
use Rattle.remains.proofs.Runs.{kept_what, next_kept, next_other}
use Rattle.remains.proofs.Walk.{from, from_start, from_none, fields_kept, fields_other}
use Rattle.salvaged.proofs.Places.{every_place}

-- fields that are kept one after the other, behind so many with that last number
abbrev pub Kept : ℕ → ℕ → List (List ℕ) → Type 0
Kept count last [] = Unit {0}
Kept count last (f ∷ fs) = Field f × (is_kept (record { at = 0; count = count; last = last }) f ≡ true) × Kept (count + 1) (number_in f) fs

kept_same : {c d l m : ℕ} (fs : List (List ℕ)) → c ≡ d → l ≡ m → Kept c l fs → Kept d m fs
kept_same fs x y k = rw (← x, ← y) k

-- whether a field is kept does not turn on its place
pub kept_anywhere : (p q : Progress) (f : List ℕ) → p.count ≡ q.count → p.last ≡ q.last → is_kept p f ≡ is_kept q f
unfolding is_kept not_rising
kept_anywhere p q f c l = rw (c, l) refl

pub kept_whole : (p : Progress) (f : List ℕ) → is_kept p f ≡ true → is_whole f ≡ true
unfolding is_kept is_valid
kept_whole p f k = and_l (is_whole f) _ (and_l (is_valid f) (eqb (tag_of f) 2 && not (not_rising p f)) k)

module _ (file : List ℕ) where
  abbrev Rest : Progress → Type 0
  Rest p = Kept p.count p.last (kept_fields file (from file p))

  rest_none : (p : Progress) → length file ≤ p.at → Rest p
  unfolding kept_fields
  rest_none p h = rw (from_none file p h) tt

  rest_some : (p : Progress) → p.at < length file → Rest (next file p) → Rest p
  rest_some p h ih = ⊎_elim command other (two_ways (keeps (what file p)))
    where
      command : keeps (what file p) ≡ true → Rest p
      command e =
          let w = keeps-true (what file p) e in
          let k = kept_what file p w in
          let n = next_kept file p w in
          let c : (next file p).count ≡ p.count + 1 = ap (λ (q : Progress). q.count) n in
          let l : (next file p).last ≡ number_in (field_at file p.at) = ap (λ (q : Progress). q.last) n in
          rw (fields_kept file p h w) (
            front_field (drop p.at file) (kept_whole p (field_at file p.at) k),
            kept_anywhere (record { at = 0; count = p.count; last = p.last }) p (field_at file p.at) refl refl ∙ k,
            kept_same (kept_fields file (from file (next file p))) c l ih,
          )

      other : keeps (what file p) ≡ false → Rest p
      other e = let n = keeps-false (what file p) e in let s = next_other file p n in rw (fields_other file p h n) (kept_same (kept_fields file (from file (next file p))) s.0 s.1 ih)

  pub all_kept : Kept 0 0 (kept_fields file (ranges_of file))
  all_kept = rw (from_start file) at (every_place file Rest rest_none rest_some start)

-- laid one behind the other they are the fields
fields_laid : (fs : List (List ℕ)) (c l n : ℕ) → Kept c l fs → fields_of (laid fs ++ last_bytes n) ≡ fs ++ (last_bytes n ∷ [])
unfolding laid
fields_laid [] c l n k = fields_last n
fields_laid (f ∷ fs) c l n k =
    ap fields_of (append_assoc f (laid fs) (last_bytes n)) ∙ field_front f (laid fs ++ last_bytes n) k.0
    ∙ ap (λ (gs : List (List ℕ)). f ∷ gs) (fields_laid fs (c + 1) (number_in f) n k.2)

-- the version, the kept fields, the count
pub fields_fresh : (file : List ℕ)
    → fields_of (fresh file) ≡ version_bytes ∷ (kept_fields file (ranges_of file) ++ (last_bytes (length (kept_fields file (ranges_of file))) ∷ []))
unfolding fresh file_with
fields_fresh file =
    let ks : List (List ℕ) = kept_fields file (ranges_of file) in
    field_front version_bytes (laid ks ++ last_bytes (length ks)) version_field ∙ ap (λ (fs : List (List ℕ)). version_bytes ∷ fs) (fields_laid ks 0 0 (length ks) (all_kept file))

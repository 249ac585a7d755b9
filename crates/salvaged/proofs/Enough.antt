-- How many bytes a fresh file has at most, and how many ranges a file. Assumes nothing.
use Prim.Native.Nat.{ℕ, ◌+◌, ◌-◌, ◌*◌, ◌<◌, ◌≤◌}
use mathlib.Core.Path.{◌≡◌, sym, ap, ◌∙◌}
use mathlib.Core.Logic.{⊎_elim}
use mathlib.Core.List.{List}
use mathlib.Core.Bool.{true, false, ◌&&◌, ◌||◌, not}
use native.Mathlib.Omega.{arith}
use borrow.Author.Tests.{leb-true}
use lib.ListN.{length}
use lib.Dec.{leb, eqb}
use Rattle.counts.proofs.Truth.{and_l, not_true, two_ways, never}
use Rattle.fields.specs.Bytes.{two}
use Rattle.fields.specs.Field.{is_whole, tag_of}
use Rattle.tourfile.specs.declared.Progress.{Progress}
use Rattle.tourfile.specs.Reader.{start}
use Rattle.tourfile.proofs.Turns.{behind_at}
use Rattle.remains.specs.Salvage.{keeps, drops, is_valid, is_passed, field_at, what, steps, ranges_of, kept_fields, laid, fresh}
use Rattle.remains.specs.Steps.{next}
use Rattle.remains.proofs.Runs.{kept_what, passed_what, next_at, next_field}
use Rattle.remains.proofs.Walk.{from, from_start, from_none, from_front, length_next, fields_other, size_kept}
use Rattle.remains.specs.declared.Fate.{Fate}
use Rattle.remains.proofs.Fates.{keeps-true, keeps-false, drops-false}
use Rattle.remains.proofs.Fresh.{file_length}
use Rattle.salvaged.specs.Salvaged.{begins_dropped, apart, Enough}
use Rattle.salvaged.proofs.Places.{every_place}
use Rattle.salvaged.proofs.Kept.{kept_whole}
use Rattle.salvaged.proofs.Apart.{joined_apart}

-- a whole field has three bytes at least
whole_long : (f : List ℕ) → is_whole f ≡ true → 3 ≤ length f
unfolding is_whole
whole_long f w = leb-true 3 (length f) (and_l (leb 3 (length f)) (leb (3 + two f 1) (length f)) w)

passed_whole : (f : List ℕ) → is_passed f ≡ true → is_whole f ≡ true
unfolding is_passed is_valid
passed_whole f i = and_l (is_whole f) _ (and_l (is_valid f) (eqb (tag_of f) 1 || eqb (tag_of f) 3 || leb 128 (tag_of f)) i)

module _ (file : List ℕ) where
  -- ---- the fresh file's bytes are bytes of the file

  abbrev Bytes : Progress → Type 0
  Bytes p = length (laid (kept_fields file (from file p))) ≤ length file - p.at

  bytes_none : (p : Progress) → length file ≤ p.at → Bytes p
  unfolding kept_fields laid
  bytes_none p h = rw (from_none file p h) (omega arith)

  bytes_some : (p : Progress) → p.at < length file → Bytes (next file p) → Bytes p
  bytes_some p h ih =
      let n = next_at file p h in
      let x = n.0 in
      let y = n.1 in
      ⊎_elim (λ (e : keeps (what file p) ≡ true). let s = size_kept file p h (keeps-true (what file p) e) in omega arith)
      (λ (e : keeps (what file p) ≡ false). let s = ap (λ (fs : List (List ℕ)). length (laid fs)) (fields_other file p h (keeps-false (what file p) e)) in omega arith)
      (two_ways (keeps (what file p)))

  -- ---- a field is a range of three bytes at least, and between two runs of dropped bytes stands one

  field_long : (p : Progress) → p.at < length file → (what file p ≡ Fate.Dropped → ⊥) → p.at + 3 ≤ (next file p).at
  field_long p h n =
      let w : is_whole (field_at file p.at) ≡ true =
      ⊎_elim (λ (e : keeps (what file p) ≡ true). kept_whole p (field_at file p.at) (kept_what file p (keeps-true (what file p) e)))
      (λ (e : keeps (what file p) ≡ false). passed_whole (field_at file p.at) (passed_what file p (keeps-false (what file p) e) n)) (two_ways (keeps (what file p))) in
      let l = whole_long (field_at file p.at) w in
      let b = behind_at p (field_at file p.at) in
      rw (next_field file p n) (omega arith)

  pub record Few (p : Progress) : Type 0 where
    pub any : length (from file p) * 2 ≤ length file - p.at + 1
    pub field : begins_dropped (from file p) ≡ false → length (from file p) * 2 ≤ length file - p.at

  few_none : (p : Progress) → length file ≤ p.at → Few p
  few_none p h = let e = ap length (from_none file p h) in record { any = omega arith; field = λ b. omega arith }

  few_some : (p : Progress) → p.at < length file → Few (next file p) → Few p
  few_some p h ih = ⊎_elim run other (two_ways (drops (what file p)))
    where
      -- nothing is dropped behind a run
      run : drops (what file p) ≡ true → Few p
      run e =
          let a : not (drops (what file p) && begins_dropped (from file (next file p))) && apart (from file (next file p)) ≡ true =
          rw (from_front file p h) at (joined_apart (steps (length file) file p)) in
          let b : not (begins_dropped (from file (next file p))) && apart (from file (next file p)) ≡ true = rw e at a in
          let f = ih.field (not_true (begins_dropped (from file (next file p))) (and_l _ (apart (from file (next file p))) b)) in
          let l = length_next file p h in
          let n = next_at file p h in
          let x = n.0 in
          let y = n.1 in
          record { any = omega arith; field = λ d. absurd (never (sym e ∙ rw (from_front file p h) at d)) }

      other : drops (what file p) ≡ false → Few p
      other e =
          let f = field_long p h (drops-false (what file p) e) in
          let m = ih.any in
          let l = length_next file p h in
          let y = (next_at file p h).1 in
          record { any = omega arith; field = λ d. omega arith }

pub enough : Enough
unfolding fresh
enough file =
    let b : length (laid (kept_fields file (ranges_of file))) ≤ length file - 0 = rw (from_start file) at (every_place file (Bytes file) (bytes_none file) (bytes_some file) start) in
    let f : length (ranges_of file) * 2 ≤ length file - 0 + 1 = rw (from_start file) at (every_place file (Few file) (few_none file) (few_some file) start).any in
    let l = file_length (kept_fields file (ranges_of file)) in
    (omega arith, omega arith)

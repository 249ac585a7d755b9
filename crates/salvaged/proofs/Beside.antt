-- A file that the reader accepts yields all its commands: reader and salvage walk it in step. Assumes nothing.
use Prim.Native.Nat.{ℕ, suc, ◌<◌, ◌≤◌}
use mathlib.Core.Path.{◌≡◌, refl, sym, ap}
use mathlib.Core.Logic.{⊎_elim}
use mathlib.Core.List.{List, [], ◌∷◌}
use mathlib.Core.Bool.{Bool, true, false, cond}
use native.Mathlib.Omega.{arith}
use borrow.Author.Tests.{eqb-true, eqb-false, leb-false}
use lib.ListN.{length, drop, length-drop}
use lib.Dec.{leb, eqb}
use Rattle.std.specs.Prelude.{Ok}
use Rattle.laws.specs.Order.{any}
use Rattle.counts.proofs.Truth.{two_ways}
use Rattle.fields.specs.Field.{fields_of, tag_of}
use Rattle.fields.proofs.Fields.{fields_none}
use Rattle.tourfile.specs.declared.Progress.{Progress}
use Rattle.tourfile.specs.Reader.{start, too_many, behind, weighed, read_of, row_in, rows_in}
use Rattle.tourfile.proofs.Passed.{Passed}
use Rattle.tourfile.proofs.Turns.{records_count}
use Rattle.tourfile.proofs.Answers.{done_read}
use Rattle.roundtrip.proofs.Calls.{says_done}
use Rattle.remains.specs.Salvage.{field_at, what, ranges_of, kept_fields, fresh}
use Rattle.remains.specs.Steps.{next}
use Rattle.remains.proofs.Runs.{what_kept, what_passed, next_field}
use Rattle.remains.specs.declared.Fate.{Fate}
use Rattle.remains.proofs.Fates.{drops-other}
use Rattle.remains.proofs.Walk.{from, from_start, from_none, from_front, length_next, fields_kept, fields_other}
use Rattle.salvaged.specs.Salvaged.{is_dropped, commands_in, Undamaged, UndamagedDone}
use Rattle.salvaged.proofs.Answers.{salvage_says}
use Rattle.salvaged.proofs.Accepted.{fields_here, field_by_field}
use Rattle.salvaged.proofs.Stands.{stands_kept, stands_passed, not_kept}

module _ (file : List ℕ) where
  -- from a place on all commands are kept, every field is a range of its own, and nothing is dropped
  pub record Whole (p : Progress) : Type 0 where
    pub fields : kept_fields file (from file p) ≡ commands_in (fields_of (drop p.at file))
    pub ranges : length (from file p) ≡ length (fields_of (drop p.at file))
    pub none : any is_dropped (from file p) ≡ false

  whole_none : (p : Progress) → length file ≤ p.at → Whole p
  unfolding kept_fields
  whole_none p h =
      let z : length (drop p.at file) ≡ 0 = rw length-drop (omega arith) in
      let e = from_none file p h in
      let f = fields_none (drop p.at file) z in
      record { fields = rw (e, f) refl; ranges = rw (e, f) refl; none = rw e refl }

  module _ (clips : List ℕ) (p : Progress) (more : Bool) (h : p.at < length file) (q : Passed clips p more (field_at file p.at)) where
    abbrev f : List ℕ
    f = field_at file p.at

    pub is_kept_law : tag_of f ≡ 2 → what file p ≡ Fate.Kept
    is_kept_law t = what_kept file p (stands_kept clips p more f q t)

    pub is_passed_law : (tag_of f ≡ 2 → ⊥) → what file p ≡ Fate.Passed
    is_passed_law t = what_passed file p (not_kept p f t) (stands_passed clips p more f q t)

    not_dropped : what file p ≡ Fate.Dropped → ⊥
    not_dropped e =
        ⊎_elim (λ (b : eqb (tag_of f) 2 ≡ true). let w = is_kept_law (eqb-true (tag_of f) 2 b) in cc)
        (λ (b : eqb (tag_of f) 2 ≡ false). let w = is_passed_law (eqb-false (tag_of f) 2 b) in cc) (two_ways (eqb (tag_of f) 2))

    -- the salvage goes where the reader goes
    pub same_next : next file p ≡ behind p f
    same_next = next_field file p not_dropped

    fields_step : kept_fields file (from file (behind p f)) ≡ commands_in (fields_of (drop (behind p f).at file)) → kept_fields file (from file p) ≡ commands_in (fields_of (drop p.at file))
    fields_step ih = rw (fields_here file p h) (⊎_elim command other (two_ways (eqb (tag_of f) 2)))
      where
        command : eqb (tag_of f) 2 ≡ true → kept_fields file (from file p) ≡ commands_in (f ∷ fields_of (drop (behind p f).at file))
        command t = rw (fields_kept file p h (is_kept_law (eqb-true (tag_of f) 2 t)), same_next, t) (ap (λ (fs : List (List ℕ)). f ∷ fs) ih)

        other : eqb (tag_of f) 2 ≡ false → kept_fields file (from file p) ≡ commands_in (f ∷ fields_of (drop (behind p f).at file))
        other t =
            let w = is_passed_law (eqb-false (tag_of f) 2 t) in
            let n : what file p ≡ Fate.Kept → ⊥ = λ z. cc in
            rw (fields_other file p h n, same_next, t) ih

    whole_some : Whole (behind p f) → Whole p
    whole_some ih = record {
      fields = fields_step ih.fields;
      ranges = rw (length_next file p h, same_next, fields_here file p h) (ap suc ih.ranges);
      none = rw (from_front file p h, drops-other (what file p) not_dropped, same_next) ih.none;
    }

-- where nothing has a fault there are at most 4,096 commands
few_some : (clips : List ℕ) (p : Progress) (more : Bool) (f : List ℕ) (n : ℕ) → Passed clips p more f → ((behind p f).count ≤ 4096 → n ≤ 4096) → p.count ≤ 4096 → n ≤ 4096
unfolding behind too_many
few_some clips p more f n q ih c = ⊎_elim command other (two_ways (eqb (tag_of f) 2))
  where
    command : eqb (tag_of f) 2 ≡ true → n ≤ 4096
    command t = let m : leb 4096 p.count ≡ false = rw t at q.few in let l = leb-false 4096 p.count m in ih (rw t (omega arith))

    other : eqb (tag_of f) 2 ≡ false → n ≤ 4096
    other t = ih (rw t c)

-- as many records as commands
rows_commands : (clips : List ℕ) (fs : List (List ℕ)) → length (rows_in clips fs) ≡ length (commands_in fs)
unfolding rows_in
rows_commands clips [] = refl
rows_commands clips (f ∷ fs) = go (eqb (tag_of f) 2) (rows_commands clips fs)
  where
    go : (b : Bool) → length (rows_in clips fs) ≡ length (commands_in fs)
        → length (cond b (row_in clips f ∷ rows_in clips fs) (rows_in clips fs)) ≡ length (cond b (f ∷ commands_in fs) (commands_in fs))
    go true e = ap suc e
    go false e = e

module _ (clips file : List ℕ) (n : ℕ) (e : weighed clips start (fields_of file) ≡ Ok n) where
  whole_file : Whole file start
  whole_file = field_by_field clips file n (Whole file) (λ p h c. whole_none file p h) (λ p more h q ih. whole_some file clips p more h q ih) start e

  pub fields_whole : kept_fields file (ranges_of file) ≡ commands_in (fields_of file)
  fields_whole = rw (from_start file) at whole_file.fields

  pub none_dropped : any is_dropped (ranges_of file) ≡ false
  none_dropped = rw (from_start file) at whole_file.none

  pub range_each : length (ranges_of file) ≡ length (fields_of file)
  range_each = rw (from_start file) at whole_file.ranges

  few : n ≤ 4096
  few = field_by_field clips file n (λ p. p.count ≤ 4096 → n ≤ 4096) (λ p h c m. omega arith) (λ p more h q ih. few_some clips p more (field_at file p.at) n q ih) start e (omega arith)

  count : length (kept_fields file (ranges_of file)) ≡ n
  count = let c = records_count clips (fields_of file) start n e in let r = rows_commands clips (fields_of file) in rw fields_whole (omega arith)

pub undamaged : Undamaged
undamaged clips file room n s =
    let e = (done_read clips file room n (says_done (read_of clips file room) n s)).fine in
    (fields_whole clips file n e, count clips file n e, none_dropped clips file n e)

pub undamaged_done : UndamagedDone
undamaged_done clips file room n out list s o l =
    let e = (done_read clips file room n (says_done (read_of clips file room) n s)).fine in
    let c = count clips file n e in
    let m = few clips file n e in
    salvage_says file out list n (length (fresh file)) (length (ranges_of file)) (record { kept = sym c; bytes = refl; ranges = refl; few = omega arith; fits = o; listed = l })

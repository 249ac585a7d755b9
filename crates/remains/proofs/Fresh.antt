-- The fresh file's length and writing, and what each way through the call comes to. Assumes nothing.
use Prim.Native.Nat.{ℕ, ◌+◌, ◌/◌, ◌<◌, ◌≤◌}
use mathlib.Core.Path.{◌≡◌, refl, sym, ap, ◌∙◌}
use mathlib.Core.Bool.{Bool, true, false, cond}
use mathlib.Core.List.{List, ◌++◌}
use native.Mathlib.Omega.{arith}
use borrow.Author.Tests.{lt-ltb, le-ltb, ltb-false}
use lib.ListN.{length, length-append}
use lib.Seq.{sets}
use lib.Dec.{ltb}
use Rattle.fields.proofs.Writes.{two_writes}
use Rattle.tourfile.specs.declared.Fault.{Fault}
use Rattle.tourfile.specs.Writer.{version_bytes, last_bytes}
use Rattle.remains.specs.declared.Salvaged.{Salvaged}
use Rattle.remains.specs.Salvage.{SalvageAnswer}
use Rattle.std.specs.Prelude.{Ok, Err}
use Rattle.remains.specs.Salvage.{ranges_of, kept_fields, laid, file_with, fresh, range_words, salvage_of, salvage_out, salvage_list}

-- the file of some fields: its length, and how it is written
pub file_length : (fs : List (List ℕ)) → length (file_with fs) ≡ 10 + length (laid fs)
unfolding file_with
file_length fs = let l = length-append (laid fs) (last_bytes (length fs)) in omega arith

pub file_writes : (fs : List (List ℕ)) (l : List ℕ) → sets (sets (sets l 0 version_bytes) 5 (laid fs)) (5 + length (laid fs)) (last_bytes (length fs)) ≡ sets l 0 (file_with fs)
unfolding file_with
file_writes fs l =
    two_writes (laid fs) (last_bytes (length fs)) (sets l 0 version_bytes) 5 (5 + length (laid fs)) refl ∙ two_writes version_bytes (laid fs ++ last_bytes (length fs)) l 0 5 refl

-- each answer, and what it leaves
module _ (file out list : List ℕ) where
  abbrev Left : SalvageAnswer → List ℕ → List ℕ → Type 0
  Left a o l = (a ≡ salvage_of file (length out) (length list)) × (o ≡ salvage_out file out (length list)) × (l ≡ salvage_list file (length out) list)

  abbrev kept : List (List ℕ)
  kept = kept_fields file (ranges_of file)

  pub left_many : 4096 < length (kept_fields file (ranges_of file)) → Left (Err Fault.TooMany) out list
  unfolding salvage_of salvage_out salvage_list
  left_many h = let e = lt-ltb 4096 (length kept) h in (rw e refl, rw e refl, rw e refl)

  module _ (f : length (kept_fields file (ranges_of file)) ≤ 4096) where
    pub left_short : length out < 10 + length (laid (kept_fields file (ranges_of file))) → Left (Err Fault.OutputTooShort) out list
    unfolding salvage_of salvage_out salvage_list fresh
    left_short h =
        let e = le-ltb 4096 (length kept) f in
        let g = lt-ltb (length out) (length (file_with kept)) (rw (file_length kept) h) in
        (rw (e, g) refl, rw (e, g) refl, rw (e, g) refl)

    module _ (r : 10 + length (laid (kept_fields file (ranges_of file))) ≤ length out) where
      pub left_less : length list / 3 < length (ranges_of file) → Left (Err Fault.ListTooShort) out list
      unfolding salvage_of salvage_out salvage_list fresh
      left_less h =
          let e = le-ltb 4096 (length kept) f in
          let g = le-ltb (length out) (length (file_with kept)) (rw (file_length kept) r) in
          let k = lt-ltb (length list / 3) (length (ranges_of file)) h in
          (rw (e, g, k) refl, rw (e, g, k) refl, rw (e, g, k) refl)

      pub left_done : length (ranges_of file) ≤ length list / 3
          → Left (Ok (record { kept = length (kept_fields file (ranges_of file)); bytes = 10 + length (laid (kept_fields file (ranges_of file))); ranges = length (ranges_of file) }))
          (sets out 0 (fresh file)) (sets list 0 (range_words (ranges_of file)))
      unfolding salvage_of salvage_out salvage_list fresh
      left_done h =
          let e = le-ltb 4096 (length kept) f in
          let g = le-ltb (length out) (length (file_with kept)) (rw (file_length kept) r) in
          let k = le-ltb (length list / 3) (length (ranges_of file)) h in
          (rw (e, g, k, file_length kept) refl, rw (e, g, k) refl, rw (e, g, k) refl)

-- ---- a salvage that is done: what it counts, there are at most 4,096 commands, output and list have room

pub record Done (file : List ℕ) (room list : ℕ) (t : Salvaged) : Type 0 where
  pub kept : t.kept ≡ length (kept_fields file (ranges_of file))
  pub bytes : t.bytes ≡ length (fresh file)
  pub ranges : t.ranges ≡ length (ranges_of file)
  pub few : length (kept_fields file (ranges_of file)) ≤ 4096
  pub fits : length (fresh file) ≤ room
  pub listed : length (ranges_of file) ≤ list / 3

not_done : {x : Fault} {t : Salvaged} → ◌≡◌ {A = SalvageAnswer} (Err x) (Ok t) → ⊥
not_done e = let z : ◌≡◌ {A = ℕ} 0 1 = cc in absurd (omega arith)

pub done_salvage : (file : List ℕ) (room list : ℕ) (t : Salvaged) → salvage_of file room list ≡ Ok t → Done file room list t
unfolding salvage_of
done_salvage file room list t e = go (ltb 4096 (length (kept_fields file (ranges_of file)))) (ltb room (length (fresh file))) (ltb (list / 3) (length (ranges_of file))) refl refl refl e
  where
    told : Salvaged
    told = record { kept = length (kept_fields file (ranges_of file)); bytes = length (fresh file); ranges = length (ranges_of file) }

    go : (x y z : Bool) → ltb 4096 (length (kept_fields file (ranges_of file))) ≡ x → ltb room (length (fresh file)) ≡ y → ltb (list / 3) (length (ranges_of file)) ≡ z
        → cond x (Err Fault.TooMany) (cond y (Err Fault.OutputTooShort) (cond z (Err Fault.ListTooShort) (Ok told))) ≡ Ok t
        → Done file room list t
    go true y z f g h e = absurd (not_done e)
    go false true z f g h e = absurd (not_done e)
    go false false true f g h e = absurd (not_done e)
    go false false false f g h e =
        let same : ◌≡◌ {A = Salvaged} told t = cc in
        record {
          kept = sym (ap (λ (u : Salvaged). u.kept) same);
          bytes = sym (ap (λ (u : Salvaged). u.bytes) same);
          ranges = sym (ap (λ (u : Salvaged). u.ranges) same);
          few = ltb-false 4096 (length (kept_fields file (ranges_of file))) f;
          fits = ltb-false room (length (fresh file)) g;
          listed = ltb-false (list / 3) (length (ranges_of file)) h;
        }

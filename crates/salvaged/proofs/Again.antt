-- Salvaging a fresh file keeps everything. Assumes nothing.
use Prim.Native.Nat.{ℕ, ◌+◌, ◌≤◌}
use mathlib.Core.Path.{◌≡◌, refl, ap, ◌∙◌}
use mathlib.Core.List.{List, [], ◌∷◌, ◌++◌}
use mathlib.Core.Bool.{true, false}
use native.Mathlib.Omega.{arith}
use lib.ListN.{length, length-append}
use Rattle.laws.specs.Order.{any}
use Rattle.counts.specs.Below.{all_below}
use Rattle.fields.specs.Clips.{is_handle, is_listed}
use Rattle.fields.specs.Field.{number_in}
use Rattle.tourfile.specs.Writer.{last_bytes}
use Rattle.remains.specs.Salvage.{ranges_of, kept_fields, file_with, fresh}
use Rattle.remains.proofs.Runs.{kept_tag}
use Rattle.salvaged.specs.Salvaged.{is_dropped, commands_in, SalvagedAgain}
use Rattle.salvaged.proofs.Answers.{says_salvage_law, salvage_says, fresh_front}
use Rattle.salvaged.proofs.Beside.{fields_whole, none_dropped, range_each}
use Rattle.salvaged.proofs.Kept.{Kept, all_kept, fields_fresh}
use Rattle.salvaged.proofs.Accept.{weighed_fresh}

-- a list that has a handle for each clip byte
abbrev handles : List ℕ
handles =
    1 ∷ 2 ∷ 3 ∷ 4 ∷ 5 ∷ 6 ∷ 7 ∷ 8 ∷ 9 ∷ 10 ∷ 11 ∷ 12 ∷ 13 ∷ 14 ∷ 15 ∷ 16 ∷ 17 ∷ 18 ∷ 19 ∷ 20 ∷ 21 ∷ 22 ∷ 23 ∷ 24 ∷ 25 ∷ 26 ∷ 27 ∷ 28 ∷ 29 ∷ 30 ∷ 31 ∷ 32 ∷ []

all_listed : all_below 32 (is_listed handles) ≡ true
unfolding all_below is_listed is_handle
all_listed = refl

-- the commands among kept fields and a last one are the kept fields
commands_kept : (fs : List (List ℕ)) (c l n : ℕ) → Kept c l fs → commands_in (fs ++ (last_bytes n ∷ [])) ≡ fs
commands_kept [] c l n k = refl
commands_kept (f ∷ fs) c l n k =
    rw (kept_tag (record { at = 0; count = c; last = l }) f k.1) (ap (λ (gs : List (List ℕ)). f ∷ gs) (commands_kept fs (c + 1) (number_in f) n k.2))

module _ (file : List ℕ) (few : length (kept_fields file (ranges_of file)) ≤ 4096) where
  abbrev ks : List (List ℕ)
  ks = kept_fields file (ranges_of file)

  -- its kept fields are those that it was made of,
  same_fields : kept_fields (fresh file) (ranges_of (fresh file)) ≡ ks
  same_fields = fields_whole handles (fresh file) (length ks) (weighed_fresh handles file all_listed few) ∙ rw (fields_fresh file) (commands_kept ks 0 0 (length ks) (all_kept file))

  -- so that it gives itself
  same_file : fresh (fresh file) ≡ fresh file
  unfolding fresh
  same_file = ap file_with same_fields

  no_dropped : any is_dropped (ranges_of (fresh file)) ≡ false
  no_dropped = none_dropped handles (fresh file) (length ks) (weighed_fresh handles file all_listed few)

  -- a range for each of them, the first and the last field
  ranges_two : length (ranges_of (fresh file)) ≡ length ks + 2
  ranges_two =
      let a = length-append ks (last_bytes (length ks) ∷ []) in
      range_each handles (fresh file) (length ks) (weighed_fresh handles file all_listed few) ∙ rw (fields_fresh file) (omega arith)

pub salvaged_again : SalvagedAgain
salvaged_again file out list out2 list2 k b r s o l =
    let d = says_salvage_law file (length out) (length list) k b r s in
    let c = d.kept in
    let z = d.bytes in
    let n = ranges_two file d.few in
    let f = same_file file d.few in
    let y : length (fresh (fresh file)) ≡ length (fresh file) = ap length f in
    let e = same_fields file d.few in
    let q : length (kept_fields (fresh file) (ranges_of (fresh file))) ≡ length (kept_fields file (ranges_of file)) = ap length e in
    let m = d.few in
    let t = salvage_says (fresh file) (length out2) (length list2) k b (k + 2) (record {
      kept = omega arith;
      bytes = omega arith;
      ranges = omega arith;
      few = omega arith;
      fits = omega arith;
      listed = omega arith;
    }) in
    rw (fresh_front file out (length list) k b r s) (t, fresh_front (fresh file) out2 (length list2) k b (k + 2) t ∙ f, no_dropped file d.few)

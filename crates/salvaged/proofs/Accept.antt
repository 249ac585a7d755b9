-- The fresh file is accepted by the reader with every clip listed. Assumes nothing.
use Prim.Native.Nat.{ℕ, ◌+◌, ◌<◌, ◌≤◌}
use mathlib.Core.Path.{◌≡◌, refl, sym, ap, ◌∙◌}
use mathlib.Core.List.{List, [], ◌∷◌, ◌++◌, map}
use mathlib.Core.Bool.{Bool, true, false, ◌&&◌, not}
use native.Mathlib.Omega.{arith}
use borrow.Author.Tests.{ne_eqb, lt-leb, leb-false}
use lib.ListN.{length}
use lib.Dec.{leb, eqb}
use Rattle.std.specs.Prelude.{Ok}
use Rattle.counts.specs.Below.{all_below}
use Rattle.counts.proofs.Below.{all_at}
use Rattle.counts.proofs.Truth.{and_l, and_r, and_false_l, and_false_r, never, not_true}
use Rattle.timeline.specs.declared.Row.{Row}
use Rattle.fields.specs.Clips.{is_listed}
use Rattle.fields.specs.Field.{is_whole, fields_of, is_more, tag_of, number_in, kind_in, clip_in, has_clip}
use Rattle.tourfile.specs.declared.Progress.{Progress}
use Rattle.tourfile.specs.Answer.{says_tour}
use Rattle.tourfile.specs.Reader.{start, wrong_first, unknown_tag, wrong_length, other_version, unknown_kind, not_listed, not_rising, too_many, wrong_count, bytes_after, judged_of, behind, settled, turn_of, weighed, row_in, rows_in}
use Rattle.tourfile.specs.Writer.{last_bytes}
use Rattle.tourfile.proofs.Judging.{skip}
use Rattle.tourfile.proofs.Answers.{read_done}
use Rattle.roundtrip.proofs.Back.{fine_version, fine_last}
use Rattle.roundtrip.proofs.Calls.{read_front}
use Rattle.remains.specs.Salvage.{no_clip, is_valid, is_kept, ranges_of, kept_fields, fresh}
use Rattle.remains.proofs.Runs.{kept_tag}
use Rattle.salvaged.specs.Salvaged.{SalvagedThenRead}
use Rattle.salvaged.proofs.Answers.{says_salvage_law, fresh_front}
use Rattle.salvaged.proofs.Kept.{Kept, kept_anywhere, kept_whole, all_kept, fields_fresh}

-- ---- one kept field

module _ (clips : List ℕ) (g : all_below 32 (is_listed clips) ≡ true) (p : Progress) (more : Bool) (f : List ℕ) (h : 0 < p.at) (m : p.count < 4096) (k : is_kept p f ≡ true) where
  tag : tag_of f ≡ 2
  tag = kept_tag p f k

  -- what is valid has none of these faults
  valid : (not (wrong_length f) && (not (other_version f) && (not (unknown_kind f) && not (no_clip f)))) ≡ true
  unfolding is_kept is_valid
  valid = and_r (is_whole f) _ (and_l (is_valid f) (eqb (tag_of f) 2 && not (not_rising p f)) k)

  f_length : wrong_length f ≡ false
  f_length = not_true (wrong_length f) (and_l (not (wrong_length f)) _ valid)

  f_version : other_version f ≡ false
  f_version = not_true (other_version f) (and_l (not (other_version f)) _ (and_r (not (wrong_length f)) _ valid))

  f_known : unknown_kind f ≡ false
  f_known = not_true (unknown_kind f) (and_l (not (unknown_kind f)) (not (no_clip f)) (and_r (not (other_version f)) _ (and_r (not (wrong_length f)) _ valid)))

  f_clip : no_clip f ≡ false
  f_clip = not_true (no_clip f) (and_r (not (unknown_kind f)) (not (no_clip f)) (and_r (not (other_version f)) _ (and_r (not (wrong_length f)) _ valid)))

  -- one of the 32 is listed
  f_listed : not_listed clips f ≡ false
  unfolding not_listed no_clip
  f_listed = rw tag (go (has_clip (kind_in f)) (leb 32 (clip_in f)) refl (rw tag at f_clip))
    where
      go : (c b : Bool) → leb 32 (clip_in f) ≡ b → c && b ≡ false → c && not (is_listed clips (clip_in f)) ≡ false
      go true true e n = absurd (never n)
      go true false e n = rw (all_at (is_listed clips) 32 (clip_in f) g (leb-false 32 (clip_in f) e)) refl
      go false b e n = refl

  f_rising : not_rising p f ≡ false
  unfolding is_kept
  f_rising = not_true (not_rising p f) (and_r (eqb (tag_of f) 2) (not (not_rising p f)) (and_r (is_valid f) (eqb (tag_of f) 2 && not (not_rising p f)) k))

  -- it stands behind the first field, and is a command, one of 4,096 at most
  f_first : wrong_first p f ≡ false
  unfolding wrong_first
  f_first = let n : p.at ≡ 0 → ⊥ = λ z. omega arith in and_false_l (not (eqb (tag_of f) 1)) (ne_eqb p.at 0 n)

  f_tag : unknown_tag p f ≡ false
  unfolding unknown_tag
  f_tag = rw tag (and_false_r (not (eqb p.at 0)) refl)

  f_many : too_many p f ≡ false
  unfolding too_many
  f_many = rw (tag, lt-leb 4096 p.count m) refl

  f_count : wrong_count p f ≡ false
  unfolding wrong_count
  f_count = rw tag refl

  f_after : bytes_after more f ≡ false
  unfolding bytes_after
  f_after = rw tag refl

  fine_kept : (Ok tt) ≡ judged_of clips p more f
  unfolding judged_of
  fine_kept =
      skip _ _ _ _ (ap not (kept_whole p f k)) (skip _ _ _ _ f_first (skip _ _ _ _ f_tag (skip _ _ _ _ f_length (skip _ _ _ _ f_version (skip _ _ _ _ f_known
      (skip _ _ _ _ f_listed (skip _ _ _ _ f_rising (skip _ _ _ _ f_many (skip _ _ _ _ f_count (skip _ _ _ _ f_after refl))))))))))

-- ---- the fresh file

command_behind : (p : Progress) (f : List ℕ) → tag_of f ≡ 2 → behind p f ≡ record { at = p.at + length f; count = p.count + 1; last = number_in f }
unfolding behind
command_behind p f t = rw t refl

module _ (clips : List ℕ) where
  weighed_kept : (fs : List (List ℕ)) (p : Progress) (n : ℕ) → all_below 32 (is_listed clips) ≡ true → 0 < p.at → p.count + length fs ≡ n → n ≤ 4096 → Kept p.count p.last fs
      → weighed clips p (fs ++ (last_bytes n ∷ [])) ≡ Ok n
  unfolding weighed turn_of settled
  weighed_kept [] p n g h e m k = let c : n ≡ p.count = omega arith in rw (c, fine_last clips p h) refl
  weighed_kept (f ∷ fs) p n g h e m k =
      let i : is_kept p f ≡ true = kept_anywhere p (record { at = 0; count = p.count; last = p.last }) f refl refl ∙ k.1 in
      let j = fine_kept clips g p (is_more (fs ++ (last_bytes n ∷ []))) f h (omega arith) i in
      let t = kept_tag p f i in
      rw (← j, t, command_behind p f t) (weighed_kept fs (record { at = p.at + length f; count = p.count + 1; last = number_in f }) n g (omega arith) (omega arith) m k.2)

  -- it is accepted, with as many records as fields are kept,
  pub weighed_fresh : (file : List ℕ) → all_below 32 (is_listed clips) ≡ true → length (kept_fields file (ranges_of file)) ≤ 4096
      → weighed clips start (fields_of (fresh file)) ≡ Ok (length (kept_fields file (ranges_of file)))
  unfolding weighed turn_of settled behind
  weighed_fresh file g m =
      let ks : List (List ℕ) = kept_fields file (ranges_of file) in
      rw (fields_fresh file, fine_version clips (is_more (ks ++ (last_bytes (length ks) ∷ []))))
      (weighed_kept ks (record { at = 5; count = 0; last = 0 }) (length ks) g (omega arith) (omega arith) m (all_kept file))

  rows_kept : (fs : List (List ℕ)) (c l n : ℕ) → Kept c l fs → rows_in clips (fs ++ (last_bytes n ∷ [])) ≡ map (row_in clips) fs
  unfolding rows_in
  rows_kept [] c l n k = refl
  rows_kept (f ∷ fs) c l n k =
      rw (kept_tag (record { at = 0; count = c; last = l }) f k.1) (ap (λ (xs : List Row). row_in clips f ∷ xs) (rows_kept fs (c + 1) (number_in f) n k.2))

  -- and they are those of the kept fields
  rows_fresh : (file : List ℕ) → rows_in clips (fields_of (fresh file)) ≡ map (row_in clips) (kept_fields file (ranges_of file))
  unfolding rows_in
  rows_fresh file = rw (fields_fresh file) (rows_kept (kept_fields file (ranges_of file)) 0 0 (length (kept_fields file (ranges_of file))) (all_kept file))

pub salvaged_then_read : SalvagedThenRead
salvaged_then_read clips file out list records k b r s g u h =
    let d = says_salvage_law file (length out) (length list) k b r s in
    let w : weighed clips start (fields_of (fresh file)) ≡ Ok k = weighed_fresh clips file g d.few ∙ ap Ok (sym d.kept) in
    let e = read_done clips (fresh file) (length records) k (record { once = u; fine = w; fits = h }) in
    rw (fresh_front file out (length list) k b r s) (ap says_tour e, read_front clips (fresh file) records k e ∙ rows_fresh clips file)

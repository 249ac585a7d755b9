-- Reading what was written returns the same records. Assumes nothing.
use mathlib.Core.Path.{◌≡◌, refl, sym, ap, ap₂, ◌∙◌}
use mathlib.Core.Bool.{Bool, true, false, ◌&&◌, not}
use mathlib.Core.List.{List, [], ◌∷◌, ◌++◌, map, append-nil, append_assoc}
use Prim.Native.Nat.{ℕ, ◌+◌, ◌*◌, ◌/◌, ◌%◌, ◌<◌, ◌≤◌}
use native.Mathlib.Omega.{arith}
use borrow.Author.Tests.{eqb-false, eq-eqb, ne_eqb, le-ltb, le-leb, lt-leb}
use lib.ListN.{length, get_or, length-append}
use lib.Dec.{eqb}
use Rattle.std.specs.Prelude.{Ok}
use Rattle.counts.specs.Below.{within}
use Rattle.counts.proofs.Truth.{and_true, and_l, and_false_l, and_false_r, never}
use Rattle.timeline.specs.declared.Row.{Row}
use Rattle.timeline.specs.Record.{readable}
use Rattle.fields.specs.Bytes.{two, four_bytes, eight_bytes}
use Rattle.fields.specs.Clips.{is_listed, clip_byte}
use Rattle.fields.specs.Field.{is_whole, is_more, tag_of, clip_in, is_kind, first_part, second_part, part_size, carried, is_clip, has_clip, part_in, part_bytes}
use Rattle.fields.proofs.Places.{found_listed}
use Rattle.fields.proofs.Parts.{length_part, second_no_clip, clip_first, part_back, at_behind, part_behind}
use Rattle.tourfile.specs.declared.Progress.{Progress}
use Rattle.tourfile.specs.Answer.{first}
use Rattle.tourfile.specs.Reader.{start, wrong_first, unknown_tag, wrong_length, other_version, unknown_kind, not_listed, not_rising, too_many, wrong_count, bytes_after, judged_of, behind, settled, turn_of, weighed, row_in, rows_in}
use Rattle.tourfile.specs.Writer.{head_bytes, command_bytes, version_bytes, last_bytes, unlisted, late, records_weighed}
use Rattle.tourfile.proofs.Judging.{skip}
use Rattle.tourfile.proofs.Writes.{FineRecord, done_first, length_head}
use Rattle.roundtrip.specs.RoundTrip.{plain}
use Rattle.roundtrip.proofs.Written.{length_written, command_field, kind_written, frame_written, number_written}

-- ---- one command's record

module _ (clips : List ℕ) (x : Row) where
  abbrev one : List ℕ
  one = part_bytes clips (first_part x.kind) x.first

  abbrev other : List ℕ
  other = part_bytes clips (second_part x.kind) x.second

  first_written : (is_clip (first_part x.kind) ≡ true → clip_byte clips x.first ≡ 32 → ⊥)
      → part_in clips (first_part x.kind) (command_bytes clips x) 20 ≡ (plain x).first
  unfolding command_bytes plain
  first_written h =
      part_behind (head_bytes x) (one ++ other) clips (first_part x.kind) 20 (sym (length_head x)) ∙ part_back clips (first_part x.kind) x.first other h

  second_written : part_in clips (second_part x.kind) (command_bytes clips x) (20 + part_size (first_part x.kind)) ≡ (plain x).second
  unfolding command_bytes plain
  second_written =
      let l : 20 + part_size (first_part x.kind) ≡ length (head_bytes x ++ one) = let h = length_head x in let p = length_part clips (first_part x.kind) x.first in let a = length-append (head_bytes x) one in omega arith in
      let e : head_bytes x ++ (one ++ other) ≡ (head_bytes x ++ one) ++ other = sym (append_assoc (head_bytes x) one other) in
      let o : other ≡ other ++ [] = sym (append-nil other) in
      ap (λ (f : List ℕ). part_in clips (second_part x.kind) f (20 + part_size (first_part x.kind))) e
      ∙ part_behind (head_bytes x ++ one) other clips (second_part x.kind) (20 + part_size (first_part x.kind)) l
      ∙ ap (λ (f : List ℕ). part_in clips (second_part x.kind) f 0) o
      ∙ part_back clips (second_part x.kind) x.second [] (λ c. absurd (never (sym c ∙ second_no_clip x.kind)))

  row_back : unlisted clips x ≡ false → row_in clips (command_bytes clips x) ≡ plain x
  unfolding row_in plain unlisted has_clip
  row_back u =
      let listed : is_clip (first_part x.kind) ≡ true → clip_byte clips x.first ≡ 32 → ⊥ = λ c. eqb-false (clip_byte clips x.first) 32 (rw c at u) in
      rw (kind_written clips x) (λ i. record {
        at = frame_written clips x i;
        number = number_written clips x i;
        kind = x.kind;
        first = first_written listed i;
        second = second_written i;
      })

  -- ---- one command, judged

  tag_written : tag_of (command_bytes clips x) ≡ 2
  unfolding command_bytes head_bytes eight_bytes four_bytes
  tag_written = refl

  clip_written : has_clip x.kind ≡ true → clip_in (command_bytes clips x) ≡ clip_byte clips x.first
  unfolding command_bytes part_bytes
  clip_written h =
      let e : 20 ≡ length (head_bytes x) + 0 = let l = length_head x in omega arith in
      rw (clip_first x.kind h) (ap (λ (n : ℕ). get_or (head_bytes x ++ ((clip_byte clips x.first ∷ []) ++ other)) n 0) e ∙ at_behind (head_bytes x) ((clip_byte clips x.first ∷ []) ++ other) 0)

module _ (clips : List ℕ) (p : Progress) (more : Bool) (x : Row) (h : 0 < p.at) (m : p.count < 4096) (g : FineRecord clips p.count p.last x) where
  f_whole : not (is_whole (command_bytes clips x)) ≡ false
  unfolding is_whole
  f_whole =
      let c = command_field clips x in
      let a = c.head in
      let b = c.all in
      ap not (and_true (le-leb 3 (length (command_bytes clips x)) a) (le-leb (3 + two (command_bytes clips x) 1) (length (command_bytes clips x)) (omega arith)))

  f_kind : is_kind x.kind ≡ true
  unfolding readable
  f_kind = and_l (within 1 10 x.kind) _ g.reads

  f_first : wrong_first p (command_bytes clips x) ≡ false
  unfolding wrong_first
  f_first = let n : p.at ≡ 0 → ⊥ = λ z. omega arith in and_false_l (not (eqb (tag_of (command_bytes clips x)) 1)) (ne_eqb p.at 0 n)

  f_tag : unknown_tag p (command_bytes clips x) ≡ false
  unfolding unknown_tag
  f_tag = rw (tag_written clips x) (and_false_r (not (eqb p.at 0)) refl)

  f_length : wrong_length (command_bytes clips x) ≡ false
  unfolding wrong_length
  f_length =
      rw (tag_written clips x, length_written clips x, kind_written clips x, le-ltb (17 + carried x.kind) 17 (omega arith), eq-eqb (17 + carried x.kind) (17 + carried x.kind) refl)
      (and_false_r (is_kind x.kind) refl)

  f_version : other_version (command_bytes clips x) ≡ false
  unfolding other_version
  f_version = rw (tag_written clips x) refl

  f_known : unknown_kind (command_bytes clips x) ≡ false
  unfolding unknown_kind
  f_known = rw (tag_written clips x, kind_written clips x, f_kind) refl

  f_listed : not_listed clips (command_bytes clips x) ≡ false
  unfolding not_listed unlisted
  f_listed = rw (tag_written clips x, kind_written clips x) (go (has_clip x.kind) refl g.listed)
    where
      go : (b : Bool) → has_clip x.kind ≡ b → (b && eqb (clip_byte clips x.first) 32) ≡ false → (b && not (is_listed clips (clip_in (command_bytes clips x)))) ≡ false
      go true e w = let n : clip_byte clips x.first ≡ 32 → ⊥ = eqb-false (clip_byte clips x.first) 32 w in rw (clip_written clips x e, found_listed clips x.first n) refl
      go false e w = refl

  f_rising : not_rising p (command_bytes clips x) ≡ false
  unfolding not_rising late
  f_rising = rw (tag_written clips x, number_written clips x) g.rises

  f_many : too_many p (command_bytes clips x) ≡ false
  unfolding too_many
  f_many = rw (tag_written clips x, lt-leb 4096 p.count m) refl

  f_count : wrong_count p (command_bytes clips x) ≡ false
  unfolding wrong_count
  f_count = rw (tag_written clips x) refl

  f_after : bytes_after more (command_bytes clips x) ≡ false
  unfolding bytes_after
  f_after = rw (tag_written clips x) refl

  fine_command : (Ok tt) ≡ judged_of clips p more (command_bytes clips x)
  unfolding judged_of
  fine_command =
      skip _ _ _ _ f_whole (skip _ _ _ _ f_first (skip _ _ _ _ f_tag (skip _ _ _ _ f_length (skip _ _ _ _ f_version (skip _ _ _ _ f_known
      (skip _ _ _ _ f_listed (skip _ _ _ _ f_rising (skip _ _ _ _ f_many (skip _ _ _ _ f_count (skip _ _ _ _ f_after refl))))))))))

-- ---- the version and the count

pub fine_version : (clips : List ℕ) (more : Bool) → judged_of clips start more version_bytes ≡ (Ok tt)
unfolding judged_of first is_whole two wrong_first unknown_tag wrong_length other_version unknown_kind not_listed not_rising too_many wrong_count bytes_after
fine_version clips more = refl

pub fine_last : (clips : List ℕ) (p : Progress) → 0 < p.at → judged_of clips p false (last_bytes p.count) ≡ (Ok tt)
unfolding judged_of first is_whole two wrong_first unknown_tag wrong_length other_version unknown_kind not_listed not_rising too_many wrong_count bytes_after
fine_last clips p h =
    let n : p.at ≡ 0 → ⊥ = λ z. omega arith in
    let e : p.count % 256 + 256 * (p.count / 256) ≡ p.count = omega arith in
    rw (ne_eqb p.at 0 n, e, eq-eqb p.count p.count refl) refl

-- ---- the whole file

command_behind : (clips : List ℕ) (p : Progress) (x : Row) → behind p (command_bytes clips x) ≡ record { at = p.at + length (command_bytes clips x); count = p.count + 1; last = x.number }
unfolding behind
command_behind clips p x = rw (tag_written clips x, number_written clips x) refl

module _ (clips : List ℕ) where
  weighed_tail : (xs : List Row) (p : Progress) (n : ℕ) → 0 < p.at → p.count + length xs ≡ n → n ≤ 4096 → records_weighed clips p.count p.last xs ≡ Ok n
      → weighed clips p (map (command_bytes clips) xs ++ (last_bytes n ∷ [])) ≡ Ok n
  unfolding weighed turn_of settled
  weighed_tail [] p n h e m w = let c : n ≡ p.count = omega arith in rw (c, fine_last clips p h) refl
  weighed_tail (x ∷ xs) p n h e m w =
      let q = done_first clips p.count p.last n x xs w in
      let j = fine_command clips p (is_more (map (command_bytes clips) xs ++ (last_bytes n ∷ []))) x h (omega arith) q.0 in
      let l = (command_field clips x).head in
      let b = command_behind clips p x in
      rw (← j, tag_written clips x, b) (weighed_tail xs (record { at = p.at + length (command_bytes clips x); count = p.count + 1; last = x.number }) n (omega arith) (omega arith) m q.1)

  rows_tail : (xs : List Row) (i before m n : ℕ) → records_weighed clips i before xs ≡ Ok m → rows_in clips (map (command_bytes clips) xs ++ (last_bytes n ∷ [])) ≡ map plain xs
  unfolding rows_in
  rows_tail [] i before m n w = refl
  rows_tail (x ∷ xs) i before m n w =
      let q = done_first clips i before m x xs w in
      rw (tag_written clips x) (ap₂ ◌∷◌ (row_back clips x q.0.listed) (rows_tail xs (i + 1) x.number m n q.1))

  -- what was written is read, where no record was at fault and there were at most 4,096
  module _ (xs : List Row) (w : records_weighed clips 0 0 xs ≡ Ok (length xs)) where
    abbrev written : List (List ℕ)
    written = version_bytes ∷ (map (command_bytes clips) xs ++ (last_bytes (length xs) ∷ []))

    pub read_back : length xs ≤ 4096 → weighed clips start written ≡ Ok (length xs)
    unfolding weighed turn_of settled behind
    read_back m =
        rw (fine_version clips (is_more (map (command_bytes clips) xs ++ (last_bytes (length xs) ∷ [])))) (weighed_tail xs (record { at = 5; count = 0; last = 0 }) (length xs) (omega arith) (omega arith) m w)

    pub rows_back : rows_in clips written ≡ map plain xs
    unfolding rows_in
    rows_back = rows_tail xs 0 0 (length xs) (length xs) w

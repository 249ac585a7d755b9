-- Writing what was read gives the same file. Assumes nothing.
use mathlib.Core.Path.{◌≡◌, refl, sym, ap, ap₂, ◌∙◌}
use mathlib.Core.Logic.{⊎_elim}
use mathlib.Core.Bool.{Bool, true, false, ◌&&◌, ◌||◌, not, cond}
use mathlib.Core.List.{List, [], ◌∷◌, ◌++◌, append_assoc}
use Prim.Native.Nat.{ℕ, zero, suc, ◌+◌, ◌<◌, ◌≤◌, ◌^◌}
use native.Mathlib.Omega.{arith}
use native.Mathlib.Nat.{zero-add}
use borrow.Author.Tests.{eqb-true, ne_eqb, lt-ltb, ltb-true, ltb-false, leb-false, not-false}
use lib.ListN.{length, get_or, take, drop, length-drop, take-append-drop}
use lib.Seq.{take_all, drop-cons}
use lib.Dec.{leb, ltb, eqb}
use Rattle.std.specs.Prelude.{Ok, Err}
use Rattle.std.proofs.Common.{Break, Continue}
use Rattle.laws.specs.Order.{all, any}
use Rattle.counts.proofs.Truth.{and_true, and_l, and_r, or_none, lt_or_le, never}
use Rattle.timeline.specs.Record.{readable}
use Rattle.fields.specs.Bytes.{two, four, two_bytes, eight_bytes}
use Rattle.fields.specs.Clips.{listed_twice, is_listed, clip_byte}
use Rattle.fields.specs.Field.{is_whole, piece_size, fields_of, tag_of, frame_in, number_in, kind_in, clip_in, is_kind, first_part, second_part, part_size, carried, has_clip, part_in, part_bytes}
use Rattle.fields.proofs.Fields.{piece_some, front_length, fields_none, fields_front, Field}
use Rattle.fields.proofs.Numbers.{two_part, four_small, two_left, eight_left, part}
use Rattle.fields.proofs.Places.{clip_back}
use Rattle.fields.proofs.Parts.{second_no_clip, clip_first, part_same}
use Rattle.tourfile.specs.Answer.{Judged}
use Rattle.tourfile.specs.declared.Progress.{Progress}
use Rattle.tourfile.specs.Reader.{Turn, start, wrong_first, unknown_tag, other_version, unknown_kind, not_listed, not_rising, too_many, wrong_count, bytes_after, judged_of, behind, settled, turn_of, or_else, weighed, row_in, rows_in}
use Rattle.tourfile.specs.Writer.{head_bytes, command_bytes, version_bytes, last_bytes, tail_bytes, unlisted, late, record_judged_of, records_weighed, file_of}
use Rattle.tourfile.specs.Steps.{front_turn}
use Rattle.tourfile.proofs.Judging.{skip, not_done}
use Rattle.tourfile.proofs.Passed.{Passed, fine_passed}
use Rattle.tourfile.proofs.Turns.{weighed_front, records_count}
use Rattle.roundtrip.specs.RoundTrip.{is_byte, is_skipped}
use Rattle.roundtrip.proofs.Front.{command_size, short_size, front_field}

-- ---- bytes

byte_at : (l : List ℕ) → all is_byte l ≡ true → (i : ℕ) → get_or l i 0 < 256
byte_at [] e i = omega arith
byte_at (x ∷ l) e zero = ltb-true x 256 (and_l (ltb x 256) (all is_byte l) e)
byte_at (x ∷ l) e (suc i) = byte_at l (and_r (ltb x 256) (all is_byte l) e) i

bytes_take : (n : ℕ) (l : List ℕ) → all is_byte l ≡ true → all is_byte (take n l) ≡ true
bytes_take zero l e = refl
bytes_take (suc n) [] e = refl
bytes_take (suc n) (x ∷ l) e = and_true (and_l (ltb x 256) (all is_byte l) e) (bytes_take n l (and_r (ltb x 256) (all is_byte l) e))

bytes_drop : (n : ℕ) (l : List ℕ) → all is_byte l ≡ true → all is_byte (drop n l) ≡ true
bytes_drop zero l e = e
bytes_drop (suc n) [] e = refl
bytes_drop (suc n) (x ∷ l) e = bytes_drop n l (and_r (ltb x 256) (all is_byte l) e)

-- ---- one field

module _ (f : List ℕ) (small : (i : ℕ) → get_or f i 0 < 256) where
  -- tag, length and the rest
  framed : 3 ≤ length f → tag_of f ∷ (two_bytes (two f 1) ++ drop 3 f) ≡ f
  framed h = ap (λ (l : List ℕ). tag_of f ∷ l) (two_left f small 1 (omega arith)) ∙ sym (drop-cons f 0 0 (omega arith))

  -- a field of two bytes
  short_same : (v : ℕ) → Field f → two f 1 ≡ 2 → two f 3 ≡ v → tag_of f ∷ (two_bytes 2 ++ two_bytes v) ≡ f
  short_same v g s e =
      let a = g.all in
      let d : two_bytes (two f 3) ≡ drop 3 f = two_part f small 3 (omega arith) ∙ take_all 2 (drop 3 f) (rw length-drop (omega arith)) in
      let m : tag_of f ∷ (two_bytes (two f 1) ++ two_bytes (two f 3)) ≡ f = ap (λ (l : List ℕ). tag_of f ∷ (two_bytes (two f 1) ++ l)) d ∙ framed g.head in
      rw (s, e) at m

  module _ (clips : List ℕ) (p : Progress) (more : Bool) (q : Passed clips p more f) (g : Field f) where
    version_same : tag_of f ≡ 1 → version_bytes ≡ f
    unfolding other_version
    version_same t =
        let h : not (eqb (two f 3) 1) ≡ false = rw t at q.version in
        rw t at (short_same 1 g (short_size f 1 refl refl t q.size) (eqb-true (two f 3) 1 (not-false (eqb (two f 3) 1) h)))

    last_same : tag_of f ≡ 3 → last_bytes p.count ≡ f
    unfolding wrong_count
    last_same t =
        let h : not (eqb (two f 3) p.count) ≡ false = rw t at q.count in
        rw t at (short_same p.count g (short_size f 3 refl refl t q.size) (eqb-true (two f 3) p.count (not-false (eqb (two f 3) p.count) h)))

  -- ---- a command

  module _ (clips : List ℕ) (p : Progress) (more : Bool) (q : Passed clips p more f) (t : tag_of f ≡ 2) where
    q_kind : is_kind (kind_in f) ≡ true
    unfolding unknown_kind
    q_kind = let h : not (is_kind (kind_in f)) ≡ false = rw t at q.kind in not-false (is_kind (kind_in f)) h

    q_size : two f 1 ≡ 17 + carried (kind_in f)
    q_size = command_size f t q.size q_kind

    q_listed : has_clip (kind_in f) ≡ true → is_listed clips (clip_in f) ≡ true
    unfolding not_listed
    q_listed c = let h : not (is_listed clips (clip_in f)) ≡ false = rw (t, c) at q.clip in not-false (is_listed clips (clip_in f)) h

    q_few : p.count < 4096
    unfolding too_many
    q_few = let h : leb 4096 p.count ≡ false = rw t at q.few in leb-false 4096 p.count h

    -- its record is readable
    record_readable : readable (row_in clips f) ≡ true
    unfolding readable row_in part_in first_part second_part
    record_readable = and_true q_kind (go (eqb (kind_in f) 8) refl)
      where
        ten : (b : Bool) → eqb (kind_in f) 10 ≡ b → cond b (ltb (part_in clips (second_part (kind_in f)) f (20 + part_size (first_part (kind_in f)))) (2 ^ 32)) true ≡ true
        ten true e = let j : kind_in f ≡ 10 = eqb-true (kind_in f) 10 e in rw j (lt-ltb (four f 21) (2 ^ 32) (four_small f small 21))
        ten false e = refl

        go : (b : Bool) → eqb (kind_in f) 8 ≡ b
            → cond b (ltb (part_in clips (first_part (kind_in f)) f 20) (2 ^ 32)) (cond (eqb (kind_in f) 10) (ltb (part_in clips (second_part (kind_in f)) f (20 + part_size (first_part (kind_in f)))) (2 ^ 32)) true) ≡ true
        go true e = let j : kind_in f ≡ 8 = eqb-true (kind_in f) 8 e in rw j (lt-ltb (four f 20) (2 ^ 32) (four_small f small 20))
        go false e = ten (eqb (kind_in f) 10) refl

    module _ (u : listed_twice clips ≡ false) where
      -- what it carries is that of its record,
      carried_back : length f ≡ 20 + carried (kind_in f)
          → part_bytes clips (first_part (kind_in f)) (part_in clips (first_part (kind_in f)) f 20) ++ part_bytes clips (second_part (kind_in f)) (part_in clips (second_part (kind_in f)) f (20 + part_size (first_part (kind_in f))))
          ≡ drop 20 f
      unfolding carried has_clip
      carried_back h =
          let a : ℕ = part_size (first_part (kind_in f)) in
          let b : ℕ = part_size (second_part (kind_in f)) in
          ap₂ (λ (x y : List ℕ). x ++ y) (part_same clips f small u (first_part (kind_in f)) 20 (omega arith) q_listed)
          (part_same clips f small u (second_part (kind_in f)) (20 + a) (omega arith) (λ c. absurd (never (sym c ∙ second_no_clip (kind_in f)))))
          ∙ sym (part f small 20 a b) ∙ take_all (a + b) (drop 20 f) (rw length-drop (omega arith))

      head_list : (z : List ℕ) → z ≡ drop 20 f → 20 ≤ length f
          → 2 ∷ (two_bytes (17 + carried (kind_in f)) ++ (eight_bytes (frame_in f) ++ (eight_bytes (number_in f) ++ (kind_in f ∷ z)))) ≡ f
      head_list z e h =
          let k : kind_in f ∷ drop 20 f ≡ drop 19 f = sym (drop-cons f 19 0 (omega arith)) in
          let m : 2 ∷ (two_bytes (17 + carried (kind_in f)) ++ drop 3 f) ≡ f = rw (t, q_size) at (framed (omega arith)) in
          rw (e, k, eight_left f small 11 (omega arith), eight_left f small 3 (omega arith)) m

      command_list : (s a b z : List ℕ) (k : ℕ) → ((2 ∷ s) ++ (a ++ (b ++ (k ∷ [])))) ++ z ≡ 2 ∷ (s ++ (a ++ (b ++ (k ∷ z))))
      command_list s a b z k =
          ap (λ (l : List ℕ). 2 ∷ l) (append_assoc s (a ++ (b ++ (k ∷ []))) z ∙ ap (λ (l : List ℕ). s ++ l) (append_assoc a (b ++ (k ∷ [])) z ∙ ap (λ (l : List ℕ). a ++ l) (append_assoc b (k ∷ []) z)))

      -- and so are all its bytes
      command_same : Field f → command_bytes clips (row_in clips f) ≡ f
      unfolding command_bytes head_bytes row_in
      command_same g =
          let a = g.all in
          let s = q_size in
          let l : length f ≡ 20 + carried (kind_in f) = omega arith in
          command_list (two_bytes (17 + carried (kind_in f))) (eight_bytes (frame_in f)) (eight_bytes (number_in f)) _ (kind_in f) ∙ head_list _ (carried_back l) (omega arith)

      q_unlisted : unlisted clips (row_in clips f) ≡ false
      unfolding unlisted row_in part_in
      q_unlisted = go (has_clip (kind_in f)) refl
        where
          go : (b : Bool) → has_clip (kind_in f) ≡ b → b && eqb (clip_byte clips (part_in clips (first_part (kind_in f)) f 20)) 32 ≡ false
          go true e =
              let r = clip_back clips (clip_in f) u (q_listed e) in
              let l = r.0 in
              let n : clip_in f ≡ 32 → ⊥ = λ z. omega arith in
              rw (clip_first (kind_in f) e, r.1) (ne_eqb (clip_in f) 32 n)
          go false e = refl

      q_late : late p.count p.last (row_in clips f) ≡ false
      unfolding late row_in not_rising
      q_late = rw t at q.rising

      record_fine : (Ok tt) ≡ record_judged_of clips p.count p.last (row_in clips f)
      unfolding record_judged_of
      record_fine = skip _ _ _ _ (ap not record_readable) (skip _ _ _ _ q_unlisted (skip _ _ _ _ q_late refl))

-- ---- the whole file

-- where nothing is left, the last field is not there
no_field : (clips : List ℕ) (n : ℕ) (p : Progress) (rest : List ℕ) → length rest ≡ 0 → weighed clips p (fields_of rest) ≡ Ok n → ⊥
unfolding weighed
no_field clips n p rest z e = not_done (rw (fields_none rest z) at e)

module _ (clips : List ℕ) (n : ℕ) (u : listed_twice clips ≡ false) where
  -- what is left of a file with no skipped tags is the rest of the file that is written
  pub record Same (p : Progress) (rest : List ℕ) : Type 0 where
    pub bytes : tail_bytes clips n (rows_in clips (fields_of rest)) ≡ rest
    pub fine : records_weighed clips p.count p.last (rows_in clips (fields_of rest)) ≡ Ok n
    pub few : n ≤ 4096

  module _ (p : Progress) (rest : List ℕ) (h : 0 < length rest) (b : all is_byte rest ≡ true) where
    abbrev f : List ℕ
    f = take (piece_size rest) rest

    abbrev later : List ℕ
    later = drop (piece_size rest) rest

    abbrev more : Bool
    more = ltb (piece_size rest) (length rest)

    small : (i : ℕ) → get_or (take (piece_size rest) rest) i 0 < 256
    small i = byte_at (take (piece_size rest) rest) (bytes_take (piece_size rest) rest b) i

    module _ (q : Passed clips p more f) where
      is_field : Field f
      is_field = front_field rest (not-false (is_whole f) q.whole)

      -- a command in front
      command_step : tag_of f ≡ 2 → Same (record { at = p.at + length f; count = p.count + 1; last = number_in f }) later → Same p rest
      unfolding rows_in tail_bytes records_weighed row_in
      command_step t ih =
          let e : rows_in clips (fields_of rest) ≡ row_in clips f ∷ rows_in clips (fields_of later) = rw (fields_front rest h, t) refl in
          let j = record_fine f small clips p more q t u in
          record {
            bytes = rw e (ap₂ (λ (x y : List ℕ). x ++ y) (command_same f small clips p more q t u is_field) ih.bytes ∙ take-append-drop (piece_size rest) rest);
            fine = rw (e, ← j) ih.fine;
            few = ih.few;
          }

      -- the last field
      last_step : tag_of f ≡ 3 → p.count ≡ n → p.count ≤ 4096 → Same p rest
      unfolding rows_in tail_bytes records_weighed bytes_after
      last_step t c m =
          let a : more ≡ false = rw t at q.after in
          let l : length rest ≤ piece_size rest = ltb-false (piece_size rest) (length rest) a in
          let z : length later ≡ 0 = rw length-drop (omega arith) in
          let e : rows_in clips (fields_of rest) ≡ [] = rw (fields_front rest h, t, fields_none later z) refl in
          record {
            bytes = rw e (ap last_bytes (sym c) ∙ last_same f small clips p more q is_field t ∙ take_all (piece_size rest) rest l);
            fine = rw e (ap Ok c);
            few = omega arith;
          }

    not_skipped : any is_skipped (fields_of rest) ≡ false → (is_skipped f ≡ false) × (any is_skipped (fields_of later) ≡ false)
    not_skipped e =
        let g : is_skipped f || any is_skipped (fields_of later) ≡ false = rw (fields_front rest h) at e in
        or_none (is_skipped f) (any is_skipped (fields_of later)) g

    -- behind the first field there is no other that is not skipped
    no_other : Passed clips p more f → 0 < p.at → is_skipped f ≡ false → eqb (tag_of f) 2 ≡ false → eqb (tag_of f) 3 ≡ false → ⊥
    unfolding unknown_tag
    no_other q at k t2 t3 =
        let z : p.at ≡ 0 → ⊥ = λ z. omega arith in
        let s : leb 128 (tag_of f) ≡ false = k in
        let x : true ≡ false = rw (ne_eqb p.at 0 z, t2, t3, s) at q.tag in
        never x

    tail_step : ((r : Progress) → 0 < r.at → r.count ≤ 4096 → weighed clips r (fields_of later) ≡ Ok n → Same r later)
        → 0 < p.at → p.count ≤ 4096 → is_skipped f ≡ false → weighed clips p (fields_of rest) ≡ Ok n → Same p rest
    unfolding front_turn turn_of settled behind
    tail_step ih at c k e = go (judged_of clips p more f) refl (sym (weighed_front clips p rest h) ∙ e)
      where
        on : (x : Bool) → eqb (tag_of f) 2 ≡ x → eqb (tag_of f) 3 ≡ false → Passed clips p more f
            → weighed clips (cond x (record { at = p.at + length f; count = p.count + 1; last = number_in f }) (record { at = p.at + length f; count = p.count; last = p.last })) (fields_of later) ≡ Ok n → Same p rest
        on true t t3 q e =
            let t2 : tag_of f ≡ 2 = eqb-true (tag_of f) 2 t in
            let l = q_few f small clips p more q t2 in
            command_step q t2 (ih (record { at = p.at + length f; count = p.count + 1; last = number_in f }) (omega arith) (omega arith) e)
        on false t t3 q e = absurd (no_other q at k t t3)

        pick : (x : Bool) → eqb (tag_of f) 3 ≡ x → Passed clips p more f
            → or_else (cond {A = Turn} x (Break (Ok p.count)) (Continue (behind p f))) (λ r. weighed clips r (fields_of later)) ≡ Ok n → Same p rest
        pick true t q e =
            let m : p.count ≡ n = cc in
            last_step q (eqb-true (tag_of f) 3 t) m c
        pick false t q e = on (eqb (tag_of f) 2) refl t q e

        go : (j : Judged) → judged_of clips p more f ≡ j → or_else (settled j p f) (λ r. weighed clips r (fields_of later)) ≡ Ok n → Same p rest
        go (Err x) j e = absurd (not_done e)
        go (Ok u) j e = pick (eqb (tag_of f) 3) refl (fine_passed clips p more f j) e

    -- the first field of a file is the version's
    first_step : p ≡ start → weighed clips p (fields_of rest) ≡ Ok n
        → (version_bytes ≡ f) × (tag_of f ≡ 1) × (weighed clips (record { at = length f; count = 0; last = 0 }) (fields_of later) ≡ Ok n)
    unfolding front_turn turn_of settled behind wrong_first
    first_step s e = go (judged_of clips p more f) refl (sym (weighed_front clips p rest h) ∙ e)
      where
        go : (j : Judged) → judged_of clips p more f ≡ j → or_else (settled j p f) (λ r. weighed clips r (fields_of later)) ≡ Ok n
            → (version_bytes ≡ f) × (tag_of f ≡ 1) × (weighed clips (record { at = length f; count = 0; last = 0 }) (fields_of later) ≡ Ok n)
        go (Err x) j e = absurd (not_done e)
        go (Ok u) j e =
            let q : Passed clips p more f = fine_passed clips p more f j in
            let o : not (eqb (tag_of f) 1) ≡ false = rw s at q.opens in
            let t : tag_of f ≡ 1 = eqb-true (tag_of f) 1 (not-false (eqb (tag_of f) 1) o) in
            let w : weighed clips (record { at = 0 + length f; count = 0; last = 0 }) (fields_of later) ≡ Ok n = rw (t, s) at e in
            (version_same f small clips p more q (is_field q) t, t, rw (zero-add (length f)) at w)

  tail_back : (k : ℕ) (p : Progress) (rest : List ℕ) → length rest ≤ k → 0 < p.at → p.count ≤ 4096 → all is_byte rest ≡ true → any is_skipped (fields_of rest) ≡ false
      → weighed clips p (fields_of rest) ≡ Ok n → Same p rest
  tail_back zero p rest l at c b s e = absurd (no_field clips n p rest (omega arith) e)
  tail_back (suc k) p rest l at c b s e =
      ⊎_elim
      (λ (h : 0 < length rest).
      let x = not_skipped p rest h b s in
      let y = piece_some rest h in
      tail_step p rest h b (λ r rat rc re. tail_back k r (drop (piece_size rest) rest) (simp length-drop (omega arith)) rat rc (bytes_drop (piece_size rest) rest b) x.1 re) at c x.0 e)
      (λ (h : length rest ≤ 0). absurd (no_field clips n p rest (omega arith) e)) (lt_or_le 0 (length rest))

-- what an accepted file says of the file that its records give
module _ (clips file : List ℕ) (n : ℕ) (b : all is_byte file ≡ true) (u : listed_twice clips ≡ false) (e : weighed clips start (fields_of file) ≡ Ok n) (s : any is_skipped (fields_of file) ≡ false) where
  some_file : 0 < length file
  some_file = ⊎_elim (λ (h : 0 < length file). h) (λ (h : length file ≤ 0). absurd (no_field clips n start file (omega arith) e)) (lt_or_le 0 (length file))

  abbrev behind_first : List ℕ
  behind_first = drop (piece_size file) file

  same_later : Same clips n u (record { at = length (take (piece_size file) file); count = 0; last = 0 }) behind_first
  same_later =
      let v = first_step clips n u start file some_file b refl e in
      let l = front_length file in
      let m = piece_some file some_file in
      tail_back clips n u (length behind_first) (record { at = length (take (piece_size file) file); count = 0; last = 0 }) behind_first (omega arith) (omega arith) (omega arith) (bytes_drop (piece_size file) file b) (not_skipped clips n u start file some_file b s).1 v.2

  rows_later : rows_in clips (fields_of file) ≡ rows_in clips (fields_of behind_first)
  unfolding rows_in
  rows_later = let t = (first_step clips n u start file some_file b refl e).1 in rw (fields_front file some_file, t) refl

  pub file_same : file_of clips (rows_in clips (fields_of file)) ≡ file
  unfolding file_of
  file_same =
      let c = records_count clips (fields_of file) start n e in
      let k : length (rows_in clips (fields_of file)) ≡ n = omega arith in
      let v = (first_step clips n u start file some_file b refl e).0 in
      let t : tail_bytes clips (length (rows_in clips (fields_of file))) (rows_in clips (fields_of file)) ≡ behind_first = rw (k, rows_later) same_later.bytes in
      ap₂ (λ (x y : List ℕ). x ++ y) v t ∙ take-append-drop (piece_size file) file

  pub records_fine : (records_weighed clips 0 0 (rows_in clips (fields_of file)) ≡ Ok n) × (n ≤ 4096)
  records_fine = (rw rows_later same_later.fine, same_later.few)

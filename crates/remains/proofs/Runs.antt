-- A place and what is done there; bytes that are dropped side by side, one at a time. Assumes nothing.
use Prim.Native.Nat.{ℕ, zero, suc, ◌+◌, ◌-◌, ◌<◌, ◌≤◌}
use mathlib.Core.Path.{◌≡◌, refl, sym, ap, ◌∙◌}
use mathlib.Core.Logic.{⊎_elim}
use mathlib.Core.List.{List}
use mathlib.Core.Bool.{Bool, true, false, ◌&&◌, ◌||◌, not, cond}
use native.Mathlib.Omega.{arith}
use borrow.Author.Tests.{eqb-true, ne_eqb, lt-ltb, le-ltb, ltb-true}
use lib.ListN.{length, take, drop, length-drop}
use lib.Dec.{leb, ltb, eqb}
use Rattle.counts.proofs.Truth.{and_l, and_r, lt_or_le, never, two_ways}
use Rattle.fields.specs.Field.{piece_size, tag_of, number_in}
use Rattle.fields.proofs.Fields.{piece_within, piece_some, front_length, part_whole}
use Rattle.tourfile.specs.declared.Progress.{Progress}
use Rattle.tourfile.specs.Reader.{not_rising, behind}
use Rattle.tourfile.proofs.Turns.{behind_at}
use Rattle.remains.specs.Salvage.{keeps, drops, is_valid, is_kept, is_passed, field_at, what, byte_on}
use Rattle.remains.specs.declared.Fate.{Fate}
use Rattle.remains.specs.Steps.{run_end, next}
use Rattle.remains.proofs.Fates.{keeps-true, keeps-false, drops-true, drops-false, drops-other}

-- what is not valid is dropped, and so is what is neither kept nor passed over
module _ (file : List ℕ) (p : Progress) (f : List ℕ) (g : f ≡ field_at file p.at) where
  pub what_invalid : is_valid f ≡ false → what file p ≡ Fate.Dropped
  unfolding what is_kept is_passed
  what_invalid v = rw (← g, v) refl

  module _ (v : is_valid f ≡ true) where
    pub what_rises : eqb (tag_of f) 2 && not (not_rising p f) ≡ true → what file p ≡ Fate.Kept
    unfolding what is_kept
    what_rises k = rw (← g, v, k) refl

    module _ (k : eqb (tag_of f) 2 && not (not_rising p f) ≡ false) where
      pub what_other : eqb (tag_of f) 1 || eqb (tag_of f) 3 || leb 128 (tag_of f) ≡ true → what file p ≡ Fate.Passed
      unfolding what is_kept is_passed
      what_other i = rw (← g, v, k, i) refl

      pub what_none : eqb (tag_of f) 1 || eqb (tag_of f) 3 || leb 128 (tag_of f) ≡ false → what file p ≡ Fate.Dropped
      unfolding what is_kept is_passed
      what_none i = rw (← g, v, k, i) refl

-- what is done tells what stands
module _ (file : List ℕ) (p : Progress) where
  pub what_kept : is_kept p (field_at file p.at) ≡ true → what file p ≡ Fate.Kept
  unfolding what
  what_kept k = rw k refl

  pub what_passed : is_kept p (field_at file p.at) ≡ false → is_passed (field_at file p.at) ≡ true → what file p ≡ Fate.Passed
  unfolding what
  what_passed k i = rw (k, i) refl

  pub kept_what : what file p ≡ Fate.Kept → is_kept p (field_at file p.at) ≡ true
  unfolding what
  kept_what e = go (is_kept p (field_at file p.at)) (is_passed (field_at file p.at)) e
    where
      go : (k i : Bool) → cond k Fate.Kept (cond i Fate.Passed Fate.Dropped) ≡ Fate.Kept → k ≡ true
      go true i e = refl
      go false true e = cc
      go false false e = cc

  pub passed_what : (what file p ≡ Fate.Kept → ⊥) → (what file p ≡ Fate.Dropped → ⊥) → is_passed (field_at file p.at) ≡ true
  unfolding what
  passed_what n m = go (is_kept p (field_at file p.at)) (is_passed (field_at file p.at)) n m
    where
      go : (k i : Bool) → (cond k Fate.Kept (cond i Fate.Passed Fate.Dropped) ≡ Fate.Kept → ⊥) → (cond k Fate.Kept (cond i Fate.Passed Fate.Dropped) ≡ Fate.Dropped → ⊥) → i ≡ true
      go true i n m = absurd (n refl)
      go false true n m = refl
      go false false n m = absurd (m refl)

-- a command is kept, and any other passed over
pub kept_tag : (p : Progress) (f : List ℕ) → is_kept p f ≡ true → tag_of f ≡ 2
unfolding is_kept
kept_tag p f k = eqb-true (tag_of f) 2 (and_l (eqb (tag_of f) 2) (not (not_rising p f)) (and_r (is_valid f) (eqb (tag_of f) 2 && not (not_rising p f)) k))

passed_tag : (f : List ℕ) → is_passed f ≡ true → tag_of f ≡ 2 → ⊥
unfolding is_passed
passed_tag f i t = never (sym (rw t at (and_r (is_valid f) (eqb (tag_of f) 1 || eqb (tag_of f) 3 || leb 128 (tag_of f)) i)))

-- the field at a place that is in the file has a byte, and lies in it
module _ (file : List ℕ) (at : ℕ) (h : at < length file) where
  pub field_within : (0 < length (field_at file at)) × (at + length (field_at file at) ≤ length file)
  field_within =
      let l = front_length (drop at file) in
      let s = piece_some (drop at file) (simp length-drop (omega arith)) in
      let w : piece_size (drop at file) ≤ length file - at = rw length-drop at (piece_within (drop at file)) in
      (omega arith, omega arith)

-- the piece that a function finds at a place is that field
pub piece_at : (file : List ℕ) (at n : ℕ) → n ≡ piece_size (take (length file - at) (drop at file)) → take n (take (length file - at) (drop at file)) ≡ field_at file at
piece_at file at n e = rw (e, part_whole at file) refl

-- ---- a run

-- it ends at the end of the file and where something stands,
pub run_stop : (k : ℕ) (file : List ℕ) (p : Progress) → (p.at < length file → what file p ≡ Fate.Dropped → ⊥) → run_end k file p ≡ p.at
unfolding run_end
run_stop zero file p h = refl
run_stop (suc k) file p h =
    ⊎_elim (λ (l : p.at < length file). rw (drops-other (what file p) (h l), lt-ltb p.at (length file) l) refl)
    (λ (l : length file ≤ p.at). rw (le-ltb p.at (length file) l) refl) (lt_or_le p.at (length file))

-- and goes on elsewhere
run_step : (k : ℕ) (file : List ℕ) (p : Progress) → p.at < length file → what file p ≡ Fate.Dropped → run_end (suc k) file p ≡ run_end k file (byte_on p)
unfolding run_end
run_step k file p h e = rw (lt-ltb p.at (length file) h, e) refl

-- more turns than there are bytes do not go further
run_enough : (k j : ℕ) (file : List ℕ) (p : Progress) → length file - p.at ≤ k → length file - p.at ≤ j → run_end k file p ≡ run_end j file p
unfolding run_end
run_enough zero j file p h g = sym (run_stop j file p (λ l. absurd (omega arith)))
run_enough (suc k) zero file p h g = run_stop (suc k) file p (λ l. absurd (omega arith))
run_enough (suc k) (suc j) file p h g =
    ⊎_elim
    (λ (l : p.at < length file).
    ⊎_elim
    (λ (e : drops (what file p) ≡ true).
    let w = drops-true (what file p) e in
    run_step k file p l w ∙ run_enough k j file (byte_on p) (omega arith) (omega arith) ∙ sym (run_step j file p l w))
    (λ (e : drops (what file p) ≡ false). let n = drops-false (what file p) e in run_stop (suc k) file p (λ l. n) ∙ sym (run_stop (suc j) file p (λ l. n)))
    (two_ways (drops (what file p))))
    (λ (l : length file ≤ p.at). run_stop (suc k) file p (λ m. absurd (omega arith)) ∙ sym (run_stop (suc j) file p (λ m. absurd (omega arith)))) (lt_or_le p.at (length file))

pub run_on : (file : List ℕ) (p : Progress) → p.at < length file → what file p ≡ Fate.Dropped → run_end (length file) file p ≡ run_end (length file) file (byte_on p)
run_on file p h e = go (length file) refl
  where
    go : (n : ℕ) → length file ≡ n → run_end n file p ≡ run_end (length file) file (byte_on p)
    go zero g = absurd (omega arith)
    go (suc n) g = run_step n file p h e ∙ run_enough n (length file) file (byte_on p) (omega arith) (omega arith)

-- and lies in the file
run_within : (k : ℕ) (file : List ℕ) (p : Progress) → p.at ≤ length file → (p.at ≤ run_end k file p) × (run_end k file p ≤ length file)
unfolding run_end
run_within zero file p h = (omega arith, h)
run_within (suc k) file p h = go (ltb p.at (length file)) (drops (what file p)) refl (λ l. run_within k file (byte_on p) l)
  where
    go : (a b : Bool) → ltb p.at (length file) ≡ a → (p.at + 1 ≤ length file → (p.at + 1 ≤ run_end k file (byte_on p)) × (run_end k file (byte_on p) ≤ length file))
        → (p.at ≤ cond (a && b) (run_end k file (byte_on p)) p.at) × (cond (a && b) (run_end k file (byte_on p)) p.at ≤ length file)
    go true true e ih =
        let l = ltb-true p.at (length file) e in
        let r = ih (omega arith) in
        let x = r.0 in
        (omega arith, r.1)
    go true false e ih = (omega arith, h)
    go false b e ih = (omega arith, h)

-- ---- behind a range

module _ (file : List ℕ) (p : Progress) where
  pub next_run : what file p ≡ Fate.Dropped → next file p ≡ record { at = run_end (length file) file p; count = p.count; last = p.last }
  unfolding next
  next_run e = rw e refl

  pub next_field : (what file p ≡ Fate.Dropped → ⊥) → next file p ≡ behind p (field_at file p.at)
  unfolding next
  next_field n = rw (drops-other (what file p) n) refl

  -- it is further on, and in the file
  pub next_at : p.at < length file → (p.at < (next file p).at) × ((next file p).at ≤ length file)
  next_at h =
      ⊎_elim
      (λ (e : drops (what file p) ≡ true).
      let w = drops-true (what file p) e in
      let r = run_on file p h w in
      let i = run_within (length file) file (byte_on p) (omega arith) in
      let x = i.0 in
      let y = i.1 in
      rw (next_run w) (omega arith, omega arith))
      (λ (e : drops (what file p) ≡ false).
      let f = field_within file p.at h in
      let x = f.0 in
      let y = f.1 in
      let b = behind_at p (field_at file p.at) in
      rw (next_field (drops-false (what file p) e)) (omega arith, omega arith))
      (two_ways (drops (what file p)))

  -- a kept command is counted, and its number is the last one's
  pub next_kept : what file p ≡ Fate.Kept → next file p ≡ record { at = p.at + length (field_at file p.at); count = p.count + 1; last = number_in (field_at file p.at) }
  unfolding behind
  next_kept e =
      let n : what file p ≡ Fate.Dropped → ⊥ = λ z. cc in
      next_field n ∙ rw (kept_tag p (field_at file p.at) (kept_what file p e)) refl

  -- and nothing else
  pub next_other : (what file p ≡ Fate.Kept → ⊥) → ((next file p).count ≡ p.count) × ((next file p).last ≡ p.last)
  unfolding behind
  next_other n =
      ⊎_elim (λ (e : drops (what file p) ≡ true). let w = drops-true (what file p) e in rw (next_run w) (refl, refl))
      (λ (e : drops (what file p) ≡ false).
      let m = drops-false (what file p) e in
      rw (next_field m) (rw (ne_eqb (tag_of (field_at file p.at)) 2 (passed_tag (field_at file p.at) (passed_what file p n m))) (refl, refl)))
      (two_ways (drops (what file p)))

-- a walk is in the file, and has not kept more commands than there were bytes
abbrev pub Inside : List ℕ → Progress → Type 0
Inside file p = (p.count ≤ p.at) × (p.at ≤ length file)

pub next_inside : (file : List ℕ) (p : Progress) → p.at < length file → Inside file p → Inside file (next file p)
next_inside file p h i =
    let a = next_at file p h in
    let x = a.0 in
    let c = i.0 in
    ⊎_elim (λ (e : keeps (what file p) ≡ true). let k : (next file p).count ≡ p.count + 1 = ap (λ (q : Progress). q.count) (next_kept file p (keeps-true (what file p) e)) in (omega arith, a.1))
    (λ (e : keeps (what file p) ≡ false). let k = (next_other file p (keeps-false (what file p) e)).0 in (omega arith, a.1)) (two_ways (keeps (what file p)))

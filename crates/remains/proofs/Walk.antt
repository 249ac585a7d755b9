-- The walk through the file, one range at a time. Assumes nothing.
use Prim.Native.Nat.{ℕ, zero, suc, ◌+◌, ◌-◌, ◌<◌, ◌≤◌}
use mathlib.Core.Path.{◌≡◌, refl, sym, ap, ◌∙◌}
use mathlib.Core.Logic.{⊎_elim}
use mathlib.Core.List.{List, [], ◌∷◌}
use mathlib.Core.Bool.{Bool, true, false, ◌&&◌, cond}
use native.Mathlib.Omega.{arith}
use borrow.Author.Tests.{lt-ltb, le-ltb}
use lib.ListN.{length, take, drop, length-append}
use lib.Seq.{sets}
use Rattle.counts.proofs.Truth.{lt_or_le, two_ways}
use Rattle.fields.specs.Field.{piece_size}
use Rattle.fields.proofs.Fields.{front_length}
use Rattle.fields.proofs.Writes.{two_writes}
use Rattle.tourfile.specs.declared.Progress.{Progress}
use Rattle.tourfile.specs.Reader.{start, behind}
use Rattle.tourfile.proofs.Turns.{behind_at}
use Rattle.remains.specs.declared.Range.{Range}
use Rattle.remains.specs.Salvage.{drops, fate_word, field_at, what, byte_on, past, steps, before, joined, ranges_of, kept_fields, laid, range_words}
use Rattle.remains.specs.Steps.{run_end, next}
use Rattle.remains.specs.declared.Fate.{Fate}
use Rattle.remains.proofs.Fates.{keeps-other, drops-true, drops-false, drops-other}
use Rattle.remains.proofs.Runs.{field_within, run_stop, run_on, next_run, next_field, next_kept}

-- ---- steps

past_at : (file : List ℕ) (p : Progress) → p.at < length file → p.at < (past file p).at
unfolding past
past_at file p h = go (drops (what file p))
  where
    go : (b : Bool) → p.at < (cond {A = Progress} b (byte_on p) (behind p (field_at file p.at))).at
    go true = omega arith
    go false = let b = behind_at p (field_at file p.at) in let f = (field_within file p.at h).0 in omega arith

-- one step, and what it does
abbrev step : List ℕ → Progress → Range
step file p = record { what = what file p; from = p.at; to = (past file p).at }

steps_none : (k : ℕ) (file : List ℕ) (p : Progress) → length file ≤ p.at → steps k file p ≡ []
unfolding steps
steps_none zero file p h = refl
steps_none (suc k) file p h = rw (le-ltb p.at (length file) h) refl

steps_some : (k : ℕ) (file : List ℕ) (p : Progress) → p.at < length file → steps (suc k) file p ≡ step file p ∷ steps k file (past file p)
unfolding steps
steps_some k file p h = rw (lt-ltb p.at (length file) h) refl

-- more steps than there are bytes give no more of them
steps_enough : (k j : ℕ) (file : List ℕ) (p : Progress) → length file - p.at ≤ k → length file - p.at ≤ j → steps k file p ≡ steps j file p
unfolding steps
steps_enough zero j file p h g = sym (steps_none j file p (omega arith))
steps_enough (suc k) zero file p h g = steps_none (suc k) file p (omega arith)
steps_enough (suc k) (suc j) file p h g =
    ⊎_elim
    (λ (l : p.at < length file).
    let a = past_at file p l in
    steps_some k file p l ∙ ap (λ (r : List Range). step file p ∷ r) (steps_enough k j file (past file p) (omega arith) (omega arith)) ∙ sym (steps_some j file p l))
    (λ (l : length file ≤ p.at). steps_none (suc k) file p l ∙ sym (steps_none (suc j) file p l)) (lt_or_le p.at (length file))

-- ---- ranges

-- the ranges from a place of the file on
abbrev pub from : List ℕ → Progress → List Range
from file p = joined (steps (length file) file p)

pub from_start : (file : List ℕ) → from file start ≡ ranges_of file
unfolding ranges_of
from_start file = refl

pub from_none : (file : List ℕ) (p : Progress) → length file ≤ p.at → from file p ≡ []
unfolding joined
from_none file p h = rw (steps_none (length file) file p h) refl

from_step : (file : List ℕ) (p : Progress) → p.at < length file → from file p ≡ before (step file p) (from file (past file p))
unfolding joined
from_step file p h = go (length file) refl
  where
    go : (n : ℕ) → length file ≡ n → joined (steps n file p) ≡ before (step file p) (from file (past file p))
    go zero e = absurd (omega arith)
    go (suc n) e =
        let a = past_at file p h in
        rw (steps_some n file p h) (ap (λ (r : List Range). before (step file p) (joined r)) (steps_enough n (length file) file (past file p) (omega arith) (omega arith)))

-- what is not dropped stays a range of its own, and so does what is dropped before it
before_other : (r : Range) (rs : List Range) → drops r.what ≡ false → before r rs ≡ r ∷ rs
unfolding before
before_other r [] e = refl
before_other r (q ∷ rs) e = rw e refl

other_before : (r q : Range) (rs : List Range) → drops q.what ≡ false → before r (q ∷ rs) ≡ r ∷ q ∷ rs
unfolding before
other_before r q rs e = rw e (go (drops r.what) _ _)
  where
    go : (b : Bool) (x y : List Range) → cond (b && false) x y ≡ y
    go true x y = refl
    go false x y = refl

-- the range that begins at a place
abbrev pub range : List ℕ → Progress → Range
range file p = record { what = what file p; from = p.at; to = (next file p).at }

past_field : (file : List ℕ) (p : Progress) → (what file p ≡ Fate.Dropped → ⊥) → past file p ≡ next file p
unfolding past
past_field file p n = rw (drops-other (what file p) n) (sym (next_field file p n))

past_byte : (file : List ℕ) (p : Progress) → what file p ≡ Fate.Dropped → past file p ≡ byte_on p
unfolding past
past_byte file p e = rw e refl

-- a field that is kept or passed over
field_first : (file : List ℕ) (p : Progress) → p.at < length file → (what file p ≡ Fate.Dropped → ⊥) → from file p ≡ range file p ∷ from file (next file p)
field_first file p h n =
    from_step file p h ∙ before_other (step file p) (from file (past file p)) (drops-other (what file p) n) ∙ rw (past_field file p n) refl

-- a run of dropped bytes
module _ (a b : ℕ) where
  abbrev run : Range
  run = record { what = Fate.Dropped; from = a; to = b }

  run_alone : before run [] ≡ run ∷ []
  unfolding before
  run_alone = refl

  run_joins : (c d : ℕ) (rs : List Range) → before run (record { what = Fate.Dropped; from = c; to = d } ∷ rs) ≡ record { what = Fate.Dropped; from = a; to = d } ∷ rs
  unfolding before
  run_joins c d rs = refl

run_first : (k : ℕ) (file : List ℕ) (p : Progress) → length file - p.at ≤ k → p.at < length file → what file p ≡ Fate.Dropped
    → from file p ≡ run p.at (run_end (length file) file p) ∷ from file (record { at = run_end (length file) file p; count = p.count; last = p.last })
run_first zero file p g h e = absurd (omega arith)
run_first (suc k) file p g h e =
    from_step file p h
    ∙ rw (past_byte file p e, e, run_on file p h e)
    (⊎_elim
    (λ (l : p.at + 1 < length file).
    ⊎_elim
    (λ (w : drops (what file (byte_on p)) ≡ true).
    ap (before (run p.at (p.at + 1))) (run_first k file (byte_on p) (omega arith) l (drops-true (what file (byte_on p)) w))
    ∙ run_joins p.at (p.at + 1) (p.at + 1) (run_end (length file) file (byte_on p)) (from file (record { at = run_end (length file) file (byte_on p); count = p.count; last = p.last })))
    (λ (w : drops (what file (byte_on p)) ≡ false).
    let n = drops-false (what file (byte_on p)) w in
    rw (run_stop (length file) file (byte_on p) (λ m. n), field_first file (byte_on p) l n) (other_before (run p.at (p.at + 1)) (range file (byte_on p)) (from file (next file (byte_on p))) w))
    (two_ways (drops (what file (byte_on p)))))
    (λ (l : length file ≤ p.at + 1).
    rw (run_stop (length file) file (byte_on p) (λ m. absurd (omega arith)), from_none file (byte_on p) l) (run_alone p.at (p.at + 1)))
    (lt_or_le (p.at + 1) (length file)))

module _ (file : List ℕ) (p : Progress) (h : p.at < length file) where
  -- the one at the place, then those behind it
  pub from_front : from file p ≡ range file p ∷ from file (next file p)
  from_front =
      ⊎_elim
      (λ (e : drops (what file p) ≡ true).
      let w = drops-true (what file p) e in
      run_first (length file) file p (omega arith) h w ∙ rw (next_run file p w, w) refl)
      (λ (e : drops (what file p) ≡ false). field_first file p h (drops-false (what file p) e)) (two_ways (drops (what file p)))

  pub length_next : length (from file p) ≡ suc (length (from file (next file p)))
  length_next = rw from_front refl

  -- a kept range is its field
  kept_part : what file p ≡ Fate.Kept → take ((next file p).at - p.at) (drop p.at file) ≡ field_at file p.at
  kept_part e =
      let a : (next file p).at ≡ p.at + length (field_at file p.at) = ap (λ (q : Progress). q.at) (next_kept file p e) in
      let l = front_length (drop p.at file) in
      let n : (next file p).at - p.at ≡ piece_size (drop p.at file) = omega arith in
      rw n refl

  -- it stands first among those that are kept,
  pub fields_kept : what file p ≡ Fate.Kept → kept_fields file (from file p) ≡ field_at file p.at ∷ kept_fields file (from file (next file p))
  unfolding kept_fields
  fields_kept e = rw (from_front, e) (ap (λ (f : List ℕ). f ∷ kept_fields file (from file (next file p))) (kept_part e))

  -- and no other is among them
  pub fields_other : (what file p ≡ Fate.Kept → ⊥) → kept_fields file (from file p) ≡ kept_fields file (from file (next file p))
  unfolding kept_fields
  fields_other n = rw (from_front, keeps-other (what file p) n) refl

  kept_size : what file p ≡ Fate.Kept → length (field_at file p.at) ≡ (next file p).at - p.at
  kept_size e = let a : (next file p).at ≡ p.at + length (field_at file p.at) = ap (λ (q : Progress). q.at) (next_kept file p e) in omega arith

  -- how many, and how many bytes
  pub count_kept : what file p ≡ Fate.Kept → length (kept_fields file (from file p)) ≡ suc (length (kept_fields file (from file (next file p))))
  count_kept e = rw (fields_kept e) refl

  pub size_kept : what file p ≡ Fate.Kept → length (laid (kept_fields file (from file p))) ≡ (next file p).at - p.at + length (laid (kept_fields file (from file (next file p))))
  unfolding laid
  size_kept e = rw (fields_kept e) (length-append (field_at file p.at) (laid (kept_fields file (from file (next file p)))) ∙ rw (kept_size e) refl)

  -- a kept field is written behind those before it,
  pub put_next : (l : List ℕ) (o : ℕ) → what file p ≡ Fate.Kept
      → sets (sets l o (take ((next file p).at - p.at) (drop p.at file))) (o + ((next file p).at - p.at)) (laid (kept_fields file (from file (next file p))))
      ≡ sets l o (laid (kept_fields file (from file p)))
  unfolding laid
  put_next l o e =
      rw (fields_kept e, kept_part e) (two_writes (field_at file p.at) (laid (kept_fields file (from file (next file p)))) l o (o + ((next file p).at - p.at)) (rw (kept_size e) refl))

  -- and every range behind those before it
  pub words_next : (l : List ℕ) (k : ℕ)
      → sets (sets l k (fate_word (what file p) ∷ p.at ∷ (next file p).at ∷ [])) (k + 3) (range_words (from file (next file p))) ≡ sets l k (range_words (from file p))
  unfolding range_words
  words_next l k = rw from_front (two_writes (fate_word (what file p) ∷ p.at ∷ (next file p).at ∷ []) (range_words (from file (next file p))) l k (k + 3) refl)

-- Of an undamaged file that is cut anywhere, every command that stands whole before the cut is kept. Assumes nothing.
use Prim.Native.Nat.{ℕ, ◌+◌, ◌-◌, ◌<◌, ◌≤◌}
use mathlib.Core.Path.{◌≡◌, refl, sym, ap, ◌∙◌, subst}
use mathlib.Core.Logic.{⊎_elim}
use mathlib.Core.List.{List, ◌∷◌, ◌++◌}
use mathlib.Core.Bool.{Bool, true, false}
use native.Mathlib.Omega.{arith}
use borrow.Author.Tests.{eqb-true, eqb-false, leb-true, le-leb, not-false}
use lib.ListN.{length, take, drop, length-take, length-drop, length-append, take-append-drop}
use lib.Seq.{length-take-le, take-take, take-add, drop_at}
use lib.Dec.{leb, eqb}
use Rattle.counts.proofs.Truth.{two_ways}
use Rattle.fields.specs.Field.{is_whole, piece_size, fields_of, tag_of}
use Rattle.fields.proofs.Fields.{front_length, fields_none, fields_front, Field, field_front}
use Rattle.tourfile.specs.declared.Progress.{Progress}
use Rattle.tourfile.specs.Reader.{start, behind, read_of}
use Rattle.tourfile.proofs.Passed.{Passed}
use Rattle.tourfile.proofs.Turns.{behind_at}
use Rattle.tourfile.proofs.Answers.{done_read}
use Rattle.roundtrip.proofs.Front.{front_field}
use Rattle.roundtrip.proofs.Calls.{says_done}
use Rattle.remains.specs.Salvage.{field_at, what, kept_fields}
use Rattle.remains.specs.Steps.{next}
use Rattle.remains.proofs.Runs.{field_within}
use Rattle.remains.specs.declared.Fate.{Fate}
use Rattle.remains.proofs.Walk.{from, from_start, fields_kept, fields_other}
use Rattle.salvaged.specs.Salvaged.{commands_before, CutKeeps}
use Rattle.salvaged.proofs.Accepted.{fields_here, field_by_field}
use Rattle.salvaged.proofs.Beside.{is_kept_law, is_passed_law, same_next}

-- ---- a field before the cut

-- what begins with a whole field has that field at its front
front_is : (f rest : List ℕ) → Field f → take (piece_size (f ++ rest)) (f ++ rest) ≡ f
front_is f rest g =
    let h = g.head in
    let l : length (f ++ rest) ≡ length f + length rest = length-append f rest in
    let e : take (piece_size (f ++ rest)) (f ++ rest) ∷ fields_of (drop (piece_size (f ++ rest)) (f ++ rest)) ≡ f ∷ fields_of rest = sym (fields_front (f ++ rest) (omega arith)) ∙ field_front f rest g in
    cc

-- a whole field that ends before the cut stands there still
cut_front : (rest : List ℕ) (m : ℕ) → Field (take (piece_size rest) rest) → length (take (piece_size rest) rest) ≤ m → take (piece_size (take m rest)) (take m rest) ≡ take (piece_size rest) rest
cut_front rest m g h =
    let l = front_length rest in
    let t : take (piece_size rest) (take m rest) ≡ take (piece_size rest) rest = take-take (piece_size rest) m rest (omega arith) in
    let s = sym (take-append-drop (piece_size rest) (take m rest)) ∙ ap (λ (x : List ℕ). x ++ drop (piece_size rest) (take m rest)) t in
    ap (λ (x : List ℕ). take (piece_size x) x) s ∙ front_is (take (piece_size rest) rest) (drop (piece_size rest) (take m rest)) g

drop_cut : (at m : ℕ) (l : List ℕ) → at ≤ length l → drop at (take (at + m) l) ≡ take m (drop at l)
drop_cut at m l h = ap (drop at) (take-add at m l) ∙ drop_at (take at l) (take m (drop at l)) at (length-take-le at l h)

module _ (file : List ℕ) (cut : ℕ) where
  abbrev rest : List ℕ
  rest = take cut file

  same_field : (at : ℕ) → at < length file → Field (field_at file at) → at + length (field_at file at) ≤ cut → field_at rest at ≡ field_at file at
  same_field at h g l =
      let c : cut ≡ at + (cut - at) = omega arith in
      let d : drop at (take cut file) ≡ take (cut - at) (drop at file) = ap (λ (n : ℕ). drop at (take n file)) c ∙ drop_cut at (cut - at) file (omega arith) in
      ap (λ (x : List ℕ). take (piece_size x) x) d ∙ cut_front (drop at file) (cut - at) g (omega arith)

  -- ---- from place to place

  -- the ones that are kept from a place on begin with the commands among some fields that end before the cut
  abbrev Begins : Progress → ℕ → List (List ℕ) → Type 0
  Begins p at fs = let whole : List (List ℕ) = commands_before cut at fs in take (length whole) (kept_fields rest (from rest p)) ≡ whole

  abbrev Here : Progress → Type 0
  Here p = Begins p p.at (fields_of (drop p.at file))

  here_none : (p : Progress) → length file ≤ p.at → Here p
  here_none p h = let z : length (drop p.at file) ≡ 0 = rw length-drop (omega arith) in rw (fields_none (drop p.at file) z) refl

  module _ (clips : List ℕ) (p : Progress) (more : Bool) (h : p.at < length file) (q : Passed clips p more (field_at file p.at)) where
    abbrev f : List ℕ
    f = field_at file p.at

    abbrev later : List (List ℕ)
    later = fields_of (drop (behind p f).at file)

    -- a field before the cut is the same in what is left
    module _ (l : p.at + length f ≤ cut) (ih : Begins (behind p f) (p.at + length f) later) where
      there : p.at < length rest
      there = let s = (field_within file p.at h).0 in let n = length-take cut file in omega arith

      same : field_at rest p.at ≡ f
      same = same_field p.at h (front_field (drop p.at file) (not-false (is_whole f) q.whole)) l

      seen : Passed clips p more (field_at rest p.at)
      seen = rw same q

      fields_next : kept_fields rest (from rest (next rest p)) ≡ kept_fields rest (from rest (behind p f))
      fields_next = rw (same_next rest clips p more there seen, same) refl

      command : eqb (tag_of f) 2 ≡ true → Begins p p.at (f ∷ later)
      command t =
          let k = is_kept_law rest clips p more there seen (rw same (eqb-true (tag_of f) 2 t)) in
          rw (le-leb (p.at + length f) cut l, t, fields_kept rest p there k, same, fields_next) (ap (λ (fs : List (List ℕ)). f ∷ fs) ih)

      other : eqb (tag_of f) 2 ≡ false → Begins p p.at (f ∷ later)
      other t =
          let k = is_passed_law rest clips p more there seen (rw same (eqb-false (tag_of f) 2 t)) in
          let n : what rest p ≡ Fate.Kept → ⊥ = λ z. cc in
          rw (le-leb (p.at + length f) cut l, t, fields_other rest p there n, fields_next) ih

    here_some : Here (behind p f) → Here p
    here_some ih =
        rw (fields_here file p h)
        (⊎_elim
        (λ (e : leb (p.at + length f) cut ≡ true).
        let l = leb-true (p.at + length f) cut e in
        let i : Begins (behind p f) (p.at + length f) later = subst (λ at. Begins (behind p f) at later) (behind_at p f) ih in
        ⊎_elim (command l i) (other l i) (two_ways (eqb (tag_of f) 2)))
        (λ (e : leb (p.at + length f) cut ≡ false). rw e refl) (two_ways (leb (p.at + length f) cut)))

pub cut_keeps : CutKeeps
cut_keeps clips file room n cut s =
    let e = (done_read clips file room n (says_done (read_of clips file room) n s)).fine in
    rw (from_start (take cut file)) at (field_by_field clips file n (Here file cut) (λ p h c. here_none file cut p h) (λ p more h q ih. here_some file cut clips p more h q ih) start e)

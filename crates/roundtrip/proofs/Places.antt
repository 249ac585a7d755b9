-- Where a fault is: in the file or at its end, or in the list. Assumes nothing.
use mathlib.Core.Path.{◌≡◌, sym}
use mathlib.Core.Logic.{⊎_elim}
use mathlib.Core.Bool.{Bool, true, false, cond}
use mathlib.Core.List.{List, [], ◌∷◌}
use Prim.Native.Nat.{ℕ, zero, suc, ◌+◌, ◌-◌, ◌/◌, ◌<◌, ◌≤◌}
use native.Mathlib.Omega.{arith}
use lib.ListN.{length, drop, length-drop}
use lib.Dec.{leb, ltb, eqb}
use Rattle.std.specs.Prelude.{Ok, Err}
use Rattle.std.proofs.Common.{Break, Continue}
use Rattle.counts.proofs.Truth.{lt_or_le}
use Rattle.timeline.specs.declared.Row.{Row}
use Rattle.fields.specs.Clips.{listed_twice}
use Rattle.fields.specs.Field.{piece_size, fields_of, is_more, tag_of}
use Rattle.fields.proofs.Fields.{piece_within, piece_some, front_length, fields_none, fields_front}
use Rattle.tourfile.specs.declared.Fault.{Fault}
use Rattle.tourfile.specs.Answer.{Judged}
use Rattle.tourfile.specs.declared.Progress.{Progress}
use Rattle.tourfile.specs.Answer.{TourAnswer}
use Rattle.tourfile.specs.Answer.{refuses, says_tour, refused}
use Rattle.tourfile.specs.Reader.{Turn, start, judged_of, behind, settled, turn_of, or_else, weighed, fitted, read_of}
use Rattle.tourfile.specs.Writer.{records_of, file_of, record_judged_of, or_next, records_weighed, written, write_of}
use Rattle.tourfile.proofs.Turns.{behind_at}
use Rattle.tourfile.proofs.Writes.{records_length}
use Rattle.roundtrip.specs.RoundTrip.{ReadPlaces, WritePlaces}

-- the place of an answer that has one
abbrev place_of : TourAnswer → ℕ
place_of (Ok n) = 0
place_of (Err e) = e.place

says_place : (a : TourAnswer) (number at : ℕ) → says_tour a ≡ refuses number at → place_of a ≡ at
says_place (Ok n) number at e = let z : ◌≡◌ {A = ℕ} 0 1 = cc in absurd (omega arith)
says_place (Err x) number at e = cc

-- ---- the reader

abbrev bytes_in : List (List ℕ) → ℕ
bytes_in [] = 0
bytes_in (f ∷ fs) = length f + bytes_in fs

-- the fields have as many bytes as the file
cover : (k : ℕ) (rest : List ℕ) → length rest ≤ k → bytes_in (fields_of rest) ≡ length rest
cover zero rest h = let z : length rest ≡ 0 = omega arith in rw (fields_none rest z) (sym z)
cover (suc k) rest h =
    ⊎_elim
    (λ (s : 0 < length rest).
    let w = piece_within rest in
    let m = piece_some rest s in
    let l = front_length rest in
    let d : length (drop (piece_size rest) rest) ≡ length rest - piece_size rest = length-drop (piece_size rest) rest in
    let c = cover k (drop (piece_size rest) rest) (omega arith) in
    rw (fields_front rest s) (omega arith))
    (λ (s : length rest ≤ 0). let z : length rest ≡ 0 = omega arith in rw (fields_none rest z) (sym z)) (lt_or_le 0 (length rest))

weighed_place : (clips : List ℕ) (fs : List (List ℕ)) (p : Progress) → place_of (weighed clips p fs) ≤ p.at + bytes_in fs
unfolding weighed turn_of settled
weighed_place clips [] p = omega arith
weighed_place clips (f ∷ fs) p = go (weighed_place clips fs (behind p f)) (judged_of clips p (is_more fs) f)
  where
    on : place_of (weighed clips (behind p f) fs) ≤ (behind p f).at + bytes_in fs → (b : Bool)
        → place_of (or_else (cond {A = Turn} b (Break (Ok p.count)) (Continue (behind p f))) (λ q. weighed clips q fs)) ≤ p.at + (length f + bytes_in fs)
    on i true = omega arith
    on i false = let b = behind_at p f in omega arith

    go : place_of (weighed clips (behind p f) fs) ≤ (behind p f).at + bytes_in fs → (j : Judged)
        → place_of (or_else (settled j p f) (λ q. weighed clips q fs)) ≤ p.at + (length f + bytes_in fs)
    go i (Err x) = omega arith
    go i (Ok u) = on i (eqb (tag_of f) 3)

pub read_places : ReadPlaces
unfolding read_of
read_places clips file room number at e =
    let w = weighed_place clips (fields_of file) start in
    let c = cover (length file) file (omega arith) in
    let s = says_place (read_of clips file room) number at e in
    let l : place_of (read_of clips file room) ≤ length file = go (listed_twice clips) (weighed clips start (fields_of file)) (omega arith) in
    omega arith
  where
    fits : (n : ℕ) (b : Bool) → place_of (cond b (Ok n) (refused Fault.ListTooShort)) ≤ length file
    fits n true = omega arith
    fits n false = omega arith

    go : (b : Bool) (a : TourAnswer) → place_of a ≤ length file → place_of (cond b (refused Fault.ListedTwice) (fitted room a)) ≤ length file
    go true a h = omega arith
    go false (Ok n) h = fits n (leb n (room / 5))
    go false (Err x) h = h

-- ---- the writer

weighed_record : (clips : List ℕ) (xs : List Row) (i before : ℕ) → place_of (records_weighed clips i before xs) ≤ i + length xs
unfolding records_weighed
weighed_record clips [] i before = omega arith
weighed_record clips (x ∷ xs) i before = go (record_judged_of clips i before x) (weighed_record clips xs (i + 1) x.number)
  where
    go : (j : Judged) → place_of (records_weighed clips (i + 1) x.number xs) ≤ i + 1 + length xs
        → place_of (or_next j i (records_weighed clips (i + 1) x.number xs)) ≤ i + suc (length xs)
    go (Err y) h = omega arith
    go (Ok u) h = omega arith

pub write_places : WritePlaces
unfolding write_of
write_places clips ws room number at e =
    let w = weighed_record clips (records_of ws) 0 0 in
    let c = records_length ws in
    let s = says_place (write_of clips (records_of ws) room) number at e in
    let l : place_of (write_of clips (records_of ws) room) ≤ length ws / 5 = go (listed_twice clips) (records_weighed clips 0 0 (records_of ws)) (omega arith) in
    omega arith
  where
    fits : (b d : Bool) (n : ℕ) → place_of (cond b (refused Fault.TooMany) (cond d (refused Fault.OutputTooShort) (Ok n))) ≤ length ws / 5
    fits true d n = omega arith
    fits false true n = omega arith
    fits false false n = omega arith

    go : (b : Bool) (a : TourAnswer) → place_of a ≤ length ws / 5
        → place_of (cond b (refused Fault.ListedTwice) (written (length (file_of clips (records_of ws))) room a)) ≤ length ws / 5
    go true a h = omega arith
    go false (Ok n) h = fits (ltb 4096 n) (ltb room (length (file_of clips (records_of ws)))) (length (file_of clips (records_of ws)))
    go false (Err x) h = h

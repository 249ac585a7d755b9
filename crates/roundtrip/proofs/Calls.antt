-- The promises of the calls: what one leaves is lent to the other. Assumes nothing.
use mathlib.Core.Path.{◌≡◌, refl, sym, ap, ap₂, ◌∙◌}
use mathlib.Core.Bool.{Bool, true, false, cond}
use mathlib.Core.List.{List, [], ◌∷◌, ◌++◌, map}
use Prim.Native.Nat.{ℕ, ◌+◌, ◌*◌, ◌/◌, ◌<◌, ◌≤◌}
use native.Mathlib.Omega.{arith}
use native.Mathlib.Nat.{zero-add}
use borrow.Author.Tests.{le-ltb, ltb-false}
use lib.ListN.{length, take, drop}
use lib.Seq.{sets, sets-eq, take-append_seam, drop-append_seam, drop-set-lt}
use lib.Dec.{ltb}
use Rattle.std.specs.Prelude.{Ok, Err}
use Rattle.timeline.specs.declared.Row.{Row}
use Rattle.timeline.specs.Store.{row_at, put_row}
use Rattle.timeline.proofs.Rows.{length_put, row_same, row_other}
use Rattle.fields.specs.Clips.{listed_twice}
use Rattle.fields.specs.Field.{fields_of}
use Rattle.tourfile.specs.declared.Fault.{Fault}
use Rattle.tourfile.specs.Answer.{TourAnswer}
use Rattle.tourfile.specs.Answer.{gives, refuses, says_tour, refused, left_by}
use Rattle.tourfile.specs.Reader.{start, weighed, read_of, rows_in, put_rows, read_into}
use Rattle.tourfile.specs.Writer.{rows_from, records_of, file_of, records_weighed, written, write_of, write_into}
use Rattle.tourfile.proofs.Judging.{not_done}
use Rattle.tourfile.proofs.Writes.{records_length, records_take, done_count}
use Rattle.tourfile.proofs.Answers.{done_read, read_done, read_count, length_puts}
use Rattle.roundtrip.specs.RoundTrip.{plain, WrittenThenRead, ReadThenWritten, ReadLeaves, WriteLeaves}
use Rattle.roundtrip.proofs.Written.{fields_written}
use Rattle.roundtrip.proofs.Back.{read_back, rows_back}
use Rattle.roundtrip.proofs.Again.{file_same, records_fine}

-- ---- answers

-- what says how many is done,
pub says_done : (a : TourAnswer) (n : ℕ) → says_tour a ≡ gives n → a ≡ Ok n
says_done (Ok m) n e = let z : m ≡ n = cc in ap Ok z
says_done (Err x) n e = let z : ◌≡◌ {A = ℕ} 0 1 = cc in absurd (omega arith)

-- and what says a fault leaves the store
says_left : (a : TourAnswer) (number at : ℕ) (done store : List ℕ) → says_tour a ≡ refuses number at → left_by a done store ≡ store
says_left (Ok m) number at done store e = let z : ◌≡◌ {A = ℕ} 0 1 = cc in absurd (omega arith)
says_left (Err x) number at done store e = refl

-- a writer that is done: nothing is listed twice, no record is at fault, there are at most 4,096, the output has room
pub record Wrote (clips : List ℕ) (xs : List Row) (room n : ℕ) : Type 0 where
  pub once : listed_twice clips ≡ false
  pub fine : records_weighed clips 0 0 xs ≡ Ok (length xs)
  pub few : length xs ≤ 4096
  pub size : n ≡ length (file_of clips xs)
  pub fits : n ≤ room

done_wrote : (clips : List ℕ) (xs : List Row) (room n : ℕ) → write_of clips xs room ≡ Ok n → Wrote clips xs room n
unfolding write_of
done_wrote clips xs room n e = go (listed_twice clips) refl (records_weighed clips 0 0 xs) refl e
  where
    fits : (m : ℕ) (t s : Bool) → ltb 4096 m ≡ t → ltb room (length (file_of clips xs)) ≡ s
        → cond t (refused Fault.TooMany) (cond s (refused Fault.OutputTooShort) (Ok (length (file_of clips xs)))) ≡ Ok n
        → (m ≤ 4096) × (n ≡ length (file_of clips xs)) × (n ≤ room)
    fits m true s g h e = absurd (not_done e)
    fits m false true g h e = absurd (not_done e)
    fits m false false g h e = let z : length (file_of clips xs) ≡ n = cc in let l = ltb-false room (length (file_of clips xs)) h in (ltb-false 4096 m g, sym z, omega arith)

    go : (b : Bool) → listed_twice clips ≡ b → (a : TourAnswer) → records_weighed clips 0 0 xs ≡ a → cond b (refused Fault.ListedTwice) (written (length (file_of clips xs)) room a) ≡ Ok n → Wrote clips xs room n
    go true t a w e = absurd (not_done e)
    go false t (Ok m) w e =
        let c = done_count clips xs 0 0 m w in
        let k : m ≡ length xs = omega arith in
        let f = fits m (ltb 4096 m) (ltb room (length (file_of clips xs))) refl refl e in
        record { once = t; fine = w ∙ ap Ok k; few = rw k at f.0; size = f.1; fits = f.2 }
    go false t (Err x) w e = absurd (not_done e)

wrote_done : (clips : List ℕ) (xs : List Row) (room n : ℕ) → Wrote clips xs room n → write_of clips xs room ≡ Ok n
unfolding write_of
wrote_done clips xs room n w =
    let l : length (file_of clips xs) ≤ room = rw w.size at w.fits in
    rw (w.once, w.fine, le-ltb 4096 (length xs) w.few, le-ltb room (length (file_of clips xs)) l) (ap Ok (sym w.size))

-- ---- bytes

-- what is written at the front of a store, and what stands behind it
module _ (xs l : List ℕ) (h : length xs ≤ length l) where
  at_front : sets l 0 xs ≡ xs ++ drop (length xs) l
  at_front = sets-eq xs l 0 (rw (zero-add (length xs)) h) ∙ rw (zero-add (length xs)) refl

  pub take_front : take (length xs) (sets l 0 xs) ≡ xs
  take_front = rw at_front (take-append_seam xs (drop (length xs) l))

  pub drop_front : drop (length xs) (sets l 0 xs) ≡ drop (length xs) l
  drop_front = rw at_front (drop-append_seam xs (drop (length xs) l))

-- what is answered stands at the front of the output
written_front : (clips : List ℕ) (xs : List Row) (out : List ℕ) (n : ℕ) → write_of clips xs (length out) ≡ Ok n → take n (write_into clips xs out) ≡ file_of clips xs
unfolding write_into
written_front clips xs out n e =
    let w = done_wrote clips xs (length out) n e in
    rw (e, w.size) (take_front (file_of clips xs) out (rw w.size at w.fits))

-- ---- records

puts_before : (xs : List Row) (l : List ℕ) (i j : ℕ) → j < i → row_at (put_rows l i xs) j ≡ row_at l j
unfolding put_rows
puts_before [] l i j h = refl
puts_before (x ∷ xs) l i j h = let n : j ≡ i → ⊥ = λ z. omega arith in puts_before xs (put_row l i x) (i + 1) j (omega arith) ∙ row_other l i x j n

rows_puts : (xs : List Row) (l : List ℕ) (i : ℕ) → (i + length xs) * 5 ≤ length l → rows_from (put_rows l i xs) i (length xs) ≡ xs
unfolding put_rows rows_from
rows_puts [] l i h = refl
rows_puts (x ∷ xs) l i h =
    let g = length_put l i x in
    ap₂ ◌∷◌ (puts_before xs (put_row l i x) (i + 1) i (omega arith) ∙ row_same l i x (omega arith)) (rows_puts xs (put_row l i x) (i + 1) (omega arith))

-- the records that are answered stand at the front of the list
pub read_front : (clips file list : List ℕ) (n : ℕ) → read_of clips file (length list) ≡ Ok n → records_of (take (n * 5) (read_into clips file list)) ≡ rows_in clips (fields_of file)
unfolding read_into
read_front clips file list n e =
    let r = done_read clips file (length list) n e in
    let h = r.fits in
    let c = read_count clips file (length list) n e in
    let l = length_puts (rows_in clips (fields_of file)) list 0 in
    rw e (records_take (put_rows list 0 (rows_in clips (fields_of file))) n (omega arith) ∙ ap (rows_from (put_rows list 0 (rows_in clips (fields_of file))) 0) (sym c) ∙ rows_puts (rows_in clips (fields_of file)) list 0 (omega arith))

-- ---- both calls

pub written_then_read : WrittenThenRead
written_then_read clips ws out list n s h =
    let e = says_done (write_of clips (records_of ws) (length out)) n s in
    let w = done_wrote clips (records_of ws) (length out) n e in
    let f = written_front clips (records_of ws) out n e in
    let c = records_length ws in
    let d = fields_written clips (records_of ws) in
    let m : weighed clips start (fields_of (file_of clips (records_of ws))) ≡ Ok (length ws / 5) = rw d (read_back clips (records_of ws) w.fine w.few ∙ ap Ok c) in
    let r : read_of clips (file_of clips (records_of ws)) (length list) ≡ Ok (length ws / 5) = read_done clips (file_of clips (records_of ws)) (length list) (length ws / 5) (record { once = w.once; fine = m; fits = h }) in
    let x : rows_in clips (fields_of (file_of clips (records_of ws))) ≡ map plain (records_of ws) = rw d (rows_back clips (records_of ws) w.fine) in
    (rw f (ap says_tour r), rw f (read_front clips (file_of clips (records_of ws)) list (length ws / 5) r ∙ x))

pub read_then_written : ReadThenWritten
read_then_written clips file list out n b s k h =
    let e = says_done (read_of clips file (length list)) n s in
    let a = done_read clips file (length list) n e in
    let r = read_front clips file list n e in
    let c = read_count clips file (length list) n e in
    let f = file_same clips file n b a.once a.fine k in
    let g = records_fine clips file n b a.once a.fine k in
    let w : write_of clips (rows_in clips (fields_of file)) (length out) ≡ Ok (length file) = wrote_done clips (rows_in clips (fields_of file)) (length out) (length file) (record { once = a.once; fine = g.0 ∙ ap Ok (sym c); few = rw c g.1; size = ap length (sym f); fits = h }) in
    (rw r (ap says_tour w), rw r (written_front clips (rows_in clips (fields_of file)) out (length file) w ∙ f))

-- ---- what is left

put_past : (l : List ℕ) (i m : ℕ) (x : Row) → i * 5 + 5 ≤ m → drop m (put_row l i x) ≡ drop m l
unfolding put_row
put_past l i m x h =
    drop-set-lt m _ (i * 5 + 4) x.second (omega arith) ∙ drop-set-lt m _ (i * 5 + 3) x.first (omega arith) ∙ drop-set-lt m _ (i * 5 + 2) x.kind (omega arith)
    ∙ drop-set-lt m _ (i * 5 + 1) x.number (omega arith) ∙ drop-set-lt m l (i * 5) x.at (omega arith)

puts_past : (xs : List Row) (l : List ℕ) (i m : ℕ) → (i + length xs) * 5 ≤ m → drop m (put_rows l i xs) ≡ drop m l
unfolding put_rows
puts_past [] l i m h = refl
puts_past (x ∷ xs) l i m h = puts_past xs (put_row l i x) (i + 1) m (omega arith) ∙ put_past l i m x (omega arith)

pub read_leaves : ReadLeaves
unfolding read_into
read_leaves clips file list = record {
  refused = λ number at s. says_left (read_of clips file (length list)) number at (put_rows list 0 (rows_in clips (fields_of file))) list s;
  accepted = λ n s. let e = says_done (read_of clips file (length list)) n s in
      let c = read_count clips file (length list) n e in
      rw e (puts_past (rows_in clips (fields_of file)) list 0 (n * 5) (omega arith));
}

pub write_leaves : WriteLeaves
unfolding write_into
write_leaves clips ws out = record {
  refused = λ number at s. says_left (write_of clips (records_of ws) (length out)) number at (sets out 0 (file_of clips (records_of ws))) out s;
  accepted = λ n s. let e = says_done (write_of clips (records_of ws) (length out)) n s in
      let w = done_wrote clips (records_of ws) (length out) n e in
      let m : n * 1 ≡ length (file_of clips (records_of ws)) = let z = w.size in omega arith in
      rw (e, m) (drop_front (file_of clips (records_of ws)) out (rw w.size at w.fits));
}

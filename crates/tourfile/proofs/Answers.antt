-- What each way through a call comes to. Assumes nothing.
use mathlib.Core.Path.{◌≡◌, refl, sym, ap, ◌∙◌}
use mathlib.Core.Bool.{Bool, true, false, cond}
use mathlib.Core.List.{List, [], ◌∷◌}
use Prim.Native.Nat.{ℕ, ◌+◌, ◌*◌, ◌/◌, ◌<◌, ◌≤◌}
use native.Mathlib.Omega.{arith}
use borrow.Author.Tests.{le-leb, lt-leb, leb-true, lt-ltb, le-ltb}
use lib.Dec.{leb}
use lib.ListN.{length}
use lib.Seq.{sets}
use Rattle.std.specs.Prelude.{Ok, Err}
use Rattle.tourfile.specs.declared.TourError.{TourError}
use Rattle.timeline.specs.declared.Row.{Row}
use Rattle.timeline.specs.Store.{put_row}
use Rattle.timeline.proofs.Rows.{length_put}
use Rattle.fields.specs.Clips.{listed_twice}
use Rattle.fields.specs.Field.{fields_of}
use Rattle.tourfile.specs.declared.Fault.{Fault}
use Rattle.tourfile.specs.Answer.{TourAnswer}
use Rattle.tourfile.specs.Answer.{refused}
use Rattle.tourfile.specs.Reader.{start, weighed, fitted, read_of, rows_in, put_rows, read_into}
use Rattle.tourfile.specs.Writer.{records_of, file_of, records_weighed, write_of, write_into}
use Rattle.tourfile.specs.Steps.{size_of}
use Rattle.tourfile.proofs.Judging.{not_done}
use Rattle.tourfile.proofs.Turns.{records_count}
use Rattle.tourfile.proofs.Writes.{file_length}

-- ---- the reader

module _ (clips file list : List ℕ) where
  pub read_twice : listed_twice clips ≡ true → (refused Fault.ListedTwice ≡ read_of clips file (length list)) × (list ≡ read_into clips file list)
  unfolding read_of read_into
  read_twice t = (rw t refl, rw t refl)

  module _ (t : listed_twice clips ≡ false) where
    pub read_fine : (n : ℕ) → weighed clips start (fields_of file) ≡ Ok n → n ≤ length list / 5
        → (Ok n ≡ read_of clips file (length list)) × (put_rows list 0 (rows_in clips (fields_of file)) ≡ read_into clips file list)
    unfolding read_of read_into
    read_fine n w h = (rw (t, w, le-leb _ _ h) refl, rw (t, w, le-leb _ _ h) refl)

    pub read_short : (n : ℕ) → weighed clips start (fields_of file) ≡ Ok n → length list / 5 < n
        → (refused Fault.ListTooShort ≡ read_of clips file (length list)) × (list ≡ read_into clips file list)
    unfolding read_of read_into
    read_short n w h = (rw (t, w, lt-leb _ _ h) refl, rw (t, w, lt-leb _ _ h) refl)

    pub read_faulty : (x : TourError) → weighed clips start (fields_of file) ≡ Err x
        → (Err x ≡ read_of clips file (length list)) × (list ≡ read_into clips file list)
    unfolding read_of read_into
    read_faulty x w = (rw (t, w) refl, rw (t, w) refl)

-- the records of an accepted file fit a list that has room for as many as the answer says
pub read_room : (clips file : List ℕ) (n room : ℕ) → weighed clips start (fields_of file) ≡ Ok n → n ≤ room / 5
    → length (rows_in clips (fields_of file)) * 5 ≤ room
read_room clips file n room w h = let e = records_count clips (fields_of file) start n w in omega arith

-- of the answer alone, for a list of so much room
module _ (clips file : List ℕ) (room : ℕ) where
  pub weighs_twice : listed_twice clips ≡ true → refused Fault.ListedTwice ≡ read_of clips file room
  unfolding read_of
  weighs_twice t = rw t refl

  module _ (t : listed_twice clips ≡ false) where
    pub weighs_short : (n : ℕ) → weighed clips start (fields_of file) ≡ Ok n → room / 5 < n → refused Fault.ListTooShort ≡ read_of clips file room
    unfolding read_of
    weighs_short n w h = rw (t, w, lt-leb _ _ h) refl

    pub weighs_faulty : (x : TourError) → weighed clips start (fields_of file) ≡ Err x → Err x ≡ read_of clips file room
    unfolding read_of
    weighs_faulty x w = rw (t, w) refl

-- a reader that is done: nothing is listed twice, no field is faulty, the list has room
pub record Read (clips file : List ℕ) (room n : ℕ) : Type 0 where
  pub once : listed_twice clips ≡ false
  pub fine : weighed clips start (fields_of file) ≡ Ok n
  pub fits : n ≤ room / 5

pub read_done : (clips file : List ℕ) (room n : ℕ) → Read clips file room n → read_of clips file room ≡ Ok n
unfolding read_of
read_done clips file room n r = rw (r.once, r.fine, le-leb n (room / 5) r.fits) refl

module _ (clips file : List ℕ) (room n : ℕ) (e : read_of clips file room ≡ Ok n) where
  pub done_read : Read clips file room n
  unfolding read_of
  done_read = go (listed_twice clips) refl (weighed clips start (fields_of file)) refl e
    where
      fits : (m : ℕ) (t : Bool) → leb m (room / 5) ≡ t → cond t (Ok m) (refused Fault.ListTooShort) ≡ Ok n → (m ≡ n) × (n ≤ room / 5)
      fits m true g e = let z : m ≡ n = cc in let l = leb-true m (room / 5) g in (z, omega arith)
      fits m false g e = absurd (not_done e)

      go : (b : Bool) → listed_twice clips ≡ b → (a : TourAnswer) → weighed clips start (fields_of file) ≡ a → cond b (refused Fault.ListedTwice) (fitted room a) ≡ Ok n → Read clips file room n
      go true t a w e = absurd (not_done e)
      go false t (Ok m) w e = let f = fits m (leb m (room / 5)) refl e in record { once = t; fine = w ∙ ap Ok f.0; fits = f.1 }
      go false t (Err x) w e = absurd (not_done e)

  -- its records are as many as it says,
  pub read_count : length (rows_in clips (fields_of file)) ≡ n
  read_count = let c = records_count clips (fields_of file) start n done_read.fine in omega arith

  -- and they fit the list
  pub done_room : length (rows_in clips (fields_of file)) * 5 ≤ room
  done_room = let c = read_count in let h = done_read.fits in omega arith

-- as many words as there were
pub length_puts : (xs : List Row) (l : List ℕ) (i : ℕ) → length (put_rows l i xs) ≡ length l
unfolding put_rows
length_puts [] l i = refl
length_puts (x ∷ xs) l i = length_puts xs (put_row l i x) (i + 1) ∙ length_put l i x

-- what it leaves: its records at the list's front,
module _ (clips file list : List ℕ) where
  pub read_filled : (n : ℕ) → read_of clips file (length list) ≡ Ok n → put_rows list 0 (rows_in clips (fields_of file)) ≡ read_into clips file list
  unfolding read_into
  read_filled n e = rw e refl

  -- or the list as it was
  pub read_left : (x : TourError) → read_of clips file (length list) ≡ Err x → list ≡ read_into clips file list
  unfolding read_into
  read_left x e = rw e refl

-- ---- the writer

module _ (clips ws out : List ℕ) where
  pub write_twice : listed_twice clips ≡ true
      → (refused Fault.ListedTwice ≡ write_of clips (records_of ws) (length out)) × (out ≡ write_into clips (records_of ws) out)
  unfolding write_of write_into
  write_twice t = (rw t refl, rw t refl)

  module _ (t : listed_twice clips ≡ false) where
    pub write_faulty : (x : TourError) → records_weighed clips 0 0 (records_of ws) ≡ Err x
        → (Err x ≡ write_of clips (records_of ws) (length out)) × (out ≡ write_into clips (records_of ws) out)
    unfolding write_of write_into
    write_faulty x w = (rw (t, w) refl, rw (t, w) refl)

    module _ (n : ℕ) (w : records_weighed clips 0 0 (records_of ws) ≡ Ok n) where
      pub write_many : 4096 < n → (refused Fault.TooMany ≡ write_of clips (records_of ws) (length out)) × (out ≡ write_into clips (records_of ws) out)
      unfolding write_of write_into
      write_many h = let e = lt-ltb 4096 n h in (rw (t, w, e) refl, rw (t, w, e) refl)

      module _ (size : ℕ) (s : size ≡ 10 + size_of (records_of ws)) (f : n ≤ 4096) where
        all_told : size ≡ length (file_of clips (records_of ws))
        all_told = s ∙ sym (file_length clips (records_of ws))

        pub write_short : length out < size
            → (refused Fault.OutputTooShort ≡ write_of clips (records_of ws) (length out)) × (out ≡ write_into clips (records_of ws) out)
        unfolding write_of write_into
        write_short h =
            let e = le-ltb 4096 n f in
            let g = lt-ltb (length out) (length (file_of clips (records_of ws))) (rw all_told at h) in
            (rw (t, w, e, g) refl, rw (t, w, e, g) refl)

        pub write_fine : size ≤ length out
            → (Ok size ≡ write_of clips (records_of ws) (length out)) × (sets out 0 (file_of clips (records_of ws)) ≡ write_into clips (records_of ws) out)
        unfolding write_of write_into
        write_fine h =
            let e = le-ltb 4096 n f in
            let g = le-ltb (length out) (length (file_of clips (records_of ws))) (rw all_told at h) in
            (rw (t, w, e, g) (ap Ok all_told), rw (t, w, e, g) refl)

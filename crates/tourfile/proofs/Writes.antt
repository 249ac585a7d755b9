-- The writer's steps: the records from the front, their bytes one behind the other. Assumes nothing.
use mathlib.Core.Path.{◌≡◌, refl, sym, ap, ap₂, ◌∙◌}
use mathlib.Core.Bool.{Bool, true, false, not, cond}
use mathlib.Core.Logic.{⊎_elim}
use mathlib.Core.List.{List, [], ◌∷◌, ◌++◌}
use Prim.Native.Nat.{ℕ, zero, suc, ◌+◌, ◌-◌, ◌*◌, ◌/◌, ◌<◌, ◌≤◌, ◌^◌}
use native.Mathlib.Omega.{arith}
use borrow.Author.Tests.{eqb-true, ltb-true}
use lib.ListN.{length, take, length-append}
use lib.Seq.{sets, length-take-le}
use lib.Dec.{ltb, eqb}
use Rattle.std.specs.Prelude.{Ok, Err}
use Rattle.counts.specs.Below.{within}
use Rattle.counts.proofs.Below.{within_high}
use Rattle.counts.proofs.Truth.{and_l, and_r, lt_or_le, cond_both}
use Rattle.timeline.specs.declared.Row.{Row}
use Rattle.timeline.specs.Record.{readable}
use Rattle.timeline.specs.Store.{row_at}
use Rattle.timeline.proofs.Rows.{row_take}
use Rattle.fields.specs.declared.Part.{Part}
use Rattle.fields.specs.Bytes.{two_bytes, four_bytes, eight_bytes}
use Rattle.fields.specs.Field.{first_part, second_part, part_size, carried, part_bytes}
use Rattle.fields.specs.Steps.{Fits}
use Rattle.fields.proofs.Writes.{two_writes}
use Rattle.fields.proofs.Parts.{length_part}
use Rattle.tourfile.specs.declared.Fault.{Fault}
use Rattle.tourfile.specs.Answer.{Judged}
use Rattle.tourfile.specs.Answer.{error_at}
use Rattle.tourfile.specs.Writer.{head_bytes, command_bytes, version_bytes, last_bytes, tail_bytes, file_of, unlisted, late, record_judged_of, or_next, records_weighed, rows_from, records_of}
use Rattle.tourfile.specs.Steps.{size_of}
use Rattle.tourfile.proofs.Judging.{passed, not_done}

-- ---- the records

-- those from i on: record i, and those behind it
rows_next : (ws : List ℕ) (i n : ℕ) → i < n → rows_from ws i (n - i) ≡ row_at ws i ∷ rows_from ws (i + 1) (n - (i + 1))
unfolding rows_from
rows_next ws i n h = let e : n - i ≡ suc (n - (i + 1)) = omega arith in rw e refl

pub rows_length : (ws : List ℕ) (i k : ℕ) → length (rows_from ws i k) ≡ k
unfolding rows_from
rows_length ws i zero = refl
rows_length ws i (suc k) = ap suc (rows_length ws (i + 1) k)

pub records_length : (ws : List ℕ) → length (records_of ws) ≡ length ws / 5
unfolding records_of
records_length ws = rows_length ws 0 (length ws / 5)

-- those at the front of a list are those of its first words
rows_take : (k : ℕ) (ws : List ℕ) (i m : ℕ) → (i + k) * 5 ≤ m → rows_from (take m ws) i k ≡ rows_from ws i k
unfolding rows_from
rows_take zero ws i m h = refl
rows_take (suc k) ws i m h = ap₂ ◌∷◌ (row_take ws i m (omega arith)) (rows_take k ws (i + 1) m (omega arith))

pub records_take : (ws : List ℕ) (n : ℕ) → n * 5 ≤ length ws → records_of (take (n * 5) ws) ≡ rows_from ws 0 n
unfolding records_of
records_take ws n h =
    let l : length (take (n * 5) ws) ≡ n * 5 = length-take-le (n * 5) ws h in
    let d : n * 5 / 5 ≡ n = omega arith in
    rw (l, d) (rows_take n ws 0 (n * 5) (omega arith))

module _ (clips ws : List ℕ) (i n before : ℕ) (h : i < n) where
  -- one at fault gives the answer,
  pub lined_stop : (x : Fault) → record_judged_of clips i before (row_at ws i) ≡ Err x
      → Err (error_at x i) ≡ records_weighed clips i before (rows_from ws i (n - i))
  unfolding records_weighed
  lined_stop x e = rw (rows_next ws i n h, e) refl

  -- any other leaves it to the later ones
  pub lined_on : record_judged_of clips i before (row_at ws i) ≡ (Ok tt)
      → records_weighed clips i before (rows_from ws i (n - i)) ≡ records_weighed clips (i + 1) (row_at ws i).number (rows_from ws (i + 1) (n - (i + 1)))
  unfolding records_weighed
  lined_on e = rw (rows_next ws i n h, e) refl

-- a record without fault is readable, its clip listed and its number above the one before it
pub record FineRecord (clips : List ℕ) (i before : ℕ) (x : Row) : Type 0 where
  pub reads : readable x ≡ true
  pub listed : unlisted clips x ≡ false
  pub rises : late i before x ≡ false

not_fails : (b : Bool) → not b ≡ false → b ≡ true
not_fails true e = refl
not_fails false e = sym e

pub fine_record : (clips : List ℕ) (i before : ℕ) (x : Row) → record_judged_of clips i before x ≡ (Ok tt) → FineRecord clips i before x
unfolding record_judged_of
fine_record clips i before x e =
    let a = passed _ _ _ e in
    let b = passed _ _ _ a.1 in
    let c = passed _ _ _ b.1 in
    record { reads = not_fails (readable x) a.0; listed = b.0; rises = c.0 }

-- where all records are weighed, the first is without fault and the later ones are weighed
pub done_first : (clips : List ℕ) (i before n : ℕ) (x : Row) (xs : List Row) → records_weighed clips i before (x ∷ xs) ≡ Ok n
    → FineRecord clips i before x × (records_weighed clips (i + 1) x.number xs ≡ Ok n)
unfolding records_weighed
done_first clips i before n x xs e = go (record_judged_of clips i before x) refl e
  where
    go : (j : Judged) → record_judged_of clips i before x ≡ j → or_next j i (records_weighed clips (i + 1) x.number xs) ≡ Ok n
        → FineRecord clips i before x × (records_weighed clips (i + 1) x.number xs ≡ Ok n)
    go (Err y) g e = absurd (not_done e)
    go (Ok u) g e = (fine_record clips i before x g, e)

-- and as many are answered
pub done_count : (clips : List ℕ) (xs : List Row) (i before n : ℕ) → records_weighed clips i before xs ≡ Ok n → n ≡ i + length xs
unfolding records_weighed
done_count clips [] i before n e = let z : i ≡ n = cc in omega arith
done_count clips (x ∷ xs) i before n e = let l = done_count clips xs (i + 1) x.number n (done_first clips i before n x xs e).1 in omega arith

pub all_weighed : (clips ws : List ℕ) (n : ℕ) → records_weighed clips 0 0 (records_of ws) ≡ Ok n → n ≡ length ws / 5
all_weighed clips ws n e = let c = done_count clips (records_of ws) 0 0 n e in let l = records_length ws in omega arith

done_readable : (clips ws : List ℕ) (k i before n : ℕ) → records_weighed clips i before (rows_from ws i k) ≡ Ok n → (j : ℕ) → i ≤ j → j < i + k → readable (row_at ws j) ≡ true
unfolding rows_from
done_readable clips ws zero i before n e j h g = absurd (omega arith)
done_readable clips ws (suc k) i before n e j h g =
    let f = done_first clips i before n (row_at ws i) (rows_from ws (i + 1) k) e in
    ⊎_elim (λ (l : i < j). done_readable clips ws k (i + 1) (row_at ws i).number n f.1 j (omega arith) (omega arith))
    (λ (l : j ≤ i). let d : i ≡ j = omega arith in rw d at f.0.reads) (lt_or_le i j)

pub all_readable : (clips ws : List ℕ) {n : ℕ} → records_weighed clips 0 0 (records_of ws) ≡ Ok n → (j : ℕ) → j < length ws / 5 → readable (row_at ws j) ≡ true
unfolding records_of
all_readable clips ws {n} e j h = done_readable clips ws (length ws / 5) 0 0 n e j (omega arith) (omega arith)

-- ---- one command

-- the kind of a readable record is one of ten,
pub kind_small : (x : Row) → readable x ≡ true → x.kind ≤ 10
unfolding readable
kind_small x e = within_high 1 10 x.kind (and_l (within 1 10 x.kind) _ e)

-- and the words of its gains have 32 bits
module _ (x : Row) (r : readable x ≡ true) where
  gains : cond (eqb x.kind 8) (ltb x.first (2 ^ 32)) (cond (eqb x.kind 10) (ltb x.second (2 ^ 32)) true) ≡ true
  unfolding readable
  gains = and_r (within 1 10 x.kind) (cond (eqb x.kind 8) (ltb x.first (2 ^ 32)) (cond (eqb x.kind 10) (ltb x.second (2 ^ 32)) true)) r

  abbrev First : Part → Type 0
  First p = Fits p x.first

  pub first_fits : Fits (first_part x.kind) x.first
  unfolding first_part
  first_fits = cond_both First (eqb x.kind 4) _ _ tt (cond_both First (eqb x.kind 5) _ _ tt (cond_both First (eqb x.kind 6) _ _ tt (gain (eqb x.kind 8) refl)))
    where
      gain : (b : Bool) → eqb x.kind 8 ≡ b → First (cond b Part.Gain (cond (eqb x.kind 9) Part.Clip (cond (eqb x.kind 10) Part.Clip Part.Nothing)))
      gain true e = ltb-true x.first (2 ^ 32) (rw (eqb-true x.kind 8 e) at gains)
      gain false e = cond_both First (eqb x.kind 9) _ _ tt (cond_both First (eqb x.kind 10) _ _ tt tt)

  pub second_fits : Fits (second_part x.kind) x.second
  unfolding second_part
  second_fits = cond_both (λ p. Fits p x.second) (eqb x.kind 6) _ _ tt (gain (eqb x.kind 10) refl)
    where
      gain : (b : Bool) → eqb x.kind 10 ≡ b → Fits (cond b Part.Gain Part.Nothing) x.second
      gain true e = ltb-true x.second (2 ^ 32) (rw (eqb-true x.kind 10 e) at gains)
      gain false e = tt

pub length_head : (x : Row) → length (head_bytes x) ≡ 20
unfolding head_bytes eight_bytes four_bytes
length_head x = refl

-- a command's head, written in three steps
pub head_writes : (x : Row) (l : List ℕ) (at : ℕ)
    → sets (sets (sets l at (2 ∷ two_bytes (17 + carried x.kind))) (at + 3) (eight_bytes x.at)) (at + 11) (eight_bytes x.number ++ (x.kind ∷ [])) ≡ sets l at (head_bytes x)
unfolding head_bytes eight_bytes four_bytes
head_writes x l at =
    two_writes (eight_bytes x.at) (eight_bytes x.number ++ (x.kind ∷ [])) (sets l at (2 ∷ two_bytes (17 + carried x.kind))) (at + 3) (at + 11) (omega arith)
    ∙ two_writes (2 ∷ two_bytes (17 + carried x.kind)) (eight_bytes x.at ++ (eight_bytes x.number ++ (x.kind ∷ []))) l at (at + 3) (omega arith)

-- and the whole command in three
pub command_writes : (clips : List ℕ) (x : Row) (l : List ℕ) (at : ℕ)
    → sets (sets (sets l at (head_bytes x)) (at + 20) (part_bytes clips (first_part x.kind) x.first)) (at + 20 + part_size (first_part x.kind)) (part_bytes clips (second_part x.kind) x.second)
    ≡ sets l at (command_bytes clips x)
unfolding command_bytes
command_writes clips x l at =
    let p = length_part clips (first_part x.kind) x.first in
    let h = length_head x in
    two_writes (part_bytes clips (first_part x.kind) x.first) (part_bytes clips (second_part x.kind) x.second) (sets l at (head_bytes x)) (at + 20) (at + 20 + part_size (first_part x.kind)) (omega arith)
    ∙ two_writes (head_bytes x) (part_bytes clips (first_part x.kind) x.first ++ part_bytes clips (second_part x.kind) x.second) l at (at + 20) (omega arith)

pub length_command : (clips : List ℕ) (x : Row) → length (command_bytes clips x) ≡ 20 + carried x.kind
unfolding command_bytes carried
length_command clips x =
    let h = length_head x in
    let a = length_part clips (first_part x.kind) x.first in
    let b = length_part clips (second_part x.kind) x.second in
    let c = length-append (part_bytes clips (first_part x.kind) x.first) (part_bytes clips (second_part x.kind) x.second) in
    length-append (head_bytes x) (part_bytes clips (first_part x.kind) x.first ++ part_bytes clips (second_part x.kind) x.second) ∙ omega arith

-- ---- the file

-- the bytes of the records from i on are record i's and those of the later ones
pub size_next : (ws : List ℕ) (i n : ℕ) → i < n → size_of (rows_from ws i (n - i)) ≡ 20 + carried (row_at ws i).kind + size_of (rows_from ws (i + 1) (n - (i + 1)))
unfolding size_of
size_next ws i n h = rw (rows_next ws i n h) refl

tail_length : (clips : List ℕ) (n : ℕ) (xs : List Row) → length (tail_bytes clips n xs) ≡ size_of xs + 5
unfolding tail_bytes size_of
tail_length clips n [] = refl
tail_length clips n (x ∷ xs) =
    let c = length_command clips x in
    let t = tail_length clips n xs in
    length-append (command_bytes clips x) (tail_bytes clips n xs) ∙ omega arith

pub file_length : (clips : List ℕ) (xs : List Row) → length (file_of clips xs) ≡ 10 + size_of xs
unfolding file_of
file_length clips xs = let t = tail_length clips (length xs) xs in omega arith

-- the version first, then the rest
pub file_writes : (clips ws l : List ℕ) → sets (sets l 0 version_bytes) 5 (tail_bytes clips (length ws / 5) (records_of ws)) ≡ sets l 0 (file_of clips (records_of ws))
unfolding file_of
file_writes clips ws l = rw (records_length ws) (two_writes version_bytes (tail_bytes clips (length ws / 5) (records_of ws)) l 0 5 refl)

-- one command of the rest
pub tail_next : (clips ws l : List ℕ) (at i n : ℕ) → i < n
    → sets (sets l at (command_bytes clips (row_at ws i))) (at + (20 + carried (row_at ws i).kind)) (tail_bytes clips n (rows_from ws (i + 1) (n - (i + 1))))
    ≡ sets l at (tail_bytes clips n (rows_from ws i (n - i)))
unfolding tail_bytes
tail_next clips ws l at i n h =
    rw (rows_next ws i n h) (two_writes (command_bytes clips (row_at ws i)) (tail_bytes clips n (rows_from ws (i + 1) (n - (i + 1)))) l at (at + (20 + carried (row_at ws i).kind)) (rw (length_command clips (row_at ws i)) refl))

-- the last field, in three steps
pub last_writes : (n : ℕ) (l : List ℕ) (at : ℕ) → sets (sets (sets l at (3 ∷ [])) (at + 1) (two_bytes 2)) (at + 3) (two_bytes n) ≡ sets l at (last_bytes n)
last_writes n l at =
    two_writes (two_bytes 2) (two_bytes n) (sets l at (3 ∷ [])) (at + 1) (at + 3) (omega arith)
    ∙ two_writes (3 ∷ []) (two_bytes 2 ++ two_bytes n) l at (at + 1) refl

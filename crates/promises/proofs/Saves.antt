-- What a capture that is stopped gives is written with the session's own list. Assumes nothing.
use mathlib.Core.Path.{◌≡◌, refl, sym, ap, ◌∙◌}
use mathlib.Core.Bool.{Bool, true, false, not, ◌&&◌, cond}
use mathlib.Core.List.{List}
use Prim.Native.Nat.{ℕ, zero, suc, ◌+◌, ◌-◌, ◌*◌, ◌/◌, ◌%◌, ◌^◌, ◌≤◌, ◌<◌}
use native.Mathlib.Nat.{zero-add}
use native.Mathlib.Omega.{arith}
use borrow.Author.Tests.{eqb-true, ne_eqb, lt-ltb, le-ltb, lt-leb, leb-true, ltb-true, not-false}
use lib.ListN.{length, take, drop, get_or}
use lib.Seq.{length-take-le, take_at}
use lib.Dec.{ltb, eqb, eqb-suc-zero}
use Rattle.std.specs.Prelude.{Ok}
use Rattle.counts.specs.Below.{all_below, any_below, within}
use Rattle.counts.proofs.Truth.{and_true, and_l, and_r, and_false_l, and_false_r, cond_both}
use Rattle.counts.proofs.Below.{all_at, any_false}
use Rattle.timeline.specs.declared.Row.{Row}
use Rattle.timeline.specs.Command.{claim_of, gain_ok}
use Rattle.timeline.specs.Record.{handle_of, readable, read_of}
use Rattle.timeline.specs.Store.{row_at, copied}
use Rattle.timeline.specs.Queue.{rising, rising_at, entry_ok, capture_ok}
use Rattle.fields.specs.declared.Part.{Part}
use Rattle.fields.specs.Clips.{is_handle, is_listed, handle_at, twice_at, listed_twice, clip_byte}
use Rattle.fields.specs.Field.{is_clip, first_part, has_clip}
use Rattle.fields.proofs.Places.{clip_back}
use Rattle.tourfile.specs.Answer.{says_tour, refuses, gives as gives_tour}
use Rattle.tourfile.specs.Writer.{rows_from, records_of, file_of, unlisted, late, record_judged_of, records_weighed, write_of}
use Rattle.tourfile.proofs.Judging.{skip}
use Rattle.tourfile.proofs.Writes.{FineRecord, rows_length, records_take}
use Rattle.bank.specs.declared.Bank.{Bank}
use Rattle.bank.specs.Slots.{used_at, clip_in, live, claim_ok}
use Rattle.bank.specs.WellFormed.{bank_ok}
use Rattle.bank.proofs.Clauses.{bank_clip, live_has}
use Rattle.bank.proofs.Handles.{live_given}
use Rattle.bank.proofs.Claims.{song_has, stinger_has}
use Rattle.session.specs.declared.Session.{Session}
use Rattle.session.specs.Session.{captured_now}
use Rattle.session.specs.Answer.{Says, gives, says}
use Rattle.session.specs.WellFormed.{well_formed}
use Rattle.session.proofs.Parts.{parts}
use Rattle.session.proofs.Ranged.{ranged}
use Rattle.session.proofs.Refuse.{passed, gives_fine}
use Rattle.session.specs.declared.Answered.{Answered}
use Rattle.control.specs.Capture.{weigh_stop, stop_capture_of}
use Rattle.control.proofs.Capture.{fine_room, stop_done}
use Rattle.promises.specs.Tours.{slot_word, slot_words, clips_of, CaptureSaves}

-- ---- the session's own list

-- the word at a place is its slot's
slots_at : (b : Bank) (k i j m : ℕ) → j < k → i + j ≡ m → get_or (slot_words b i k) j 0 ≡ slot_word b m
unfolding slot_words
slots_at b zero i j m l e = absurd (omega arith)
slots_at b (suc k) i zero m l e = let same : i ≡ m = omega arith in ap (slot_word b) same
slots_at b (suc k) i (suc j) m l e = slots_at b k (i + 1) j m (omega arith) (omega arith)

word_at : (b : Bank) (i : ℕ) → i < 32 → get_or (clips_of b) i 0 ≡ slot_word b i
unfolding clips_of
word_at b i l = slots_at b _ 0 i i (omega arith) (zero-add i)

-- a kind that is neither 9 nor 10 has no clip
no_clip_law : (k : ℕ) → eqb k 9 ≡ false → eqb k 10 ≡ false → has_clip k ≡ false
unfolding has_clip first_part
no_clip_law k p q =
    let none : Part → Type 0 = λ r. is_clip r ≡ false in
    rw (p, q) (cond_both none (eqb k 4) _ _ refl (cond_both none (eqb k 5) _ _ refl (cond_both none (eqb k 6) _ _ refl (cond_both none (eqb k 8) _ _ refl refl))))

module _ (b : Bank) (room : ℕ) (ok : bank_ok b room ≡ true) (small : b.last < 2 ^ 32) where
  -- a slot's word lies below the next slot's,
  word_below : (i : ℕ) → i < 32 → slot_word b i < (i + 1) * 2 ^ 32
  unfolding slot_word
  word_below i l = go (used_at b.used i) refl
    where
      go : (u : Bool) → used_at b.used i ≡ u → cond u (i * 2 ^ 32 + (clip_in b i).serial) 0 < (i + 1) * 2 ^ 32
      go true e = let g = (bank_clip b room ok i l e).given in omega arith
      go false e = omega arith

  -- so none is another's
  word_once : (i : ℕ) → i < 32 → twice_at (clips_of b) i ≡ false
  unfolding twice_at is_handle slot_word
  word_once i l = rw (word_at b i l) (go (used_at b.used i))
    where
      go : (u : Bool) → is_handle (cond u (i * 2 ^ 32 + (clip_in b i).serial) 0) && any_below i (λ j. eqb (get_or (clips_of b) j 0) (cond u (i * 2 ^ 32 + (clip_in b i).serial) 0)) ≡ false
      go true =
          and_false_r (is_handle (i * 2 ^ 32 + (clip_in b i).serial))
          (any_false (λ j. eqb (get_or (clips_of b) j 0) (i * 2 ^ 32 + (clip_in b i).serial)) i
          (λ j m. let w = word_below j (omega arith) in let e = word_at b j (omega arith) in ne_eqb (get_or (clips_of b) j 0) (i * 2 ^ 32 + (clip_in b i).serial) (λ z. omega arith)))
      go false = refl

  -- and nothing is listed twice
  own_once : listed_twice (clips_of b) ≡ false
  unfolding listed_twice
  own_once = any_false (twice_at (clips_of b)) 32 word_once

  -- the word of a live handle is listed
  live_listed : (w : ℕ) → live b (handle_of w) ≡ true → eqb (clip_byte (clips_of b) w) 32 ≡ false
  unfolding slot_word is_listed is_handle handle_at
  live_listed w e =
      let a = live_has b (handle_of w) e in
      let l : w / 2 ^ 32 < 32 = a.among in
      let h : 1 ≤ w % 2 ^ 32 = (live_given b room ok (handle_of w) e).0 in
      let n : w % 2 ^ 32 ≡ 0 → ⊥ = λ z. omega arith in
      let s : (clip_in b (w / 2 ^ 32)).serial ≡ w % 2 ^ 32 = a.serial in
      let d : w / 2 ^ 32 * 2 ^ 32 + (clip_in b (w / 2 ^ 32)).serial ≡ w = omega arith in
      let at : get_or (clips_of b) (w / 2 ^ 32) 0 ≡ w = word_at b (w / 2 ^ 32) l ∙ rw a.used d in
      let r = clip_back (clips_of b) (w / 2 ^ 32) own_once (rw at (and_true (lt-ltb (w / 2 ^ 32) 32 l) (ap not (ne_eqb (w % 2 ^ 32) 0 n)))) in
      let f : clip_byte (clips_of b) w ≡ w / 2 ^ 32 = rw (lt-ltb (w / 2 ^ 32) 32 l, at) at r.1 in
      ne_eqb (clip_byte (clips_of b) w) 32 (λ z. omega arith)

  -- and so is the clip of a record whose claim is in order
  claim_listed : (rate : ℕ) (x : Row) → claim_ok b rate (claim_of (read_of x)) ≡ true → unlisted (clips_of b) x ≡ false
  unfolding unlisted read_of
  claim_listed rate x e = go (eqb x.kind 9) (eqb x.kind 10) refl refl
    where
      go : (s t : Bool) → eqb x.kind 9 ≡ s → eqb x.kind 10 ≡ t → unlisted (clips_of b) x ≡ false
      go true t p q = and_false_r (has_clip x.kind) (live_listed x.first (song_has b rate (handle_of x.first) (rw (eqb-true x.kind 9 p) at e)).alive)
      go false true p q = and_false_r (has_clip x.kind) (live_listed x.first (stinger_has b rate (handle_of x.first) (rw (eqb-true x.kind 10 q) at e)).alive)
      go false false p q = and_false_l (eqb (clip_byte (clips_of b) x.first) 32) (no_clip_law x.kind p q)

-- ---- the records

-- a record that rises is not late
not_late : (ws : List ℕ) (i before : ℕ) → rising_at ws i ≡ true → (0 < i → before ≡ (row_at ws (i - 1)).number) → late i before (row_at ws i) ≡ false
unfolding late rising_at
not_late ws zero before s e = refl
not_late ws (suc i) before s e =
    let b : before ≡ (row_at ws (suc i - 1)).number = e (omega arith) in
    let l : (row_at ws (suc i - 1)).number < (row_at ws (suc i)).number = ltb-true (row_at ws (suc i - 1)).number (row_at ws (suc i)).number (rw (eqb-suc-zero i) at s) in
    and_false_r (ltb 0 (suc i)) (lt-leb (row_at ws (suc i)).number before (omega arith))

-- what is readable, listed and not late is not at fault
fine_judged : (clips : List ℕ) (i before : ℕ) (x : Row) → FineRecord clips i before x → record_judged_of clips i before x ≡ (Ok tt)
unfolding record_judged_of
fine_judged clips i before x f = sym (skip _ _ _ _ (ap not f.reads) (skip _ _ _ _ f.listed (skip _ _ _ _ f.rises refl)))

-- records that are readable, listed and rising from i on are weighed without fault
all_fine : (clips ws : List ℕ) (k i before : ℕ) → ((j : ℕ) → j < i + k → readable (row_at ws j) ≡ true) → ((j : ℕ) → j < i + k → unlisted clips (row_at ws j) ≡ false)
    → ((j : ℕ) → j < i + k → rising_at ws j ≡ true) → (0 < i → before ≡ (row_at ws (i - 1)).number) → records_weighed clips i before (rows_from ws i k) ≡ Ok (i + k)
unfolding records_weighed rows_from
all_fine clips ws zero i before r u s e = let z : i + 0 ≡ i = omega arith in rw z refl
all_fine clips ws (suc k) i before r u s e =
    let here : i < i + suc k = omega arith in
    let same : i + 1 + k ≡ i + suc k = omega arith in
    let prior : i + 1 - 1 ≡ i = omega arith in
    rw (fine_judged clips i before (row_at ws i) (record { reads = r i here; listed = u i here; rises = not_late ws i before (s i here) e }))
    (all_fine clips ws k (i + 1) (row_at ws i).number (λ j l. r j (omega arith)) (λ j l. u j (omega arith)) (λ j l. s j (omega arith)) (λ l. ap (λ (m : ℕ). (row_at ws m).number) (sym prior)) ∙ ap Ok same)

-- ---- the writer

-- at most 4,096 records without fault, with a list that has nothing twice: the output decides
fine_writes : (clips : List ℕ) (xs : List Row) (room : ℕ) → listed_twice clips ≡ false → records_weighed clips 0 0 xs ≡ Ok (length xs) → length xs ≤ 4096
    → (length (file_of clips xs) ≤ room → says_tour (write_of clips xs room) ≡ gives_tour (length (file_of clips xs))) × (room < length (file_of clips xs) → says_tour (write_of clips xs room) ≡ refuses 115 0)
unfolding write_of
fine_writes clips xs room t e h =
    let f = le-ltb 4096 (length xs) h in
    (λ l. rw (t, e, f, le-ltb room (length (file_of clips xs)) l) refl, λ l. rw (t, e, f, lt-ltb room (length (file_of clips xs)) l) refl)

-- ---- the capture

-- a well formed session's captured records are at most 4,096, and none is at fault
captured_fine : (s : Session) (q c : List ℕ) → well_formed s q c ≡ true → s.bank.last < 2 ^ 32
    → (captured_now s.desk ≤ 4096) × (records_weighed (clips_of s.bank) 0 0 (rows_from c 0 (captured_now s.desk)) ≡ Ok (captured_now s.desk))
unfolding capture_ok entry_ok
captured_fine s q c formed small =
    let n : ℕ = captured_now s.desk in
    let p = parts s q c formed in
    let few : s.settings.capture ≤ 4096 = leb-true s.settings.capture 4096 (ranged s.settings p.settings).capture in
    let fits = p.captured in
    let entries : ℕ → Bool = λ j. entry_ok s.desk.number (row_at c j) in
    let entry : (j : ℕ) → j < n → entries j ≡ true = λ j l. all_at entries n j (and_r (rising c n) (all_below n entries) p.capture) l in
    let reads : (j : ℕ) → j < n → readable (row_at c j) ≡ true =
    λ j l. and_l (readable (row_at c j)) (gain_ok (read_of (row_at c j))) (and_l (readable (row_at c j) && gain_ok (read_of (row_at c j))) (within 1 s.desk.number (row_at c j).number) (entry j l)) in
    let listed : (j : ℕ) → j < n → unlisted (clips_of s.bank) (row_at c j) ≡ false =
    λ j l. claim_listed s.bank s.settings.pool p.bank small s.settings.rate (row_at c j) (p.capture_held j l) in
    let rises : (j : ℕ) → j < n → rising_at c j ≡ true = λ j l. all_at (rising_at c) n j (and_l (rising c n) (all_below n entries) p.capture) l in
    let none : 0 + n ≡ n = zero-add n in
    (omega arith, rw none at (all_fine (clips_of s.bank) c n 0 0 (rw none reads) (rw none listed) (rw none rises) (λ l. absurd (omega arith))))

-- a stop that gives n records is of a well formed session, and they are all of its capture's
stopped : (s : Session) (q c list : List ℕ) (n : ℕ) → says (stop_capture_of s q c list).0.answer ≡ gives n
    → (well_formed s q c ≡ true) × (records_of (take (n * 5) (stop_capture_of s q c list).1) ≡ rows_from c 0 (captured_now s.desk))
unfolding stop_capture_of weigh_stop copied
stopped s q c list n e =
    let m : ℕ = captured_now s.desk in
    let fine : weigh_stop s q c list ≡ (Ok tt) = gives_fine {A = Answered ℕ × List ℕ} _ _ _ (λ a. says a.0.answer) (λ k. refl) n e in
    let formed : well_formed s q c ≡ true = not-false _ (passed _ _ _ fine).0 in
    let room = fine_room s q c list fine in
    let d = stop_done s q c list formed room.0 in
    let k : n ≡ m = let g : ◌≡◌ {A = Says ℕ} (gives m) (gives n) = sym (ap (λ (a : Answered ℕ × List ℕ). says a.0.answer) d) ∙ e in cc in
    (formed, rw (k, d, take_at (take (m * 5) c) (drop (m * 5) list) (m * 5) (length-take-le (m * 5) c room.1)) (records_take c m room.1))

pub capture_saves : CaptureSaves
capture_saves s q c list n room small e =
    let t = stopped s q c list n e in
    let f = captured_fine s q c t.0 small in
    let long = rows_length c 0 (captured_now s.desk) in
    rw t.1
    (fine_writes (clips_of s.bank) (rows_from c 0 (captured_now s.desk)) room (own_once s.bank s.settings.pool (parts s q c t.0).bank small) (rw long f.1) (rw long f.0))

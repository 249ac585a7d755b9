-- The reader's fault is the least of all. Assumes nothing.
use mathlib.Core.Path.{◌≡◌, refl, sym, ◌∙◌}
use mathlib.Core.Logic.{⊎_elim}
use mathlib.Core.Bool.{Bool, true, false, ◌&&◌, ◌||◌, cond}
use mathlib.Core.List.{List, [], ◌∷◌, ◌++◌}
use Prim.Native.Nat.{ℕ, zero, suc, ◌<◌, ◌≤◌}
use native.Mathlib.Omega.{arith}
use borrow.Author.Tests.{eq-eqb, lt-ltb, le-leb, leb-true}
use lib.ListN.{length, drop, length-drop}
use lib.Dec.{leb, ltb, eqb}
use Rattle.std.specs.Prelude.{Ok, Err}
use Rattle.std.proofs.Common.{Break, Continue}
use Rattle.laws.specs.Order.{all, any}
use Rattle.laws.specs.Queue.{Each}
use Rattle.counts.proofs.Truth.{and_true, and_l, and_r, or_l, or_r, lt_or_le, never}
use Rattle.fields.specs.Field.{piece_size, fields_of, is_more, tag_of}
use Rattle.fields.proofs.Fields.{piece_some, front_length, fields_none, fields_front}
use Rattle.tourfile.specs.declared.Fault.{Fault}
use Rattle.tourfile.specs.Answer.{Judged}
use Rattle.tourfile.specs.declared.Progress.{Progress}
use Rattle.tourfile.specs.Answer.{fault_number, first}
use Rattle.tourfile.specs.Reader.{Turn, start, judged_of, bytes_after, behind, settled, turn_of, or_else, weighed}
use Rattle.tourfile.proofs.Judging.{faulty_not_fine}
use Rattle.tourfile.proofs.Passed.{fine_passed}
use Rattle.tourfile.proofs.Turns.{behind_at}
use Rattle.roundtrip.specs.Least.{Found, found, Test, tests, faults_at, faults_in, is_found, not_after, Least, Lowest, ByLowest}

-- ---- one field

-- the first test that holds gives the fault
first_of : List Test → Judged
first_of [] = (Ok tt)
first_of (t ∷ ts) = first t.holds t.fault (first_of ts)

judged_first : (clips : List ℕ) (p : Progress) (more : Bool) (f : List ℕ) → judged_of clips p more f ≡ first_of (tests clips p more f)
unfolding judged_of first_of
judged_first clips p more f = refl

-- the numbers of the faults rise from test to test
abbrev rising : List Test → Bool
rising [] = true
rising (t ∷ ts) = all (λ u. leb (fault_number t.fault) (fault_number u.fault)) ts && rising ts

tests_rise : (clips : List ℕ) (p : Progress) (more : Bool) (f : List ℕ) → rising (tests clips p more f) ≡ true
tests_rise clips p more f = refl

-- no fault, none found
none_found : (at : ℕ) (ts : List Test) → first_of ts ≡ (Ok tt) → faults_at at ts ≡ []
unfolding first_of first
none_found at [] e = refl
none_found at (t ∷ ts) e = go t.holds e (none_found at ts)
  where
    go : (b : Bool) → first b t.fault (first_of ts) ≡ (Ok tt) → (first_of ts ≡ (Ok tt) → faults_at at ts ≡ []) → cond b (found at t.fault ∷ faults_at at ts) (faults_at at ts) ≡ []
    go true e ih = absurd (faulty_not_fine e)
    go false e ih = ih e

is_found_self : (x : Found) → is_found x x ≡ true
is_found_self x = and_true (eq-eqb x.place x.place refl) (eq-eqb (fault_number x.fault) (fault_number x.fault) refl)

-- a fault comes after none at its place whose number is no lower
same_place : (at : ℕ) (x y : Fault) → fault_number x ≤ fault_number y → not_after (found at x) (found at y) ≡ true
same_place at x y h = or_r (ltb at at) (and_true (eq-eqb at at refl) (le-leb (fault_number x) (fault_number y) h))

rest_after : (at : ℕ) (x : Fault) (ts : List Test) → all (λ u. leb (fault_number x) (fault_number u.fault)) ts ≡ true → all (not_after (found at x)) (faults_at at ts) ≡ true
rest_after at x [] e = refl
rest_after at x (t ∷ ts) e = go t.holds (rest_after at x ts (and_r (leb (fault_number x) (fault_number t.fault)) (all (λ u. leb (fault_number x) (fault_number u.fault)) ts) e))
  where
    h : fault_number x ≤ fault_number t.fault
    h = leb-true (fault_number x) (fault_number t.fault) (and_l (leb (fault_number x) (fault_number t.fault)) (all (λ u. leb (fault_number x) (fault_number u.fault)) ts) e)

    go : (b : Bool) → all (not_after (found at x)) (faults_at at ts) ≡ true → all (not_after (found at x)) (cond b (found at t.fault ∷ faults_at at ts) (faults_at at ts)) ≡ true
    go true ih = and_true (same_place at x t.fault h) ih
    go false ih = ih

-- a field's own fault is the least of its faults
own_least : (at : ℕ) (x : Fault) (ts : List Test) → rising ts ≡ true → first_of ts ≡ Err x → Least (found at x) (faults_at at ts)
unfolding first_of first
own_least at x [] r e = absurd (faulty_not_fine (sym e))
own_least at x (t ∷ ts) r e = go t.holds e (own_least at x ts (and_r (all (λ u. leb (fault_number t.fault) (fault_number u.fault)) ts) (rising ts) r))
  where
    go : (b : Bool) → first b t.fault (first_of ts) ≡ Err x → (first_of ts ≡ Err x → Least (found at x) (faults_at at ts))
        → Least (found at x) (cond b (found at t.fault ∷ faults_at at ts) (faults_at at ts))
    go true e ih =
        let y : t.fault ≡ x = cc in
        let a = rest_after at t.fault ts (and_l (all (λ u. leb (fault_number t.fault) (fault_number u.fault)) ts) (rising ts) r) in
        rw (← y) (record {
          among = or_l (any (is_found (found at t.fault)) (faults_at at ts)) (is_found_self (found at t.fault));
          least = and_true (same_place at t.fault t.fault (omega arith)) a;
        })
    go false e ih = ih e

-- ---- the fields behind it

-- every field has a byte
fields_some : (k : ℕ) (rest : List ℕ) → length rest ≤ k → Each (λ f. 0 < length f) (fields_of rest)
fields_some zero rest h = let z : length rest ≡ 0 = omega arith in rw (fields_none rest z) tt
fields_some (suc k) rest h =
    ⊎_elim
    (λ (s : 0 < length rest).
    let m = piece_some rest s in
    let l = front_length rest in
    rw (fields_front rest s) (omega arith, fields_some k (drop (piece_size rest) rest) (simp length-drop (omega arith))))
    (λ (s : length rest ≤ 0). let z : length rest ≡ 0 = omega arith in rw (fields_none rest z) tt) (lt_or_le 0 (length rest))

-- a fault comes before all at a later place
places_after : (x : Found) (at : ℕ) (ts : List Test) → x.place < at → all (not_after x) (faults_at at ts) ≡ true
places_after x at [] h = refl
places_after x at (t ∷ ts) h = go t.holds (places_after x at ts h)
  where
    go : (b : Bool) → all (not_after x) (faults_at at ts) ≡ true → all (not_after x) (cond b (found at t.fault ∷ faults_at at ts) (faults_at at ts)) ≡ true
    go true ih = and_true (or_l (eqb x.place at && leb (fault_number x.fault) (fault_number t.fault)) (lt-ltb x.place at h)) ih
    go false ih = ih

all_append : (q : Found → Bool) (l m : List Found) → all q l ≡ true → all q m ≡ true → all q (l ++ m) ≡ true
all_append q [] m e g = g
all_append q (a ∷ l) m e g = and_true (and_l (q a) (all q l) e) (all_append q l m (and_r (q a) (all q l) e) g)

any_append : (q : Found → Bool) (l m : List Found) → any q l ≡ true → any q (l ++ m) ≡ true
any_append q [] m e = absurd (never (sym e))
any_append q (a ∷ l) m e = go (q a) e (any_append q l m)
  where
    go : (b : Bool) → b || any q l ≡ true → (any q l ≡ true → any q (l ++ m) ≡ true) → b || any q (l ++ m) ≡ true
    go true e ih = refl
    go false e ih = ih e

later : (clips : List ℕ) (x : Found) (fs : List (List ℕ)) (p : Progress) (ended : Bool) → x.place < p.at → all (not_after x) (faults_in clips p ended fs) ≡ true
unfolding faults_in
later clips x [] p true h = refl
later clips x [] p false h = and_true (or_l (eqb x.place p.at && leb (fault_number x.fault) 102) (lt-ltb x.place p.at h)) refl
later clips x (f ∷ fs) p ended h =
    let b = behind_at p f in
    all_append (not_after x) (faults_at p.at (tests clips p (is_more fs) f)) (faults_in clips (behind p f) (eqb (tag_of f) 3) fs)
    (places_after x p.at (tests clips p (is_more fs) f) h) (later clips x fs (behind p f) (eqb (tag_of f) 3) (omega arith))

-- ---- the file

lowest : (clips : List ℕ) (fs : List (List ℕ)) (p : Progress) → Each (λ f. 0 < length f) fs → Lowest (weighed clips p fs) (faults_in clips p false fs)
unfolding weighed turn_of settled faults_in bytes_after
lowest clips [] p s =
    record { among = or_l false (is_found_self (found p.at Fault.CutShort)); least = and_true (same_place p.at Fault.CutShort Fault.CutShort (omega arith)) refl }
lowest clips (f ∷ fs) p s = go (judged_of clips p (is_more fs) f) refl (lowest clips fs (behind p f) s.1)
  where
    go : (j : Judged) → judged_of clips p (is_more fs) f ≡ j → Lowest (weighed clips (behind p f) fs) (faults_in clips (behind p f) false fs)
        → Lowest (or_else (settled j p f) (λ q. weighed clips q fs)) (faults_at p.at (tests clips p (is_more fs) f) ++ faults_in clips (behind p f) (eqb (tag_of f) 3) fs)
    go (Err x) e ih =
        let o = own_least p.at x (tests clips p (is_more fs) f) (tests_rise clips p (is_more fs) f) (sym (judged_first clips p (is_more fs) f) ∙ e) in
        let b = behind_at p f in
        let z = s.0 in
        record {
          among = any_append (is_found (found p.at x)) (faults_at p.at (tests clips p (is_more fs) f)) (faults_in clips (behind p f) (eqb (tag_of f) 3) fs) o.among;
          least = all_append (not_after (found p.at x)) (faults_at p.at (tests clips p (is_more fs) f)) (faults_in clips (behind p f) (eqb (tag_of f) 3) fs) o.least
              (later clips (found p.at x) fs (behind p f) (eqb (tag_of f) 3) (omega arith));
        }
    go (Ok u) e ih =
        let n = none_found p.at (tests clips p (is_more fs) f) (sym (judged_first clips p (is_more fs) f) ∙ e) in
        rw n (pick (eqb (tag_of f) 3) refl)
      where
        pick : (b : Bool) → eqb (tag_of f) 3 ≡ b → Lowest (or_else (cond {A = Turn} b (Break (Ok p.count)) (Continue (behind p f))) (λ q. weighed clips q fs)) (faults_in clips (behind p f) b fs)
        pick true t = ended fs (rw t at (fine_passed clips p (is_more fs) f e).after)
          where
            ended : (gs : List (List ℕ)) → is_more gs ≡ false → faults_in clips (behind p f) true gs ≡ []
            ended [] m = refl
            ended (g ∷ gs) m = absurd (never m)
        pick false t = ih

pub by_lowest : ByLowest
by_lowest clips file = lowest clips (fields_of file) start (fields_some (length file) file (omega arith))

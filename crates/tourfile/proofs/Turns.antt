-- The reader's turns: what a turn on gives, and how many records an accepted file has. Assumes nothing.
use mathlib.Core.Path.{◌≡◌, refl, sym, ap, ◌∙◌}
use mathlib.Core.Bool.{Bool, true, false, ◌&&◌, cond}
use mathlib.Core.List.{List, [], ◌∷◌}
use Prim.Native.Nat.{ℕ, ◌+◌, ◌-◌, ◌<◌, ◌≤◌}
use native.Mathlib.Omega.{arith}
use borrow.Author.Tests.{eqb-true, ne_eqb}
use lib.ListN.{length, take, drop, length-drop}
use lib.Seq.{drop-drop}
use lib.Dec.{ltb, eqb}
use Rattle.std.specs.Prelude.{Ok, Err}
use Rattle.std.proofs.Common.{Break, Continue}
use Rattle.tourfile.specs.Answer.{Judged}
use Rattle.tourfile.specs.declared.Progress.{Progress}
use Rattle.tourfile.specs.Answer.{TourAnswer}
use Rattle.fields.specs.Field.{piece_size, fields_of, is_more, tag_of, number_in}
use Rattle.tourfile.specs.Reader.{Turn, judged_of, bytes_after, behind, settled, turn_of, or_else, weighed, row_in, rows_in}
use Rattle.tourfile.specs.Steps.{front_turn}
use Rattle.tourfile.proofs.Passed.{fine_passed}
use Rattle.fields.proofs.Fields.{piece_within, piece_some, front_length, fields_front, more_behind, is_piece, n_part, n_behind, part_whole}

pub behind_at : (p : Progress) (f : List ℕ) → (behind p f).at ≡ p.at + length f
unfolding behind
behind_at p f = go (eqb (tag_of f) 2)
  where
    go : (b : Bool) → (cond {A = Progress} b (record { at = p.at + length f; count = p.count + 1; last = number_in f }) (record { at = p.at + length f; count = p.count; last = p.last })).at ≡ p.at + length f
    go true = refl
    go false = refl

pub behind_count : (p : Progress) (f : List ℕ) → (behind p f).count ≤ p.count + 1
unfolding behind
behind_count p f = go (eqb (tag_of f) 2)
  where
    go : (b : Bool) → (cond {A = Progress} b (record { at = p.at + length f; count = p.count + 1; last = number_in f }) (record { at = p.at + length f; count = p.count; last = p.last })).count ≤ p.count + 1
    go true = omega arith
    go false = omega arith

-- a turn on leads behind the field
pub on_behind : (clips : List ℕ) (p : Progress) (more : Bool) (f : List ℕ) (q : Progress) → turn_of clips p more f ≡ Continue q → q ≡ behind p f
unfolding turn_of settled
on_behind clips p more f q e = go (judged_of clips p more f) e
  where
    go : (j : Judged) → settled j p f ≡ Continue q → q ≡ behind p f
    go (Err x) e = let z : ◌≡◌ {A = ℕ} 0 1 = cc in absurd (omega arith)
    go (Ok u) e = pick (eqb (tag_of f) 3) e
      where
        pick : (b : Bool) → cond {A = Turn} b (Break (Ok p.count)) (Continue (behind p f)) ≡ Continue q → q ≡ behind p f
        pick true e = let z : ◌≡◌ {A = ℕ} 0 1 = cc in absurd (omega arith)
        pick false e = cc

-- weighing takes the field at the front, and goes on with what is left
pub weighed_front : (clips : List ℕ) (p : Progress) (rest : List ℕ) → 0 < length rest
    → weighed clips p (fields_of rest) ≡ or_else (front_turn clips p rest) (λ q. weighed clips q (fields_of (drop (piece_size rest) rest)))
unfolding weighed front_turn
weighed_front clips p rest h = rw (fields_front rest h, more_behind rest) refl

module _ (clips file : List ℕ) (p : Progress) (h : p.at < length file) where
  some_left : 0 < length (drop p.at file)
  some_left = simp length-drop (omega arith)

  -- a turn that stops gives the answer
  pub stops : (a : TourAnswer) → front_turn clips p (drop p.at file) ≡ Break a → a ≡ weighed clips p (fields_of (drop p.at file))
  stops a e = sym (weighed_front clips p (drop p.at file) some_left ∙ rw e refl)

  module _ (q : Progress) (e : front_turn clips p (drop p.at file) ≡ Continue q) where
    led : q ≡ behind p (take (piece_size (drop p.at file)) (drop p.at file))
    unfolding front_turn
    led = on_behind clips p (ltb (piece_size (drop p.at file)) (length (drop p.at file))) (take (piece_size (drop p.at file)) (drop p.at file)) q e

    -- one that goes on comes to the next field,
    pub on_at : q.at ≡ p.at + piece_size (drop p.at file)
    on_at = ap (λ (r : Progress). r.at) led ∙ behind_at p (take (piece_size (drop p.at file)) (drop p.at file)) ∙ ap (λ (n : ℕ). p.at + n) (front_length (drop p.at file))

    pub on_further : (p.at < q.at) × (q.at ≤ length file)
    on_further =
        let s = piece_some (drop p.at file) some_left in
        let w : piece_size (drop p.at file) ≤ length file - p.at = rw length-drop at (piece_within (drop p.at file)) in
        let a = on_at in
        (omega arith, omega arith)

    pub on_count : p.count ≤ p.at → q.count ≤ q.at
    on_count g =
        let c : q.count ≤ p.count + 1 = rw (← led) at (behind_count p (take (piece_size (drop p.at file)) (drop p.at file))) in
        let f = on_further in
        omega arith

    -- and has as much to say as before
    pub on_same : weighed clips q (fields_of (drop q.at file)) ≡ weighed clips p (fields_of (drop p.at file))
    on_same =
        let d : drop (piece_size (drop p.at file)) (drop p.at file) ≡ drop q.at file = drop-drop (piece_size (drop p.at file)) p.at file ∙ ap (λ (n : ℕ). drop n file) (sym on_at) in
        sym (weighed_front clips p (drop p.at file) some_left ∙ rw (e, d) refl)

-- the turn of the piece that a loop finds is that of the field at the front
pub front_is : (clips file : List ℕ) (p : Progress) (n : ℕ) → p.at < length file → n ≡ piece_size (take (length file - p.at) (drop p.at file))
    → turn_of clips p (ltb n (length (take (length file - p.at) (drop p.at file)))) (take n (take (length file - p.at) (drop p.at file))) ≡ front_turn clips p (drop p.at file)
unfolding front_turn
front_is clips file p n h e = rw (part_whole p.at file, ← is_piece file p.at n h e) refl

-- an accepted file has as many records as the answer says
pub records_count : (clips : List ℕ) (fs : List (List ℕ)) (p : Progress) (n : ℕ) → weighed clips p fs ≡ Ok n → p.count + length (rows_in clips fs) ≡ n
unfolding weighed rows_in turn_of settled bytes_after behind
records_count clips [] p n e = let z : ◌≡◌ {A = ℕ} 0 1 = cc in absurd (omega arith)
records_count clips (f ∷ fs) p n e = go (λ q g. records_count clips fs q n g) (judged_of clips p (is_more fs) f) refl e
  where
    rest : ℕ
    rest = length (rows_in clips fs)

    last : (b m : Bool) → (b && m) ≡ false → b ≡ true → m ≡ false
    last true m g z = g
    last false m g z = let x : ◌≡◌ {A = ℕ} 0 1 = cc in absurd (omega arith)

    none : (gs : List (List ℕ)) → is_more gs ≡ false → length (rows_in clips gs) ≡ 0
    none [] g = refl
    none (h ∷ hs) g = let x : ◌≡◌ {A = ℕ} 0 1 = cc in absurd (omega arith)

    later : ((q : Progress) → weighed clips q fs ≡ Ok n → q.count + length (rows_in clips fs) ≡ n) → (b : Bool) → eqb (tag_of f) 2 ≡ b
        → weighed clips (cond b (record { at = p.at + length f; count = p.count + 1; last = number_in f }) (record { at = p.at + length f; count = p.count; last = p.last })) fs ≡ Ok n
        → p.count + length (cond b (row_in clips f ∷ rows_in clips fs) (rows_in clips fs)) ≡ n
    later ih true g e = let i = ih (record { at = p.at + length f; count = p.count + 1; last = number_in f }) e in omega arith
    later ih false g e = ih (record { at = p.at + length f; count = p.count; last = p.last }) e

    pick : ((q : Progress) → weighed clips q fs ≡ Ok n → q.count + length (rows_in clips fs) ≡ n) → (b : Bool) → eqb (tag_of f) 3 ≡ b → judged_of clips p (is_more fs) f ≡ (Ok tt)
        → or_else (cond {A = Turn} b (Break (Ok p.count)) (Continue (behind p f))) (λ q. weighed clips q fs) ≡ Ok n
        → p.count + length (cond (eqb (tag_of f) 2) (row_in clips f ∷ rows_in clips fs) (rows_in clips fs)) ≡ n
    pick ih true g j e =
        let t : tag_of f ≡ 3 = eqb-true (tag_of f) 3 g in
        let m : is_more fs ≡ false = last (eqb (tag_of f) 3) (is_more fs) (fine_passed clips p (is_more fs) f j).after g in
        let z = none fs m in
        let c : p.count ≡ n = cc in
        rw t (omega arith)
    pick ih false g j e = later ih (eqb (tag_of f) 2) refl e

    go : ((q : Progress) → weighed clips q fs ≡ Ok n → q.count + length (rows_in clips fs) ≡ n) → (j : Judged) → judged_of clips p (is_more fs) f ≡ j → or_else (settled j p f) (λ q. weighed clips q fs) ≡ Ok n
        → p.count + length (cond (eqb (tag_of f) 2) (row_in clips f ∷ rows_in clips fs) (rows_in clips fs)) ≡ n
    go ih (Err x) j e = let z : ◌≡◌ {A = ℕ} 0 1 = cc in absurd (omega arith)
    go ih (Ok u) j e = pick ih (eqb (tag_of f) 3) refl j e

-- the records from a place on: the command's that stands there, then the later ones'
module _ (clips file : List ℕ) (at n : ℕ) (h : at < length file) (e : n ≡ piece_size (take (length file - at) (drop at file))) where
  split_front : fields_of (drop at file) ≡ take n (take (length file - at) (drop at file)) ∷ fields_of (drop (at + n) file)
  split_front = rw (n_part file at n h e, ← n_behind file at n h e) (fields_front (drop at file) (simp length-drop (omega arith)))

  pub rows_command : tag_of (take n (take (length file - at) (drop at file))) ≡ 2
      → rows_in clips (fields_of (drop at file)) ≡ row_in clips (take n (take (length file - at) (drop at file))) ∷ rows_in clips (fields_of (drop (at + n) file))
  unfolding rows_in
  rows_command t = rw (split_front, t) refl

  pub rows_other : (tag_of (take n (take (length file - at) (drop at file))) ≡ 2 → ⊥) → rows_in clips (fields_of (drop at file)) ≡ rows_in clips (fields_of (drop (at + n) file))
  unfolding rows_in
  rows_other t = rw (split_front, ne_eqb _ _ t) refl

-- A list that a well formed bank has, has no more frames than that bank's room. Assumes nothing.
use mathlib.Core.Path.{◌≡◌, refl, sym, ◌∙◌, subst}
use mathlib.Core.Logic.{◌⊎◌, inl, inr, ⊎_elim}
use mathlib.Core.Bool.{true, false}
use mathlib.Core.List.{List, [], ◌∷◌}
use Prim.Native.Nat.{ℕ, zero, suc, ◌+◌, ◌≤◌, ◌<◌}
use native.Mathlib.Omega.{arith}
use lib.Dec.{eqb}
use borrow.Author.Tests.{eqb-true, eqb-false}
use Rattle.laws.specs.Queue.{Each}
use Rattle.counts.proofs.Truth.{two_ways}
use Rattle.bank.specs.declared.Bank.{Bank}
use Rattle.bank.specs.Slots.{used_at, clip_in}
use Rattle.bank.specs.WellFormed.{bank_ok}
use Rattle.bank.proofs.Clauses.{live_has}
use Rattle.bank.proofs.Packed.{sum_below, frames_in, bank_packed}
use Rattle.cliplist.specs.declared.Entry.{Entry}
use Rattle.cliplist.specs.Start.{spaced, total_of, bank_of}
use Rattle.cliplist.proofs.Built.{last, rest_spaced, total_more}
use Rattle.cliplist.proofs.Found.{Good, none_there, found}

sum_same : (n : ℕ) (w v : ℕ → ℕ) → ((i : ℕ) → i < n → w i ≡ v i) → sum_below n w ≡ sum_below n v
unfolding sum_below
sum_same zero w v h = refl
sum_same (suc n) w v h = rw (sum_same n w v (λ i l. h i (omega arith)), h n (omega arith))

sum_most : (n : ℕ) (w v : ℕ → ℕ) → ((i : ℕ) → i < n → w i ≤ v i) → sum_below n w ≤ sum_below n v
unfolding sum_below
sum_most zero w v h = omega arith
sum_most (suc n) w v h = let a = sum_most n w v (λ i l. h i (omega arith)) in let b = h n (omega arith) in omega arith

-- one term more
sum_more : (n s f : ℕ) (w v : ℕ → ℕ) → s < n → v s ≡ w s + f → ((i : ℕ) → (i ≡ s → ⊥) → v i ≡ w i) → sum_below n v ≡ sum_below n w + f
unfolding sum_below
sum_more zero s f w v l e h = absurd (omega arith)
sum_more (suc n) s f w v l e h =
    ⊎_elim
    (λ (q : eqb s n ≡ true).
    let z : s ≡ n = eqb-true s n q in
    let a : sum_below n v ≡ sum_below n w = sum_same n v w (λ i m. h i (λ y. omega arith)) in
    let b : v n ≡ w n + f = subst (λ (m : ℕ). v m ≡ w m + f) z e in
    omega arith)
    (λ (q : eqb s n ≡ false).
    let z = eqb-false s n q in
    let a = sum_more n s f w v (omega arith) e h in
    let b : v n ≡ w n = h n (λ y. z (sym y)) in
    omega arith)
    (two_ways (eqb s n))

sum_none : (n : ℕ) (w : ℕ → ℕ) → ((i : ℕ) → w i ≡ 0) → sum_below n w ≡ 0
unfolding sum_below
sum_none zero w h = refl
sum_none (suc n) w h = rw (sum_none n w h, h n)

empty_sum : total_of [] ≡ sum_below 32 (frames_in (bank_of []))
unfolding total_of
empty_sum = sym (sum_none 32 (frames_in (bank_of [])) (λ i. rw (none_there i)))

-- the total of a list is the frames in its bank's slots
total_sum : (l : List Entry) → spaced l ≡ true → total_of l ≡ sum_below 32 (frames_in (bank_of l))
total_sum [] h = empty_sum
total_sum (e ∷ l) h =
    let o = last e l h in
    let here : frames_in (bank_of (e ∷ l)) e.handle.slot ≡ frames_in (bank_of l) e.handle.slot + e.frames = rw (o.used_here, o.clip_here, o.free) (omega arith) in
    let there : (i : ℕ) → (i ≡ e.handle.slot → ⊥) → frames_in (bank_of (e ∷ l)) i ≡ frames_in (bank_of l) i = λ i n. rw (o.used_there i n, o.clip_there i n) in
    let ih = total_sum l (rest_spaced e l h) in
    total_more e l ∙ sym (sum_more 32 e.handle.slot e.frames (frames_in (bank_of l)) (frames_in (bank_of (e ∷ l))) o.among here there ∙ rw (← ih))

pub total_fits : (k : Bank) (room : ℕ) → bank_ok k room ≡ true → (l : List Entry) → spaced l ≡ true → Each (Good k) l → total_of l ≤ room
total_fits k room ok l h g =
    let s : total_of l ≡ sum_below 32 (frames_in (bank_of l)) = total_sum l h in
    let m : sum_below 32 (frames_in (bank_of l)) ≤ sum_below 32 (frames_in k) = sum_most 32 (frames_in (bank_of l)) (frames_in k) (λ i b. each i (two_ways (used_at (bank_of l).used i))) in
    let p = bank_packed k room ok in
    omega arith
  where
    each : (i : ℕ) → (used_at (bank_of l).used i ≡ true) ⊎ (used_at (bank_of l).used i ≡ false) → frames_in (bank_of l) i ≤ frames_in k i
    each i (inl u) =
        let y = found k l h g i u in
        let a = live_has k y.entry.handle y.good.0 in
        let used : used_at k.used i ≡ true = rw y.slot at a.used in
        let frames : (clip_in k i).frames ≡ y.entry.frames = rw y.slot at y.good.1.2 in
        rw (u, used, y.clip, frames) (omega arith)
    each i (inr u) = rw u (omega arith)

-- Clips that lie apart in a pool have no more frames together than the pool: each frame of it is counted once. Assumes nothing.
use mathlib.Core.Path.{◌≡◌, refl, sym, ◌∙◌}
use mathlib.Core.Bool.{Bool, true, false, ◌&&◌, ◌||◌, cond}
use mathlib.Core.Logic.{◌⊎◌, inl, inr, ⊎_elim}
use Prim.Native.Nat.{ℕ, zero, suc, ◌+◌, ◌-◌, ◌≤◌, ◌<◌, min}
use native.Mathlib.Omega.{arith}
use lib.Dec.{leb, ltb}
use borrow.Author.Tests.{le-leb, lt-leb, lt-ltb, le-ltb, leb-true, ltb-true}
use Rattle.counts.specs.Below.{count_below, any_below}
use Rattle.counts.proofs.Truth.{lt_or_le, and_l, and_r, or_cases, never}
use Rattle.counts.proofs.Below.{count_at_most}
use Rattle.bank.specs.declared.Bank.{Bank}
use Rattle.bank.specs.Slots.{used_at, clip_in}
use Rattle.bank.specs.WellFormed.{bank_ok}
use Rattle.bank.proofs.Clauses.{bank_clip, bank_pair, pair_apart, apart_has}

-- two tests that never hold together
count_or : (n : ℕ) (p q : ℕ → Bool) → ((f : ℕ) → f < n → p f && q f ≡ false) → count_below n (λ f. p f || q f) ≡ count_below n p + count_below n q
unfolding count_below
count_or zero p q h = omega arith
count_or (suc n) p q h = go (p n) (q n) (h n (omega arith)) (count_or n p q (λ f l. h f (omega arith)))
  where
    go : (a b : Bool) → a && b ≡ false → count_below n (λ f. p f || q f) ≡ count_below n p + count_below n q
        → cond (a || b) (count_below n (λ f. p f || q f) + 1) (count_below n (λ f. p f || q f)) ≡ cond a (count_below n p + 1) (count_below n p) + cond b (count_below n q + 1) (count_below n q)
    go true true e ih = absurd (never e)
    go true false e ih = omega arith
    go false true e ih = omega arith
    go false false e ih = ih

count_none : (n : ℕ) → count_below n (λ f. false) ≡ 0
unfolding count_below
count_none zero = refl
count_none (suc n) = count_none n

-- a frame lies in [s, e)
abbrev lies : ℕ → ℕ → ℕ → Bool
lies s e f = leb s f && ltb f e

-- as many frames lie in it as it has below n
count_lies : (n s e : ℕ) → s ≤ e → count_below n (lies s e) ≡ min e n - min s n
unfolding count_below
count_lies zero s e h = omega arith
count_lies (suc n) s e h =
    let ih : count_below n (lies s e) ≡ min e n - min s n = count_lies n s e h in
    ⊎_elim
    (λ (l : n < s). rw (lt-leb s n l) (omega arith))
    (λ (a : s ≤ n). ⊎_elim (λ (l : n < e). rw (le-leb s n a, lt-ltb n e l) (omega arith)) (λ (l : e ≤ n). rw (le-leb s n a, le-ltb n e l) (omega arith)) (lt_or_le n e))
    (lt_or_le n s)

-- the sum over every number below k
unfoldable pub sum_below : ℕ → (ℕ → ℕ) → ℕ
sum_below zero w = 0
sum_below (suc k) w = sum_below k w + w k

-- clips 0 to k - 1, by start and frames; one of no frames is none
module _ (room : ℕ) (start frames : ℕ → ℕ) where
  abbrev inside : ℕ → ℕ → Bool
  inside i f = lies (start i) (start i + frames i) f

  abbrev covered : ℕ → ℕ → Bool
  covered k f = any_below k (λ i. inside i f)

  -- those with frames lie in the room, apart
  record Apart (k : ℕ) : Type 0 where
    pub within : (i : ℕ) → i < k → 0 < frames i → start i + frames i ≤ room
    pub apart : (i j : ℕ) → i < j → j < k → 0 < frames i → 0 < frames j → (start i + frames i ≤ start j) ⊎ (start j + frames j ≤ start i)

  inside_has : (i f : ℕ) → inside i f ≡ true → (start i ≤ f) × (f < start i + frames i)
  inside_has i f e = (leb-true _ _ (and_l _ _ e), ltb-true _ _ (and_r (leb (start i) f) _ e))

  -- no frame lies in two
  once : (k : ℕ) → Apart (suc k) → (j f : ℕ) → j ≤ k → covered j f ≡ true → inside k f ≡ true → ⊥
  unfolding any_below
  once k a zero f l c e = never (sym c)
  once k a (suc j) f l c e =
      ⊎_elim
      (λ (c : covered j f ≡ true). once k a j f (omega arith) c e)
      (λ (c : inside j f ≡ true).
      let x = inside_has j f c in
      let y = inside_has k f e in
      let x0 = x.0 in let x1 = x.1 in let y0 = y.0 in let y1 = y.1 in
      let o : (start j + frames j ≤ start k) ⊎ (start k + frames k ≤ start j) = a.apart j k (omega arith) (omega arith) (omega arith) (omega arith) in
      ⊎_elim (λ (z : start j + frames j ≤ start k). absurd (omega arith)) (λ (z : start k + frames k ≤ start j). absurd (omega arith)) o)
      (or_cases (covered j f) (inside j f) c)

  never_both : (a b : Bool) → (a ≡ true → b ≡ true → ⊥) → a && b ≡ false
  never_both true true h = absurd (h refl refl)
  never_both true false h = refl
  never_both false b h = refl

  fewer : (k : ℕ) → Apart (suc k) → Apart k
  fewer k a = record { within = λ i l p. a.within i (omega arith) p; apart = λ i j l m p q. a.apart i j l (omega arith) p q }

  own : (k : ℕ) → Apart (suc k) → count_below room (inside k) ≡ frames k
  own k a =
      let e : count_below room (inside k) ≡ min (start k + frames k) room - min (start k) room = count_lies room (start k) (start k + frames k) (omega arith) in
      ⊎_elim
      (λ (p : 0 < frames k). let w = a.within k (omega arith) p in omega arith)
      (λ (p : frames k ≤ 0). omega arith)
      (lt_or_le 0 (frames k))

  counted : (k : ℕ) → Apart k → count_below room (covered k) ≡ sum_below k frames
  unfolding any_below sum_below
  counted zero a = count_none room
  counted (suc k) a =
      count_or room (covered k) (inside k) (λ f l. never_both _ _ (once k a k f (omega arith)))
      ∙ (let x = counted k (fewer k a) in let y = own k a in omega arith)

  -- THE PACKING: their frames together are no more than the room
  packed : (k : ℕ) → Apart k → sum_below k frames ≤ room
  packed k a = let x = counted k a in let y = count_at_most (covered k) room in omega arith

-- ---- in a bank

-- the frames of slot i, none if it is free
abbrev pub frames_in : Bank → ℕ → ℕ
frames_in b i = cond (used_at b.used i) (clip_in b i).frames 0

frames_used : (b : Bank) (i : ℕ) → 0 < frames_in b i → (used_at b.used i ≡ true) × (frames_in b i ≡ (clip_in b i).frames)
frames_used b i h = go (used_at b.used i) refl h
  where
    go : (u : Bool) → used_at b.used i ≡ u → 0 < cond u (clip_in b i).frames 0 → (used_at b.used i ≡ true) × (frames_in b i ≡ (clip_in b i).frames)
    go true e h = (e, rw e)
    go false e h = absurd (omega arith)

-- the clips of a well formed bank have no more frames together than its room
pub bank_packed : (b : Bank) (room : ℕ) → bank_ok b room ≡ true → sum_below 32 (frames_in b) ≤ room
bank_packed b room ok =
    packed room (λ i. (clip_in b i).start) (frames_in b) 32
    (record {
      within = λ i l p. let u = frames_used b i p in let c = (bank_clip b room ok i l u.0).lies in let e = u.1 in omega arith;
      apart = λ i j l m p o.
          let u = frames_used b i p in
          let v = frames_used b j o in
          let e = u.1 in
          let f = v.1 in
          let a = apart_has (clip_in b i) (clip_in b j).start (clip_in b j).frames (pair_apart (clip_in b i) (clip_in b j) (bank_pair b room ok i j (omega arith) m (λ z. omega arith) u.0 v.0)) in
          ⊎_elim (λ (z : (clip_in b i).start + (clip_in b i).frames ≤ (clip_in b j).start). inl (omega arith)) (λ (z : (clip_in b j).start + (clip_in b j).frames ≤ (clip_in b i).start). inr (omega arith)) a;
    })

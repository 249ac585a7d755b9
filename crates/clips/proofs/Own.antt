-- A session's own list, word by word. Assumes nothing.
use mathlib.Core.Path.{◌≡◌, refl, sym, ap, ap₂, ◌∙◌}
use mathlib.Core.Logic.{⊎_elim}
use mathlib.Core.Bool.{true, false}
use mathlib.Core.List.{◌∷◌}
use Prim.Native.Nat.{ℕ, zero, suc, ◌+◌, ◌≤◌, ◌<◌}
use native.Mathlib.Nat.{zero-add}
use native.Mathlib.Omega.{arith}
use lib.ListN.{length, get_or}
use Rattle.counts.specs.declared.Handle.{Handle}
use Rattle.counts.proofs.Truth.{two_ways, never}
use Rattle.bank.specs.declared.Bank.{Bank}
use Rattle.bank.specs.Slots.{used_at, live, clip_in}
use Rattle.bank.proofs.Clauses.{live_has, live_is}
use Rattle.clips.specs.Own.{slot_word, slot_words, clips_of}

-- k slots have k words,
words_length : (b : Bank) (i k : ℕ) → length (slot_words b i k) ≡ k
unfolding slot_words
words_length b i zero = refl
words_length b i (suc k) = ap suc (words_length b (i + 1) k)

-- and the word at a place is its slot's
slots_at : (b : Bank) (k i j m : ℕ) → j < k → i + j ≡ m → get_or (slot_words b i k) j 0 ≡ slot_word b m
unfolding slot_words
slots_at b zero i j m l e = absurd (omega arith)
slots_at b (suc k) i zero m l e = let same : i ≡ m = omega arith in ap (slot_word b) same
slots_at b (suc k) i (suc j) m l e = slots_at b k (i + 1) j m (omega arith) (omega arith)

pub word_at : (b : Bank) (i : ℕ) → i < 32 → get_or (clips_of b) i 0 ≡ slot_word b i
unfolding clips_of
word_at b i l = slots_at b _ 0 i i (omega arith) (zero-add i)

-- there are 32
pub own_length : (b : Bank) → length (clips_of b) ≡ 32
unfolding clips_of
own_length b = words_length b 0 32

-- ---- banks in which the same handles live have the same list

-- a slot that is used in one is used in the other, under the same serial,
used_too : (b k : Bank) → ((h : Handle) → live b h ≡ live k h) → (i : ℕ) → i < 32 → used_at b.used i ≡ true
    → (used_at k.used i ≡ true) × ((clip_in k i).serial ≡ (clip_in b i).serial)
used_too b k same i l u =
    let h : Handle = record { slot = i; serial = (clip_in b i).serial } in
    let a = live_has k h (sym (same h) ∙ live_is b h (record { among = l; used = u; serial = refl })) in
    (a.used, a.serial)

module _ (b k : Bank) (same : (h : Handle) → live b h ≡ live k h) where
  -- so its word is the same,
  word_same : (i : ℕ) → i < 32 → slot_word b i ≡ slot_word k i
  unfolding slot_word
  word_same i l =
      ⊎_elim
      (λ (u : used_at b.used i ≡ true). let o = used_too b k same i l u in rw (u, o.0, o.1) refl)
      (λ (u : used_at b.used i ≡ false).
      ⊎_elim
      (λ (v : used_at k.used i ≡ true). absurd (never (sym (used_too k b (λ h. sym (same h)) i l v).0 ∙ u)))
      (λ (v : used_at k.used i ≡ false). rw (u, v) refl)
      (two_ways (used_at k.used i)))
      (two_ways (used_at b.used i))

  words_same : (n i : ℕ) → i + n ≤ 32 → slot_words b i n ≡ slot_words k i n
  unfolding slot_words
  words_same zero i l = refl
  words_same (suc n) i l = ap₂ ◌∷◌ (word_same i (omega arith)) (words_same n (i + 1) (omega arith))

  -- as is the list
  pub own_same : clips_of b ≡ clips_of k
  unfolding clips_of
  own_same = words_same 32 0 (omega arith)

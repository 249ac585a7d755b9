-- A bank is well formed exactly if each used slot's clip is and every two of them are apart, with distinct serials; a handle is live
-- exactly if its slot is used and has its serial. Assumes nothing.
use mathlib.Core.Path.{◌≡◌, refl, sym, ◌∙◌}
use mathlib.Core.Bool.{Bool, true, false, not, ◌&&◌, ◌||◌, cond}
use mathlib.Core.Logic.{◌⊎◌, inl, inr}
use Prim.Native.Nat.{ℕ, ◌+◌, ◌≤◌, ◌<◌}
use native.Mathlib.Omega.{arith}
use borrow.Author.Tests.{le-leb, leb-true, lt-ltb, ltb-true, eqb-true, eq-eqb, eqb-false, ne_eqb}
use lib.Dec.{leb, ltb, eqb}
use Rattle.counts.specs.Below.{within, all_below}
use Rattle.counts.proofs.Truth.{two_ways, lt_or_le, never, and_true, and_l, and_r, and_false_l, and_false_r, or_l, or_r, or_cases, not_true, not_false}
use Rattle.counts.proofs.Below.{within_is, within_low, within_high, all_true, all_false, all_at}
use Rattle.counts.specs.declared.Handle.{Handle}
use Rattle.bank.specs.declared.Clip.{Clip}
use Rattle.bank.specs.declared.Bank.{Bank}
use Rattle.bank.specs.declared.Stands.{Stands}
use Rattle.bank.specs.Slots.{used_at, clip_in, clip_of, live, clip_stands, stands_for}
use Rattle.bank.specs.Room.{apart}
use Rattle.bank.specs.WellFormed.{rate_ok, extent_ok, clip_ok, pair_ok, beside_ok, slot_ok, bank_ok}

-- ---- one clip

-- a well formed clip's clauses
pub record Clauses (room last : ℕ) (c : Clip) : Type 0 where
  pub long : 1 ≤ c.frames
  pub rated : rate_ok c.rate ≡ true
  pub lasts : extent_ok c.kind c.frames ≡ true
  pub lies : c.start + c.frames ≤ room
  pub first : 1 ≤ c.serial
  pub given : c.serial ≤ last

five : (a b c d e : Bool) → a && b && c && d && e ≡ true → (a ≡ true) × (b ≡ true) × (c ≡ true) × (d ≡ true) × (e ≡ true)
five true true true true e p = (refl, refl, refl, refl, p)
five true true true false e p = absurd (never (sym p))
five true true false d e p = absurd (never (sym p))
five true false c d e p = absurd (never (sym p))
five false b c d e p = absurd (never (sym p))

module _ (room last : ℕ) (c : Clip) where
  -- a clip that is well formed has each
  pub clip_has : clip_ok room last c ≡ true → Clauses room last c
  unfolding clip_ok
  clip_has e =
      let t = five (leb 1 c.frames) (rate_ok c.rate) (extent_ok c.kind c.frames) (leb (c.start + c.frames) room) (within 1 last c.serial) e in
      record {
        long = leb-true 1 c.frames t.0;
        rated = t.1;
        lasts = t.2;
        lies = leb-true (c.start + c.frames) room t.3;
        first = within_low 1 last c.serial t.4;
        given = within_high 1 last c.serial t.4;
      }

  -- a clip that has each is well formed
  pub clip_is : Clauses room last c → clip_ok room last c ≡ true
  unfolding clip_ok
  clip_is f =
      and_true
      (and_true (and_true (and_true (le-leb 1 c.frames f.long) f.rated) f.lasts) (le-leb (c.start + c.frames) room f.lies))
      (within_is 1 last c.serial f.first f.given)

-- ---- two clips

-- a clip that has none of n frames ends before them or starts after
pub apart_has : (c : Clip) (s n : ℕ) → apart c s n ≡ true → (c.start + c.frames ≤ s) ⊎ (s + n ≤ c.start)
unfolding apart
apart_has c s n e = go (or_cases (leb (c.start + c.frames) s) (leb (s + n) c.start) e)
  where
    go : (leb (c.start + c.frames) s ≡ true) ⊎ (leb (s + n) c.start ≡ true) → (c.start + c.frames ≤ s) ⊎ (s + n ≤ c.start)
    go (inl p) = inl (leb-true (c.start + c.frames) s p)
    go (inr p) = inr (leb-true (s + n) c.start p)

module _ (c d : Clip) where
  -- being apart goes both ways
  apart_sym : apart c d.start d.frames ≡ true → apart d c.start c.frames ≡ true
  unfolding apart
  apart_sym e = go (apart_has c d.start d.frames e)
    where
      go : (c.start + c.frames ≤ d.start) ⊎ (d.start + d.frames ≤ c.start) → leb (d.start + d.frames) c.start || leb (c.start + c.frames) d.start ≡ true
      go (inl l) = or_r (leb (d.start + d.frames) c.start) (le-leb (c.start + c.frames) d.start l)
      go (inr l) = or_l (leb (c.start + c.frames) d.start) (le-leb (d.start + d.frames) c.start l)

  -- two clips of a well formed bank are apart
  pub pair_apart : pair_ok c d ≡ true → apart c d.start d.frames ≡ true
  unfolding pair_ok
  pair_apart e = and_l (apart c d.start d.frames) (not (eqb c.serial d.serial)) e

  -- and have distinct serials
  pub pair_serials : pair_ok c d ≡ true → c.serial ≡ d.serial → ⊥
  unfolding pair_ok
  pair_serials e = eqb-false c.serial d.serial (not_true (eqb c.serial d.serial) (and_r (apart c d.start d.frames) (not (eqb c.serial d.serial)) e))

  -- two clips that are so are a pair in order
  pub pair_is : apart c d.start d.frames ≡ true → (c.serial ≡ d.serial → ⊥) → pair_ok c d ≡ true
  unfolding pair_ok
  pair_is a n = and_true a (not_false (ne_eqb c.serial d.serial n))

-- a pair is in order either way round
pub pair_sym : (c d : Clip) → pair_ok c d ≡ true → pair_ok d c ≡ true
pair_sym c d e = pair_is d c (apart_sym c d (pair_apart c d e)) (λ x. pair_serials c d e (sym x))

-- ---- one slot

-- beside the clip of a used slot: the pair,
pub beside_used : (b : Bank) (c d : Clip) (j : ℕ) → d ≡ clip_in b j → used_at b.used j ≡ true → beside_ok b c j ≡ pair_ok c d
unfolding beside_ok
beside_used b c d j e u = rw (u, sym e) refl

-- beside a free slot: nothing
pub beside_free : (b : Bank) (c : Clip) (j : ℕ) → used_at b.used j ≡ false → beside_ok b c j ≡ true
unfolding beside_ok
beside_free b c j u = rw u refl

-- nothing is asked of a free slot
pub slot_free : (b : Bank) (room i : ℕ) → used_at b.used i ≡ false → slot_ok b room i ≡ true
unfolding slot_ok
slot_free b room i u = rw u refl

module _ (b : Bank) (room i : ℕ) (c : Clip) (e : c ≡ clip_in b i) (u : used_at b.used i ≡ true) where
  slot_used : slot_ok b room i ≡ clip_ok room b.last c && all_below i (beside_ok b c)
  unfolding slot_ok
  slot_used = rw (u, e) refl

  -- a used slot fails by its clip,
  pub clip_fails : clip_ok room b.last c ≡ false → slot_ok b room i ≡ false
  clip_fails h = slot_used ∙ and_false_l (all_below i (beside_ok b c)) h

  -- or by that clip beside one of a lower slot,
  pub beside_fails : (j : ℕ) → j < i → beside_ok b c j ≡ false → slot_ok b room i ≡ false
  beside_fails j l h = slot_used ∙ and_false_r (clip_ok room b.last c) (all_false (beside_ok b c) i j l h)

  -- and is in order by both
  pub slot_holds : clip_ok room b.last c ≡ true → ((j : ℕ) → j < i → beside_ok b c j ≡ true) → slot_ok b room i ≡ true
  slot_holds h f = slot_used ∙ and_true h (all_true (beside_ok b c) i f)

-- ---- every slot

module _ (b : Bank) (room : ℕ) where
  -- slot i is used
  abbrev Used : ℕ → Type 0
  Used i = used_at b.used i ≡ true

  module _ (ok : bank_ok b room ≡ true) where
    slot : (i : ℕ) → i < 32 → Used i → clip_ok room b.last (clip_in b i) && all_below i (beside_ok b (clip_in b i)) ≡ true
    unfolding bank_ok slot_ok
    slot i l u = rw u at (all_at (slot_ok b room) 32 i ok l)

    -- the clip in a used slot is well formed
    pub bank_clip : (i : ℕ) → i < 32 → used_at b.used i ≡ true → Clauses room b.last (clip_in b i)
    bank_clip i l u = clip_has room b.last (clip_in b i) (and_l (clip_ok room b.last (clip_in b i)) (all_below i (beside_ok b (clip_in b i))) (slot i l u))

    below : (i j : ℕ) → i < 32 → j < i → Used i → Used j → pair_ok (clip_in b i) (clip_in b j) ≡ true
    unfolding beside_ok
    below i j l q u v =
        let beside = and_r (clip_ok room b.last (clip_in b i)) (all_below i (beside_ok b (clip_in b i))) (slot i l u) in
        rw v at (all_at (beside_ok b (clip_in b i)) i j beside q)

    -- the clips in two used slots are a pair in order
    pub bank_pair : (i j : ℕ) → i < 32 → j < 32 → (i ≡ j → ⊥) → used_at b.used i ≡ true → used_at b.used j ≡ true → pair_ok (clip_in b i) (clip_in b j) ≡ true
    bank_pair i j l m n u v = go (lt_or_le j i)
      where
        go : (j < i) ⊎ (i ≤ j) → pair_ok (clip_in b i) (clip_in b j) ≡ true
        go (inl q) = below i j l q u v
        go (inr q) = pair_sym (clip_in b j) (clip_in b i) (below j i m (omega arith) v u)

  -- a bank whose used slots are so is well formed
  pub bank_is : ((i : ℕ) → i < 32 → used_at b.used i ≡ true → Clauses room b.last (clip_in b i))
      → ((i j : ℕ) → i < 32 → j < i → used_at b.used i ≡ true → used_at b.used j ≡ true → pair_ok (clip_in b i) (clip_in b j) ≡ true)
      → bank_ok b room ≡ true
  unfolding bank_ok slot_ok beside_ok
  bank_is f g = all_true (slot_ok b room) 32 (λ i l. go i l (two_ways (used_at b.used i)))
    where
      beside : (i : ℕ) → i < 32 → Used i → (j : ℕ) → j < i → Used j ⊎ (used_at b.used j ≡ false) → beside_ok b (clip_in b i) j ≡ true
      beside i l u j q (inl v) = rw v (g i j l q u v)
      beside i l u j q (inr v) = rw v

      go : (i : ℕ) → i < 32 → Used i ⊎ (used_at b.used i ≡ false) → slot_ok b room i ≡ true
      go i l (inl u) =
          let pairs = all_true (beside_ok b (clip_in b i)) i (λ j q. beside i l u j q (two_ways (used_at b.used j))) in
          rw u (and_true (clip_is room b.last (clip_in b i) (f i l u)) pairs)
      go i l (inr u) = rw u

-- ---- a live handle

-- a live handle's clauses
pub record Alive (b : Bank) (h : Handle) : Type 0 where
  pub among : h.slot < 32
  pub used : used_at b.used h.slot ≡ true
  pub serial : (clip_of b h).serial ≡ h.serial

module _ (b : Bank) (h : Handle) where
  -- a live handle has each
  pub live_has : live b h ≡ true → Alive b h
  unfolding live
  live_has e =
      let e₁ = and_r (ltb h.slot 32) (used_at b.used h.slot && eqb (clip_of b h).serial h.serial) e in
      record {
        among = ltb-true h.slot 32 (and_l (ltb h.slot 32) (used_at b.used h.slot && eqb (clip_of b h).serial h.serial) e);
        used = and_l (used_at b.used h.slot) (eqb (clip_of b h).serial h.serial) e₁;
        serial = eqb-true (clip_of b h).serial h.serial (and_r (used_at b.used h.slot) (eqb (clip_of b h).serial h.serial) e₁);
      }

  -- a handle that has each is live
  pub live_is : Alive b h → live b h ≡ true
  unfolding live
  live_is a = and_true (lt-ltb h.slot 32 a.among) (and_true a.used (eq-eqb (clip_of b h).serial h.serial a.serial))

-- what a handle stands for is said by the clip in its slot and by the number that marks the used ones
pub stands_clip : (b : Bank) (h : Handle) {used : ℕ} {clip : Clip} → b.used ≡ used → (h.slot < 32 → clip_of b h ≡ clip) → h.slot < 32
    → stands_for b h ≡ cond (used_at used h.slot && eqb clip.serial h.serial) (clip_stands clip.kind clip.rate) Stands.Stale
unfolding stands_for live
stands_clip b h e f l = rw (e, f l, lt-ltb h.slot 32 l) refl

-- The bank of a list has that list, where each clip has a slot of its own. Assumes nothing.
use mathlib.Core.Path.{◌≡◌, refl, sym, ap, ◌∙◌}
use mathlib.Core.Logic.{⊎_elim}
use mathlib.Core.Bool.{Bool, true, false, not, ◌&&◌, ◌||◌}
use mathlib.Core.List.{List, [], ◌∷◌}
use Prim.Native.Nat.{ℕ, ◌+◌, ◌<◌}
use lib.Dec.{ltb, eqb}
use lib.ListN.{length, length-set, length-replicate}
use lib.Seq.{get_or-set_same, get_or-set_other}
use borrow.Author.Tests.{ltb-true, lt-ltb, eqb-true, eqb-false, eq-eqb, ne_eqb}
use Rattle.laws.specs.Queue.{Each}
use Rattle.laws.proofs.Lists.{each_map}
use Rattle.counts.specs.declared.Handle.{Handle}
use Rattle.counts.proofs.Truth.{two_ways, and_l, and_r, and_false_r, not_true, never}
use Rattle.bank.specs.declared.Bank.{Bank}
use Rattle.bank.specs.Slots.{blank, used_at, live, clip_in}
use Rattle.bank.proofs.Slots.{none_used, marked_here, marked_there}
use Rattle.cliplist.specs.declared.Entry.{Entry}
use Rattle.cliplist.specs.Start.{names, Listed, Has, takes, spaced, total_of, clip_at, no_clips, listed_in, bank_of}

-- a bank that was built of a list
pub record Built (l : List Entry) (b : Bank) : Type 0 where
  pub has : Has l b
  pub marks : (i : ℕ) → used_at b.used i ≡ takes l i
  pub used : Each (λ (e : Entry). used_at b.used e.handle.slot ≡ true) l
  pub places : length b.clips ≡ 32

eqb_turn : (a b : ℕ) → eqb a b ≡ eqb b a
eqb_turn a b =
    ⊎_elim
    (λ (e : eqb b a ≡ true). rw e (eq-eqb a b (sym (eqb-true b a e))))
    (λ (e : eqb b a ≡ false). rw e (ne_eqb a b (λ h. eqb-false b a e (sym h))))
    (two_ways (eqb b a))

or_false_r : (a b : Bool) → b ≡ false → a ≡ a || b
or_false_r true b e = refl
or_false_r false b e = sym e

-- ---- no clip

empty_live : (h : Handle) → live no_clips h ≡ false
unfolding live no_clips
empty_live h = rw (none_used h.slot) (and_false_r (ltb h.slot 32) refl)

empty_marks : (i : ℕ) → used_at no_clips.used i ≡ false
unfolding no_clips
empty_marks i = none_used i

empty_places : length no_clips.clips ≡ 32
unfolding no_clips
empty_places = length-replicate 32 blank

built_none : Built [] no_clips
built_none = record { has = record { lives = empty_live; clips = tt }; marks = empty_marks; used = tt; places = empty_places }

-- ---- one clip more

module _ (l : List Entry) (b : Bank) (o : Built l b) (e : Entry) (start : ℕ) (among : e.handle.slot < 32) (free : used_at b.used e.handle.slot ≡ false) where
  abbrev slot : ℕ
  slot = e.handle.slot

  abbrev more : Bank
  more = listed_in b e start

  clip_now : clip_in more slot ≡ clip_at e start
  unfolding listed_in
  clip_now = get_or-set_same b.clips slot (clip_at e start) blank (rw o.places among)

  clip_else : (i : ℕ) → (i ≡ slot → ⊥) → clip_in more i ≡ clip_in b i
  unfolding listed_in
  clip_else i n = get_or-set_other b.clips slot i (clip_at e start) blank n

  used_now : used_at more.used slot ≡ true
  unfolding listed_in
  used_now = marked_here b.used slot free

  used_else : (i : ℕ) → (i ≡ slot → ⊥) → used_at more.used i ≡ used_at b.used i
  unfolding listed_in
  used_else i n = marked_there b.used slot free i n

  live_here : (h : Handle) → h.slot ≡ slot → live more h ≡ names (e ∷ l) h
  unfolding live
  live_here h s =
      let here : used_at more.used h.slot ≡ true = rw s used_now in
      let clip : clip_in more h.slot ≡ clip_at e start = rw s clip_now in
      let gone : used_at b.used h.slot ≡ false = rw s free in
      rw (lt-ltb h.slot 32 (rw s among), here, clip, eq-eqb h.slot slot s, eqb_turn h.serial e.handle.serial)
      (or_false_r _ _ (sym (o.has.lives h) ∙ rw (lt-ltb h.slot 32 (rw s among), gone)))

  live_there : (h : Handle) → (h.slot ≡ slot → ⊥) → live more h ≡ names (e ∷ l) h
  unfolding live
  live_there h n = rw (used_else h.slot n, clip_else h.slot n, ne_eqb h.slot slot n) (o.has.lives h)

  -- a listed slot that was used before is another
  other : (x : Entry) → used_at b.used x.handle.slot ≡ true → x.handle.slot ≡ slot → ⊥
  other x u s = never (sym u ∙ rw s free)

  still : (k : List Entry) → Each (λ (x : Entry). used_at b.used x.handle.slot ≡ true) k → Each (Listed b) k → Each (Listed more) k
  still [] u c = tt
  still (x ∷ k) u c = (rw (clip_else x.handle.slot (other x u.0)) c.0, still k u.1 c.1)

  here : Listed more e
  here = rw clip_now (refl, refl, refl)

  longer : length more.clips ≡ 32
  unfolding listed_in
  longer = length-set b.clips slot (clip_at e start) ∙ o.places

  built_more : Built (e ∷ l) more
  built_more =
      record {
        has =
            record {
              lives = λ h. ⊎_elim (λ (s : eqb h.slot slot ≡ true). live_here h (eqb-true _ _ s)) (λ (s : eqb h.slot slot ≡ false). live_there h (eqb-false _ _ s)) (two_ways (eqb h.slot slot));
              clips = (here, still l o.used o.has.clips);
            };
        marks = λ i. ⊎_elim
            (λ (s : eqb i slot ≡ true). rw s (ap (used_at more.used) (eqb-true i slot s) ∙ used_now))
            (λ (s : eqb i slot ≡ false). rw s (used_else i (eqb-false i slot s) ∙ o.marks i))
            (two_ways (eqb i slot));
        used = (used_now, each_map _ _ (λ x u. used_else x.handle.slot (other x u) ∙ u) l o.used);
        places = longer;
      }

-- ---- a list whose clips have slots of their own

pub total_more : (e : Entry) (l : List Entry) → total_of (e ∷ l) ≡ total_of l + e.frames
unfolding total_of
total_more e l = refl

module _ (e : Entry) (l : List Entry) (h : spaced (e ∷ l) ≡ true) where
  abbrev slot_test : Bool
  slot_test = ltb e.handle.slot 32

  abbrev free_test : Bool
  free_test = not (takes l e.handle.slot)

  pub rest_spaced : spaced l ≡ true
  unfolding spaced
  rest_spaced = and_r (slot_test && free_test) (spaced l) h

  slot_among : e.handle.slot < 32
  unfolding spaced
  slot_among = ltb-true e.handle.slot 32 (and_l slot_test free_test (and_l (slot_test && free_test) (spaced l) h))

  slot_new : takes l e.handle.slot ≡ false
  unfolding spaced
  slot_new = not_true _ (and_r slot_test free_test (and_l (slot_test && free_test) (spaced l) h))

-- THE LIST'S BANK has it
pub built : (l : List Entry) → spaced l ≡ true → Built l (bank_of l)
unfolding bank_of
built [] h = built_none
built (e ∷ l) h =
    let o = built l (rest_spaced e l h) in
    built_more l (bank_of l) o e (total_of l) (slot_among e l h) (o.marks e.handle.slot ∙ slot_new e l h)

-- its last line's clip lies behind the others, which stand as they stood
pub record Last (e : Entry) (l : List Entry) : Type 0 where
  pub among : e.handle.slot < 32
  pub free : used_at (bank_of l).used e.handle.slot ≡ false
  pub clip_here : clip_in (bank_of (e ∷ l)) e.handle.slot ≡ clip_at e (total_of l)
  pub clip_there : (i : ℕ) → (i ≡ e.handle.slot → ⊥) → clip_in (bank_of (e ∷ l)) i ≡ clip_in (bank_of l) i
  pub used_here : used_at (bank_of (e ∷ l)).used e.handle.slot ≡ true
  pub used_there : (i : ℕ) → (i ≡ e.handle.slot → ⊥) → used_at (bank_of (e ∷ l)).used i ≡ used_at (bank_of l).used i

pub last : (e : Entry) (l : List Entry) → spaced (e ∷ l) ≡ true → Last e l
unfolding bank_of
last e l h =
    let o = built l (rest_spaced e l h) in
    let a = slot_among e l h in
    let f : used_at (bank_of l).used e.handle.slot ≡ false = o.marks e.handle.slot ∙ slot_new e l h in
    record {
      among = a;
      free = f;
      clip_here = clip_now l (bank_of l) o e (total_of l) a f;
      clip_there = clip_else l (bank_of l) o e (total_of l) a f;
      used_here = used_now l (bank_of l) o e (total_of l) a f;
      used_there = used_else l (bank_of l) o e (total_of l) a f;
    }

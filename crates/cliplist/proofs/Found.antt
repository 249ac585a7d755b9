-- What stands in the slots of a list's bank, where some well formed bank has the list: the bank is well formed too. Assumes nothing.
use mathlib.Core.Path.{◌≡◌, refl, sym, ap, ◌∙◌}
use mathlib.Core.Logic.{◌⊎◌, inl, inr, ⊎_elim}
use mathlib.Core.Bool.{true, false}
use mathlib.Core.List.{List, [], ◌∷◌}
use Prim.Native.Nat.{ℕ, ◌+◌, ◌-◌, ◌^◌, ◌≤◌, ◌<◌}
use native.Mathlib.Omega.{arith}
use lib.Dec.{leb, eqb}
use borrow.Author.Tests.{le-leb, eqb-true, eqb-false, eq-eqb}
use Rattle.laws.specs.Queue.{Each}
use Rattle.counts.specs.declared.Handle.{Handle}
use Rattle.counts.specs.Handles.{same_handle}
use Rattle.counts.proofs.Truth.{two_ways, and_true, never, or_l, or_r}
use Rattle.bank.specs.declared.Bank.{Bank}
use Rattle.bank.specs.declared.Clip.{Clip}
use Rattle.bank.specs.Slots.{used_at, live, clip_in, clip_of}
use Rattle.bank.specs.Room.{apart}
use Rattle.bank.specs.WellFormed.{bank_ok}
use Rattle.bank.proofs.Slots.{none_used}
use Rattle.bank.proofs.Clauses.{Clauses, bank_pair, bank_is, pair_is, pair_serials, live_has}
use Rattle.bank.proofs.Handles.{live_clip}
use Rattle.cliplist.specs.declared.Entry.{Entry}
use Rattle.cliplist.specs.Start.{names, Listed, Has, spaced, total_of, clip_at, no_clips, listed_in, bank_of}
use Rattle.cliplist.proofs.Built.{last, rest_spaced, total_more}

-- ---- the lines of a list that a bank has

-- a line whose handle is live and stands for its clip
abbrev pub Good : Bank → Entry → Type 0
Good k x = (live k x.handle ≡ true) × Listed k x

-- a handle is the same as itself
pub same_self : (h : Handle) → same_handle h h ≡ true
same_self h = and_true (eq-eqb h.slot h.slot refl) (eq-eqb h.serial h.serial refl)

each_lives : (k : Bank) (l : List Entry) → ((h : Handle) → names l h ≡ true → live k h ≡ true) → Each (Listed k) l → Each (Good k) l
each_lives k [] f c = tt
each_lives k (x ∷ l) f c =
    ((f x.handle (or_l (names l x.handle) (same_self x.handle)), c.0), each_lives k l (λ h e. f h (or_r (same_handle h x.handle) e)) c.1)

-- every line of a list that a bank has is such a one
pub each_good : (k : Bank) (l : List Entry) → Has l k → Each (Good k) l
each_good k l h = each_lives k l (λ x e. h.lives x ∙ e) h.clips

-- ---- what stands in its slots

pub none_there : (i : ℕ) → used_at (bank_of []).used i ≡ false
unfolding bank_of no_clips
none_there i = none_used i

module _ (k : Bank) where
  -- slot i of the list's bank holds a line's clip, which ends within the total
  pub record Found (l : List Entry) (i : ℕ) : Type 0 where
    pub entry : Entry
    pub start : ℕ
    pub clip : clip_in (bank_of l) i ≡ clip_at entry start
    pub slot : entry.handle.slot ≡ i
    pub ends : start + entry.frames ≤ total_of l
    pub good : Good k entry

  pub found : (l : List Entry) → spaced l ≡ true → Each (Good k) l → (i : ℕ) → used_at (bank_of l).used i ≡ true → Found l i
  found [] h g i u = absurd (never (sym u ∙ none_there i))
  found (e ∷ l) h g i u =
      let o = last e l h in
      ⊎_elim
      (λ (s : eqb i e.handle.slot ≡ true).
      let q : i ≡ e.handle.slot = eqb-true _ _ s in
      record {
        entry = e;
        start = total_of l;
        clip = ap (clip_in (bank_of (e ∷ l))) q ∙ o.clip_here;
        slot = sym q;
        ends = rw (total_more e l) (omega arith);
        good = g.0;
      })
      (λ (s : eqb i e.handle.slot ≡ false).
      let n = eqb-false i e.handle.slot s in
      let y : Found l i = found l (rest_spaced e l h) g.1 i (sym (o.used_there i n) ∙ u) in
      record {
        entry = y.entry;
        start = y.start;
        clip = o.clip_there i n ∙ y.clip;
        slot = y.slot;
        ends = rw (total_more e l) (let z = y.ends in omega arith);
        good = y.good;
      })
      (two_ways (eqb i e.handle.slot))

  -- the clip of slot i ends before that of slot j
  abbrev Ends : List Entry → ℕ → ℕ → Type 0
  Ends l i j = (clip_in (bank_of l) i).start + (clip_in (bank_of l) i).frames ≤ (clip_in (bank_of l) j).start

  -- two slots of the list's bank lie apart
  apart_in : (l : List Entry) → spaced l ≡ true → Each (Good k) l → (i j : ℕ) → (i ≡ j → ⊥) → used_at (bank_of l).used i ≡ true → used_at (bank_of l).used j ≡ true
      → Ends l i j ⊎ Ends l j i
  apart_in [] h g i j n u v = absurd (never (sym u ∙ none_there i))
  apart_in (e ∷ l) h g i j n u v =
      let o = last e l h in
      let before : (m : ℕ) → (m ≡ e.handle.slot → ⊥) → used_at (bank_of (e ∷ l)).used m ≡ true → used_at (bank_of l).used m ≡ true = λ m d w. sym (o.used_there m d) ∙ w in
      let within : (m : ℕ) → used_at (bank_of l).used m ≡ true → (clip_in (bank_of l) m).start + (clip_in (bank_of l) m).frames ≤ total_of l =
      λ m w. let y = found l (rest_spaced e l h) g.1 m w in rw y.clip y.ends in
      ⊎_elim
      (λ (s : eqb i e.handle.slot ≡ true).
      let q : i ≡ e.handle.slot = eqb-true _ _ s in
      let d : j ≡ e.handle.slot → ⊥ = λ z. n (q ∙ sym z) in
      inr (rw (q, o.clip_here, o.clip_there j d) (within j (before j d v))))
      (λ (s : eqb i e.handle.slot ≡ false).
      let c = eqb-false i e.handle.slot s in
      ⊎_elim
      (λ (z : eqb j e.handle.slot ≡ true). let q : j ≡ e.handle.slot = eqb-true _ _ z in inl (rw (q, o.clip_here, o.clip_there i c) (within i (before i c u))))
      (λ (z : eqb j e.handle.slot ≡ false).
      let d = eqb-false j e.handle.slot z in
      rw (o.clip_there i c, o.clip_there j d) (apart_in l (rest_spaced e l h) g.1 i j n (before i c u) (before j d v)))
      (two_ways (eqb j e.handle.slot)))
      (two_ways (eqb i e.handle.slot))

  -- ---- the bank k is well formed, and its serials have 32 bits

  module _ (room : ℕ) (ok : bank_ok k room ≡ true) (small : k.last < 2 ^ 32) where
    last_of : (l : List Entry) → (bank_of l).last ≡ 2 ^ 32 - 1
    unfolding bank_of listed_in no_clips
    last_of [] = refl
    last_of (e ∷ l) = last_of l

    pub listed_clauses : (l : List Entry) (i : ℕ) → Found l i → Clauses (total_of l) (bank_of l).last (clip_in (bank_of l) i)
    listed_clauses l i y =
        let x : Entry = y.entry in
        let c = live_clip k room ok x.handle y.good.0 in
        let a = live_has k x.handle y.good.0 in
        let same = y.good.1 in
        rw (y.clip, last_of l)
        (record {
          long = rw same.2 at c.long;
          rated = rw same.1 at c.rated;
          lasts = rw (same.0, same.2) at c.lasts;
          lies = y.ends;
          first = rw a.serial at c.first;
          given = let z = c.given in let w = a.serial in omega arith;
        })

    module _ (l : List Entry) (h : spaced l ≡ true) (g : Each (Good k) l) where
      serials_differ : (i j : ℕ) → (i ≡ j → ⊥) → Found l i → Found l j → (clip_in (bank_of l) i).serial ≡ (clip_in (bank_of l) j).serial → ⊥
      serials_differ i j n y z e =
          let a = live_has k y.entry.handle y.good.0 in
          let b = live_has k z.entry.handle z.good.0 in
          let d : y.entry.handle.slot ≡ z.entry.handle.slot → ⊥ = λ q. n (sym y.slot ∙ q ∙ z.slot) in
          let s : y.entry.handle.serial ≡ z.entry.handle.serial = ap (λ (c : Clip). c.serial) (sym y.clip) ∙ e ∙ ap (λ (c : Clip). c.serial) z.clip in
          pair_serials (clip_of k y.entry.handle) (clip_of k z.entry.handle)
          (bank_pair k room ok y.entry.handle.slot z.entry.handle.slot a.among b.among d a.used b.used)
          (a.serial ∙ s ∙ sym b.serial)

      ends_apart : (c d : Clip) → (c.start + c.frames ≤ d.start) ⊎ (d.start + d.frames ≤ c.start) → apart c d.start d.frames ≡ true
      unfolding apart
      ends_apart c d (inl p) = or_l (leb (d.start + d.frames) c.start) (le-leb (c.start + c.frames) d.start p)
      ends_apart c d (inr p) = or_r (leb (c.start + c.frames) d.start) (le-leb (d.start + d.frames) c.start p)

      -- THE LIST'S BANK IS WELL FORMED in a pool of the frames of all
      pub bank_formed : bank_ok (bank_of l) (total_of l) ≡ true
      bank_formed =
          bank_is (bank_of l) (total_of l)
          (λ i m u. listed_clauses l i (found l h g i u))
          (λ i j m q u v.
          let n : i ≡ j → ⊥ = λ z. omega arith in
          pair_is (clip_in (bank_of l) i) (clip_in (bank_of l) j) (ends_apart (clip_in (bank_of l) i) (clip_in (bank_of l) j) (apart_in l h g i j n u v))
          (serials_differ i j n (found l h g i u) (found l h g j v)))

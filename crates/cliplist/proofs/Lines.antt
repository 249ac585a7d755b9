-- The list, line by line. Assumes nothing.
use mathlib.Core.Path.{◌≡◌, refl, sym, ◌∙◌}
use mathlib.Core.Logic.{◌⊎◌, inl, inr}
use mathlib.Core.Bool.{Bool, true, false, not, ◌&&◌}
use mathlib.Core.List.{List}
use Prim.Native.Nat.{ℕ, zero, suc, ◌+◌, ◌%◌, ◌^◌, ◌≤◌, ◌<◌}
use native.Mathlib.Omega.{arith}
use native.Mathlib.Numerals.{add-one}
use lib.Dec.{ltb, leb, eqb}
use lib.ListN.{length}
use borrow.Author.Tests.{ltb-true, leb-true, le-leb}
use Rattle.counts.specs.Below.{all_below}
use Rattle.counts.proofs.Below.{all_at}
use Rattle.counts.proofs.Truth.{two_ways, lt_or_le, and_l, and_r, never}
use Rattle.cliplist.specs.declared.Line.{Line}
use Rattle.cliplist.specs.declared.Entry.{Entry}
use Rattle.cliplist.specs.declared.Listing.{Listing}
use Rattle.std.specs.Prelude.{Some, None}
use Rattle.cliplist.specs.Start.{takes, spaced, total_of, listed_in, bank_of}
use Rattle.cliplist.specs.Words.{line_at, is_kind, line_reads, entry_at, entries_of, lines_in, is_list, all_lines_fit, listing, Lined, clip_fits, clip_more}
use Rattle.cliplist.proofs.Built.{built}

-- what a line that can be read has
pub record Readable (x : Line) : Type 0 where
  pub kind : is_kind x.kind ≡ true
  pub slot : x.slot < 2 ^ 32
  pub serial : x.serial < 2 ^ 32
  pub rate : x.rate < 2 ^ 32

pub readable : (x : Line) → line_reads x ≡ true → Readable x
unfolding line_reads
readable x h =
    let a = is_kind x.kind in
    let b = ltb x.slot (2 ^ 32) in
    let c = ltb x.serial (2 ^ 32) in
    let d = ltb x.rate (2 ^ 32) in
    let abc : a && b && c ≡ true = and_l (a && b && c) d h in
    let ab : a && b ≡ true = and_l (a && b) c abc in
    record { kind = and_l a b ab; slot = ltb-true _ _ (and_r a b ab); serial = ltb-true _ _ (and_r (a && b) c abc); rate = ltb-true _ _ (and_r (a && b && c) d h) }

-- ---- the lines read so far

-- lines that fit can all be read
pub fit_reads : (ws : List ℕ) (n : ℕ) → all_lines_fit ws n ≡ true → all_below n (λ i. line_reads (line_at ws i)) ≡ true
unfolding all_lines_fit
fit_reads ws n h = and_l _ (spaced (entries_of ws n)) (and_l (all_below n (λ i. line_reads (line_at ws i)) && spaced (entries_of ws n)) _ h)

-- have slots of their own,
pub fit_own : (ws : List ℕ) (n : ℕ) → all_lines_fit ws n ≡ true → spaced (entries_of ws n) ≡ true
unfolding all_lines_fit
fit_own ws n h = and_r (all_below n (λ i. line_reads (line_at ws i))) _ (and_l (all_below n (λ i. line_reads (line_at ws i)) && spaced (entries_of ws n)) _ h)

-- one line more: it can be read, has a slot of its own, and a pool holds its frames too
fit_step : (ws : List ℕ) (n : ℕ) → all_lines_fit ws (suc n)
    ≡ (all_below n (λ i. line_reads (line_at ws i)) && line_reads (line_at ws n))
    && (ltb (entry_at ws n).handle.slot 32 && not (takes (entries_of ws n) (entry_at ws n).handle.slot) && spaced (entries_of ws n))
    && leb (total_of (entries_of ws n) + (entry_at ws n).frames) 33554432
unfolding all_lines_fit entries_of all_below spaced total_of
fit_step ws n = refl

-- and fit without the last
fit_fewer : (ws : List ℕ) (n : ℕ) → all_lines_fit ws (suc n) ≡ true → all_lines_fit ws n ≡ true
unfolding all_lines_fit
fit_fewer ws n h =
    let e : Entry = entry_at ws n in
    let l = entries_of ws n in
    let p : Bool = all_below n (λ i. line_reads (line_at ws i)) in
    let q : Bool = line_reads (line_at ws n) in
    let s : Bool = ltb e.handle.slot 32 && not (takes l e.handle.slot) in
    let t : Bool = leb (total_of l + e.frames) 33554432 in
    let all : (p && q) && (s && spaced l) && t ≡ true = sym (fit_step ws n) ∙ h in
    let both : (p && q) && (s && spaced l) ≡ true = and_l ((p && q) && (s && spaced l)) t all in
    let few : total_of l + e.frames ≤ 33554432 = leb-true (total_of l + e.frames) 33554432 (and_r ((p && q) && (s && spaced l)) t all) in
    let read : p ≡ true = and_l p q (and_l (p && q) (s && spaced l) both) in
    let own : spaced l ≡ true = and_r s (spaced l) (and_r (p && q) (s && spaced l) both) in
    rw (read, own) (le-leb (total_of l) 33554432 (omega arith))

-- where some lines do not fit, no more do
fit_never : (ws : List ℕ) (n k : ℕ) → n ≤ k → all_lines_fit ws n ≡ false → all_lines_fit ws k ≡ false
fit_never ws n zero b h = let z : n ≡ 0 = omega arith in rw (← z) h
fit_never ws n (suc k) b h = go (lt_or_le n (suc k)) (fit_never ws n k)
  where
    go : (n < suc k) ⊎ (suc k ≤ n) → (n ≤ k → all_lines_fit ws n ≡ false → all_lines_fit ws k ≡ false) → all_lines_fit ws (suc k) ≡ false
    go (inl q) ih = less (two_ways (all_lines_fit ws (suc k))) (ih (omega arith) h)
      where
        less : (all_lines_fit ws (suc k) ≡ true) ⊎ (all_lines_fit ws (suc k) ≡ false) → all_lines_fit ws k ≡ false → all_lines_fit ws (suc k) ≡ false
        less (inl y) f = absurd (never (sym (fit_fewer ws k y) ∙ f))
        less (inr y) f = y
    go (inr q) ih = let z : n ≡ suc k = omega arith in rw (← z) h

-- so a reading that stops there has read all
pub lined_stop : (ws : List ℕ) (n k : ℕ) → n ≤ k → Lined ws n None → Lined ws k None
lined_stop ws n k b f = fit_never ws n k b f

-- ---- one line more

-- a line that cannot be read
pub lined_not : (ws : List ℕ) (i : ℕ) → line_reads (line_at ws i) ≡ false → all_lines_fit ws (i + 1) ≡ false
lined_not ws i r = rw add-one (go (two_ways (all_lines_fit ws (suc i))))
  where
    go : (all_lines_fit ws (suc i) ≡ true) ⊎ (all_lines_fit ws (suc i) ≡ false) → all_lines_fit ws (suc i) ≡ false
    go (inl y) = absurd (never (sym (all_at (λ i. line_reads (line_at ws i)) (suc i) i (fit_reads ws (suc i) y) (omega arith)) ∙ r))
    go (inr y) = y

tests : (a b c : Bool) → (a && b && true) && c ≡ a && b && c
tests true true c = refl
tests true false c = refl
tests false b c = refl

module _ (ws : List ℕ) (i : ℕ) (x : Listing) (o : Lined ws i (Some x)) (r : line_reads (line_at ws i) ≡ true) where
  abbrev e : Entry
  e = entry_at ws i

  abbrev l : List Entry
  l = entries_of ws i

  -- it fits exactly if its clip does
  fit_more : all_lines_fit ws (suc i) ≡ clip_fits x e
  unfolding clip_fits
  fit_more =
      fit_step ws i
      ∙ rw (fit_reads ws i o.0, r, fit_own ws i o.0, o.1, o.2, (built l (fit_own ws i o.0)).marks e.handle.slot)
      (tests (ltb e.handle.slot 32) (not (takes l e.handle.slot)) (leb (total_of l + e.frames) 33554432))

  taken : clip_fits x e ≡ true → clip_more x e ≡ Some (listing (listed_in x.bank e x.total) (x.total + e.frames))
  unfolding clip_more
  taken q = rw q

  refused : clip_fits x e ≡ false → clip_more x e ≡ None
  unfolding clip_more
  refused q = rw q

  pub lined_more : Lined ws (suc i) (clip_more x e)
  unfolding entries_of bank_of total_of
  lined_more = go (two_ways (clip_fits x e))
    where
      go : (clip_fits x e ≡ true) ⊎ (clip_fits x e ≡ false) → Lined ws (suc i) (clip_more x e)
      go (inl q) = rw (taken q) (fit_more ∙ q, rw (o.1, o.2), rw o.2)
      go (inr q) = rw (refused q) (fit_more ∙ q)

-- ---- the whole list

-- a list has a first line,
pub list_long : (ws : List ℕ) → is_list ws ≡ true → 6 ≤ length ws
unfolding is_list
list_long ws h = leb-true 6 (length ws) (and_r (eqb (length ws % 6) 0) (leb 6 (length ws)) h)

-- which can be read where the lines fit
pub fit_first : (ws : List ℕ) → is_list ws ≡ true → all_lines_fit ws (lines_in ws) ≡ true → line_reads (line_at ws 0) ≡ true
fit_first ws h f = let n = list_long ws h in all_at (λ i. line_reads (line_at ws i)) (lines_in ws) 0 (fit_reads ws (lines_in ws) f) (omega arith)

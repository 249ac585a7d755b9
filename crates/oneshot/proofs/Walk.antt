-- The walk over the voices of a table, or of a lent slice as a table: what holds at the head of the loop, and how each turn keeps it. The voices from i on are as they came, those below `kept` are the ones that stay, and mixing what is left after them gives the whole.
-- Assumes nothing.
use mathlib.Core.Path.{◌≡◌, refl, sym, ap, ◌∙◌, subst}
use mathlib.Core.Bool.{true, false}
use mathlib.Core.List.{List, ◌∷◌, ◌++◌, append_assoc, append-nil}
use Prim.Native.Nat.{ℕ, ◌+◌, ◌≤◌, ◌<◌}
use native.Mathlib.Nat.{le_antisymm}
use native.Mathlib.Numerals.{add-one}
use native.Mathlib.Omega.{arith}
use lib.ListN.{length, get_or, take, drop, set, length-set, take-append-drop}
use lib.Seq.{slice, slice-cons, slice_empty, take-set-lt, drop-set-lt, take-suc-set, length-take-le, drop-drop, get_or-set_other}
use Rattle.bank.specs.Recording.{View}
use Rattle.oneshot.specs.declared.Voice.{Voice}
use Rattle.oneshot.specs.declared.Pair.{Pair}
use Rattle.oneshot.specs.declared.Voices.{Voices}
use Rattle.oneshot.specs.Pair.{silence}
use Rattle.oneshot.specs.Voice.{voice_of}
use Rattle.oneshot.specs.Mix.{Mix, mix_of, blank_voice, sounding, back_in}
use Rattle.oneshot.specs.Sounding.{Each}
use Rattle.bank.proofs.Places.{get_d_any}

-- voices before those of a mix
abbrev prepend : List Voice → Mix → Mix
prepend xs m = record { voices = xs ++ m.voices; sum = m.sum }

-- a store below i does not change what is left from i on
left_alone : (vs : List Voice) (i count kept : ℕ) (w : Voice) → kept < i → kept < count → slice i count (set vs kept w) ≡ slice i count vs
left_alone vs i count kept w h k = ap (drop i) (take-set-lt count vs kept w k) ∙ drop-set-lt i (take count vs) kept w h

module _ (view : View) (P : Voice → Type 0) where
  -- `all` is the whole mix
  pub record Going (old : List Voice) (all : Mix) (count : ℕ) (table : List Voice) (sum : Pair) (kept i : ℕ) : Type 0 where
    pub few : count ≤ length table
    pub long : length table ≤ 16
    pub places : length table ≡ length old
    pub order : kept ≤ i
    pub upto : i ≤ count
    pub each : (k : ℕ) → i ≤ k → k < count → P (get_or table k blank_voice)
    pub after : drop kept table ≡ drop kept old
    pub so : all ≡ prepend (take kept table) (mix_of view (slice i count table) sum)

  -- so it is at the start
  pub start : (t : Voices) → length t.table ≤ 16 → t.count ≤ length t.table → Each P t → Going t.table (mix_of view (sounding t) silence) t.count t.table silence 0 0
  start t l f e = record { few = f; long = l; places = refl; order = omega arith; upto = omega arith; each = λ k low h. e k h; after = refl; so = refl }

  module _ {old : List Voice} {all : Mix} {count : ℕ} {table : List Voice} {sum : Pair} {kept i : ℕ} (g : Going old all count table sum kept i) (d : Voice) where
    -- the voice at i, before the others
    cons : i < count → slice i count table ≡ get_or table i d ∷ slice (i + 1) count table
    cons h = rw add-one (slice-cons i count table d h (omega arith))

    -- the voice at i is as the others
    pub its : i < count → P (get_or table i d)
    its h = subst P (get_d_any table i blank_voice d (omega arith)) (g.each i (omega arith) h)

    -- a voice leaves after its last frame
    pub gone : i < count → (voice_of (view (get_or table i d).handle) (get_or table i d) sum).more ≡ false → Going old all count table (voice_of (view (get_or table i d).handle) (get_or table i d) sum).sum kept (i + 1)
    unfolding mix_of
    gone h e = record {
      few = g.few;
      long = g.long;
      places = g.places;
      order = omega arith;
      upto = omega arith;
      each = λ k low l. g.each k (omega arith) l;
      after = g.after;
      so = g.so ∙ rw (cons h, e);
    }

    -- a voice stays, after those that stayed before it
    pub stays : i < count → (voice_of (view (get_or table i d).handle) (get_or table i d) sum).more ≡ true
        → Going old all count (set table kept (voice_of (view (get_or table i d).handle) (get_or table i d) sum).voice) (voice_of (view (get_or table i d).handle) (get_or table i d) sum).sum (kept + 1) (i + 1)
    unfolding mix_of
    stays h e = record {
      few = simp length-set g.few;
      long = simp length-set g.long;
      places = simp length-set g.places;
      order = omega arith;
      upto = omega arith;
      each = λ k low l. subst P (sym (get_or-set_other table kept k _ blank_voice (λ q. omega arith))) (g.each k (omega arith) l);
      after = drop-set-lt (kept + 1) table kept _ (omega arith) ∙ sym (drop-drop 1 kept table) ∙ ap (drop 1) g.after ∙ drop-drop 1 kept old;
      so = g.so ∙ rw (cons h, e, left_alone table (i + 1) count kept _ (omega arith) (omega arith), add-one kept, take-suc-set table kept _ (omega arith), append_assoc);
    }

  -- at the end the table holds those that stay, and the places after them are as they were
  pub ends : (t : Voices) {all : Mix} {table : List Voice} {sum : Pair} {kept i : ℕ} → Going t.table all t.count table sum kept i → t.count ≤ i
      → record { voices = record { table = table; count = kept }; sum = sum } ≡ back_in t all
  unfolding mix_of
  ends t {all} {table} {sum} {kept} {i} g h =
      let n : i ≡ t.count = le_antisymm g.upto h in
      let e : all ≡ record { voices = take kept table; sum = sum } = g.so ∙ rw (n, slice_empty, append-nil) in
      let l : length (take kept table) ≡ kept = length-take-le kept table (omega arith) in
      rw (e, l, ← g.after, take-append-drop)

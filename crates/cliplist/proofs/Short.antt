-- Every song of a list's bank is short enough, whatever handle it is looked up by. Assumes nothing.
use mathlib.Core.Path.{◌≡◌, sym, ap, ◌∙◌}
use mathlib.Core.Logic.{⊎_elim}
use mathlib.Core.Bool.{true, false}
use mathlib.Core.List.{List, [], ◌∷◌}
use Prim.Native.Nat.{ℕ, ◌^◌, ◌≤◌, ◌<◌}
use native.Mathlib.Omega.{arith}
use lib.Dec.{eqb}
use lib.ListN.{replicate, get_or-replicate, length-replicate, get_or-eq_default}
use borrow.Author.Tests.{eqb-true, eqb-false}
use Rattle.counts.specs.declared.Handle.{Handle}
use Rattle.counts.proofs.Truth.{two_ways, lt_or_le, never}
use Rattle.counts.proofs.Below.{within_high}
use Rattle.bank.specs.declared.Kind.{Kind}
use Rattle.bank.specs.Slots.{blank, used_at, clip_in, clip_of, extent_of}
use Rattle.bank.specs.WellFormed.{extent_ok, bank_ok}
use Rattle.bank.proofs.Clauses.{bank_clip}
use Rattle.cliplist.specs.declared.Entry.{Entry}
use Rattle.cliplist.specs.Start.{spaced, no_clips, bank_of}
use Rattle.cliplist.proofs.Built.{built, last, rest_spaced}

none_blank : (i : ℕ) → clip_in (bank_of []) i ≡ blank
unfolding bank_of no_clips
none_blank i =
    ⊎_elim
    (λ (l : i < 32). get_or-replicate 32 i blank blank l)
    (λ (l : 32 ≤ i). get_or-eq_default (replicate 32 blank) blank {n = i} (rw (length-replicate 32 blank) l))
    (lt_or_le i 32)

-- a slot that is free is blank
free_blank : (l : List Entry) → spaced l ≡ true → (i : ℕ) → used_at (bank_of l).used i ≡ false → clip_in (bank_of l) i ≡ blank
free_blank [] h i u = none_blank i
free_blank (e ∷ l) h i u =
    let o = last e l h in
    ⊎_elim
    (λ (s : eqb i e.handle.slot ≡ true). absurd (never (sym o.used_here ∙ ap (used_at (bank_of (e ∷ l)).used) (sym (eqb-true i e.handle.slot s)) ∙ u)))
    (λ (s : eqb i e.handle.slot ≡ false).
    let n = eqb-false i e.handle.slot s in
    o.clip_there i n ∙ free_blank l (rest_spaced e l h) i (sym (o.used_there i n) ∙ u))
    (two_ways (eqb i e.handle.slot))

extent_short : (k : Kind) (frames : ℕ) → extent_ok k frames ≡ true → extent_of k ≤ 2 ^ 40
extent_short (Kind.Song n) frames h = within_high frames (2 ^ 40) n.0 h
extent_short Kind.Stinger frames h = omega arith

pub list_short : (l : List Entry) (room : ℕ) → spaced l ≡ true → bank_ok (bank_of l) room ≡ true → (h : Handle) → extent_of (clip_of (bank_of l) h).kind ≤ 2 ^ 40
list_short l room own ok h =
    ⊎_elim
    (λ (b : h.slot < 32). ⊎_elim
    (λ (u : used_at (bank_of l).used h.slot ≡ true). extent_short (clip_in (bank_of l) h.slot).kind (clip_in (bank_of l) h.slot).frames (bank_clip (bank_of l) room ok h.slot b u).lasts)
    (λ (u : used_at (bank_of l).used h.slot ≡ false). rw (free_blank l own h.slot u) (omega arith))
    (two_ways (used_at (bank_of l).used h.slot)))
    (λ (b : 32 ≤ h.slot). rw (get_or-eq_default (bank_of l).clips blank {n = h.slot} (rw (built l own).places b)) (omega arith))
    (lt_or_le h.slot 32)

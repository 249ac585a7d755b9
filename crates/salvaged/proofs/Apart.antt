-- No two dropped ranges stand side by side. Assumes nothing.
use mathlib.Core.Path.{◌≡◌, refl}
use mathlib.Core.List.{List, [], ◌∷◌}
use mathlib.Core.Bool.{Bool, true, false, ◌&&◌, cond}
use Rattle.counts.proofs.Truth.{and_false_r}
use Rattle.remains.specs.declared.Range.{Range}
use Rattle.remains.specs.declared.Fate.{Fate}
use Rattle.remains.specs.Salvage.{before, joined, ranges_of}
use Rattle.salvaged.specs.Salvaged.{is_dropped, apart, Apart}

-- a range before those that stand apart stands apart from them, or is one with the first
before_apart : (r : Range) (rs : List Range) → apart rs ≡ true → apart (before r rs) ≡ true
unfolding before
before_apart r [] h = rw (and_false_r (is_dropped r) refl) refl
before_apart r (q ∷ rs) h = go (is_dropped r) (is_dropped q) refl refl
  where
    go : (a b : Bool) → is_dropped r ≡ a → is_dropped q ≡ b
        → apart (cond (a && b) (record { what = Fate.Dropped; from = r.from; to = q.to } ∷ rs) (r ∷ q ∷ rs)) ≡ true
    go true true e d = rw d at h
    go true false e d = rw (e, d) (rw d at h)
    go false b e d = rw e h

pub joined_apart : (rs : List Range) → apart (joined rs) ≡ true
unfolding joined
joined_apart [] = refl
joined_apart (r ∷ rs) = before_apart r (joined rs) (joined_apart rs)

pub apart_ranges : Apart
unfolding ranges_of
apart_ranges file = joined_apart _

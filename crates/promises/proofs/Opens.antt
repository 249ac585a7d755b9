-- Opening is a load into an empty bank. Assumes nothing.
use mathlib.Core.Path.{◌≡◌, refl, sym, ◌∙◌}
use mathlib.Core.Bool.{true}
use Prim.Native.Nat.{ℕ, zero, suc, ◌+◌, ◌≤◌, ◌<◌}
use native.Mathlib.Omega.{arith}
use Rattle.counts.proofs.Truth.{never, and_true}
use Rattle.counts.proofs.Below.{all_true}
use borrow.Author.Tests.{le-leb}
use Rattle.bank.specs.Sample.{frames_of}
use Rattle.bank.specs.Slots.{free_slot, empty_bank}
use Rattle.bank.specs.Room.{clear_at, fits, first_fit}
use Rattle.bank.proofs.Slots.{none_used, free_slot_lowest}
use Rattle.bank.proofs.Fit.{first_lowest}
use Rattle.clips.specs.Load.{start_for}
use Rattle.clips.proofs.Opened.{Accepted, accepted, open_done_law}
use Rattle.promises.specs.Opens.{unloaded, OpensAsLoad}
use Rattle.promises.proofs.Kept.{open_fine}

-- nothing below it: it is 0
lowest : (n : ℕ) → ((i : ℕ) → i < n → ⊥) → n ≡ 0
lowest zero f = refl
lowest (suc n) f = absurd (f 0 (omega arith))

-- the lowest free slot of an empty bank
slot_none : free_slot empty_bank.used ≡ 0
unfolding empty_bank
slot_none = lowest (free_slot 0) (λ i l. never (sym (free_slot_lowest 0 (omega arith) i l) ∙ none_used i))

-- in an empty bank a clip fits at 0
fits_none : (room n : ℕ) → n ≤ room → fits empty_bank room n 0 ≡ true
unfolding fits empty_bank
fits_none room n l = and_true (le-leb (0 + n) room (omega arith)) (all_true (clear_at empty_bank 0 n) 32 (λ i k. rw (none_used i)))

start_none : (room n : ℕ) → 1 ≤ n → n ≤ room → first_fit empty_bank room n ≡ 0
start_none room n some l = lowest (first_fit empty_bank room n) (λ i k. never (sym (fits_none room n l) ∙ first_lowest empty_bank room n some 0 (omega arith)))

pub opens_as_load : OpensAsLoad
unfolding empty_bank
opens_as_load o e =
    let fine = open_fine o e in
    let a : Accepted o.settings o.queue o.capture o.pool o.samples o.rate o.extent =
    accepted o.settings o.queue o.capture o.pool o.samples o.rate o.extent fine in
    let start : start_for (unloaded o) o.samples ≡ 0 = start_none o.settings.pool (frames_of o.samples) a.some a.room in
    open_done_law o.settings o.queue o.capture o.pool o.samples o.rate o.extent fine ∙ rw (start, slot_none)

-- The first queued command: whether it is due, and how far ahead it is. Assumes nothing.
use mathlib.Core.Path.{◌≡◌, refl, sym, ◌∙◌}
use mathlib.Core.Bool.{true, false}
use mathlib.Core.List.{List, ◌∷◌}
use Prim.Native.Nat.{ℕ, zero, suc, ◌+◌, ◌-◌, ◌≤◌, ◌<◌}
use native.Mathlib.Omega.{arith}
use native.Mathlib.Numerals.{sub-one}
use lib.Dec.{leb}
use borrow.Author.Tests.{leb-false}
use Rattle.laws.specs.Block.{Machine, stand, still, executing, one}
use Rattle.laws.specs.Queue.{Clear}
use Rattle.counts.proofs.Truth.{never}
use Rattle.timeline.specs.declared.QueueRecord.{QueueRecord}
use Rattle.timeline.specs.Record.{record_of}
use Rattle.timeline.specs.Store.{row_at}
use Rattle.timeline.specs.Queue.{queue}
use Rattle.block.specs.Fill.{first_due, lead_of}

-- only a queued command is due
pub due_some : (q : List ℕ) (n t : ℕ) → first_due q n t ≡ true → 0 < n
due_some q zero t h = absurd (never (cc))
due_some q (suc n) t h = omega arith

-- frames that are ahead are no more than those that are left,
pub lead_most : (q : List ℕ) (n t left : ℕ) → lead_of q n t left ≤ left
lead_most q zero t left = omega arith
lead_most q (suc n) t left = omega arith

-- and some, where some are left and nothing is due
pub lead_some : (q : List ℕ) (n t left : ℕ) → first_due q n t ≡ false → 0 < left → 0 < lead_of q n t left
lead_some q zero t left h l = l
lead_some q (suc n) t left h l = omega (arith, leb-false (row_at q n).at t h)

module _ (q : List ℕ) (n t : ℕ) (pos : 0 < n) where
  -- the first of n commands stands last in the store,
  pub queue_some : queue q n ≡ record_of (row_at q (n - 1)) ∷ queue q (n - 1)
  queue_some = go n pos
    where
      go : (k : ℕ) → 0 < k → queue q k ≡ record_of (row_at q (k - 1)) ∷ queue q (k - 1)
      go zero h = absurd (omega arith)
      go (suc k) h = rw sub-one

  -- is due when its frame is not past the clock
  pub due_at : first_due q n t ≡ leb (row_at q (n - 1)).at t
  due_at = go n pos
    where
      go : (k : ℕ) → 0 < k → first_due q k t ≡ leb (row_at q (k - 1)).at t
      go zero h = absurd (omega arith)
      go (suc k) h = rw sub-one

-- of a machine whose commands are queued records, each for its frame
module _ {C A E : Type 0} (m : Machine C QueueRecord A E) (frame : (d : QueueRecord) → m.when d ≡ d.at.0) (q : List ℕ) where
  -- nothing is due while no more frames are made than are ahead,
  pub lead_clear : (n t left j : ℕ) → first_due q n t ≡ false → j ≤ lead_of q n t left → Clear m (queue q n) (t + j)
  lead_clear zero t left j h l = tt
  lead_clear (suc n) t left j h l = rw (frame (record_of (row_at q n))) (omega (arith, leb-false (row_at q n).at t h))

  -- a first command that is not due stays queued,
  pub one_not : (n : ℕ) (c : C) → first_due q n (m.clock c) ≡ false → one m c (queue q n) ≡ still (stand c (queue q n))
  one_not zero c h = refl
  one_not (suc n) c h = rw (frame (record_of (row_at q n)), h)

  -- and one that is due is executed
  pub one_due : (n : ℕ) (c : C) → first_due q n (m.clock c) ≡ true → one m c (queue q n) ≡ executing m (record_of (row_at q (n - 1))) c (queue q (n - 1))
  one_due n c h =
      let pos : 0 < n = due_some q n (m.clock c) h in
      rw (queue_some q n (m.clock c) pos, frame (record_of (row_at q (n - 1))), sym (due_at q n (m.clock c) pos) ∙ h)

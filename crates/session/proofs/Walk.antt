-- The walk over the records of a store in its order, the queue's and the capture's alike, and the clip that is read for a handle. Assumes nothing.
use mathlib.Core.Path.{◌≡◌, refl, sym, ap, ◌∙◌}
use mathlib.Core.Bool.{Bool, true, false, ◌&&◌, ◌||◌, cond}
use mathlib.Core.List.{List}
use Prim.Native.Nat.{ℕ, ◌+◌, ◌≤◌, ◌<◌}
use native.Mathlib.Nat.{not-suc-le-zero}
use native.Mathlib.Numerals.{add-one}
use native.Mathlib.Omega.{arith}
use lib.Dec.{leb, eqb}
use lib.ListN.{length, get_or}
use borrow.Author.Count.{below_more}
use borrow.Author.Tests.{le-leb}
use Rattle.counts.specs.Below.{all_below, count_below}
use Rattle.counts.proofs.Truth.{or_none, and_true, and_false_l, and_false_r, and_assoc}
use Rattle.counts.proofs.Below.{all_true, all_false, all_and, count_at_most}
use Rattle.timeline.specs.declared.Row.{Row}
use Rattle.timeline.specs.Command.{claim_of}
use Rattle.timeline.specs.Record.{read_of, is_stinger}
use Rattle.timeline.specs.Store.{row_at}
use Rattle.timeline.specs.Queue.{entry_ok, stingers}
use Rattle.timeline.proofs.Words.{claim_read}
use Rattle.bank.specs.declared.Bank.{Bank}
use Rattle.bank.specs.declared.Clip.{Clip}
use Rattle.bank.specs.Slots.{blank, clip_in, claim_ok}
use Rattle.bank.proofs.Places.{get_d_any}

-- the clip at a slot's place is that of the slot, whatever is read past the 32
pub clip_read : (a b : Bank) → a ≡ b → length b.clips ≡ 32 → (slot p : ℕ) (d : Clip) → (p < 32) × (slot < 32 → p ≡ slot) → slot < 32
    → clip_in a slot ≡ get_or b.clips p d
clip_read a b same n slot p d e l = ap (λ (z : Bank). clip_in z slot) same ∙ ap (clip_in b) (sym (e.1 l)) ∙ get_d_any b.clips p blank d (omega (arith, e.0))

-- a record that is no Swap and no Stinger holds nothing
pub clipless : (b : Bank) (rate : ℕ) (x : Row) → eqb x.kind 9 || eqb x.kind 10 ≡ false → claim_ok b rate (claim_of (read_of x)) ≡ true
unfolding claim_ok
clipless b rate x e =
    let n = or_none (eqb x.kind 9) (eqb x.kind 10) e in
    rw (claim_read x, n.0, n.1) refl

-- ---- every record in its place

module _ (b : Bank) (rate last : ℕ) (in_order : ℕ → Bool) (ws : List ℕ) where
  -- what is asked of record j: its place in the order, what is asked of it by itself, and what it holds
  abbrev pub asked : ℕ → Bool
  asked j = in_order j && (entry_ok last (row_at ws j) && claim_ok b rate (claim_of (read_of (row_at ws j))))

  -- every one of the first j records passed
  abbrev pub Passed : ℕ → Type 0
  Passed j = (i : ℕ) → i < j → asked i ≡ true

  -- none yet
  pub passed_none : Passed 0
  passed_none i l = absurd (not-suc-le-zero l)

  -- at the end all did
  pub passed_all : (j n : ℕ) → Passed j → n ≤ j → all_below n asked ≡ true
  passed_all j n p l = all_true asked n (λ i h. p i (omega arith))

  -- and with no record there is nothing to ask
  pub asked_none : (n : ℕ) → n ≤ 0 → all_below n asked ≡ true
  asked_none n l = passed_all 0 n passed_none l

  -- one that is out of its order stops the walk,
  pub order_stops : (j n : ℕ) → j < n → in_order j ≡ false → all_below n asked ≡ false
  order_stops j n l e = all_false asked n j l (and_false_l (entry_ok last (row_at ws j) && claim_ok b rate (claim_of (read_of (row_at ws j)))) e)

  module _ (j : ℕ) (x : Row) (at : x ≡ row_at ws j) where
    -- so does one that is not in order by itself,
    pub entry_stops : (n : ℕ) → j < n → entry_ok last x ≡ false → all_below n asked ≡ false
    entry_stops n l e = all_false asked n j l (and_false_r (in_order j) (and_false_l (claim_ok b rate (claim_of (read_of (row_at ws j)))) (ap (entry_ok last) (sym at) ∙ e)))

    -- and one that holds what it may not;
    pub claim_stops : (n : ℕ) → j < n → claim_ok b rate (claim_of (read_of x)) ≡ false → all_below n asked ≡ false
    claim_stops n l e =
        all_false asked n j l (and_false_r (in_order j) (and_false_r (entry_ok last (row_at ws j)) (ap (λ (y : Row). claim_ok b rate (claim_of (read_of y))) (sym at) ∙ e)))

    -- any other is one more
    pub passed_next : Passed j → in_order j ≡ true → entry_ok last x ≡ true → claim_ok b rate (claim_of (read_of x)) ≡ true → Passed (j + 1)
    passed_next p o e h =
        below_more (λ i. asked i ≡ true) j p
        (and_true o (and_true (ap (entry_ok last) (sym at) ∙ e) (ap (λ (y : Row). claim_ok b rate (claim_of (read_of y))) (sym at) ∙ h)))

  -- what is asked of every record is each thing asked of every record
  pub asked_each : (n : ℕ) → all_below n asked
      ≡ all_below n in_order && all_below n (λ j. entry_ok last (row_at ws j)) && all_below n (λ j. claim_ok b rate (claim_of (read_of (row_at ws j))))
  asked_each n =
      let e : ℕ → Bool = λ j. entry_ok last (row_at ws j) in
      let h : ℕ → Bool = λ j. claim_ok b rate (claim_of (read_of (row_at ws j))) in
      all_and in_order (λ j. e j && h j) n ∙ ap (λ t. all_below n in_order && t) (all_and e h n) ∙ sym (and_assoc (all_below n in_order) (all_below n e) (all_below n h))

-- ---- the Stingers among them

one_more : (t : Bool) (k : ℕ) → k + cond t 1 0 ≡ cond t (k + 1) k
one_more true k = refl
one_more false k = omega arith

-- a record takes one voice at most
pub one_at_most : (t : Bool) (k : ℕ) → k ≡ cond t 1 0 → k ≤ 1
one_at_most true k e = omega arith
one_at_most false k e = omega arith

module _ (ws : List ℕ) where
  -- none yet
  pub stingers_none : 0 ≡ stingers ws 0
  unfolding count_below
  stingers_none = refl

  -- no more of them than records
  pub stingers_few : (j k : ℕ) → k ≡ stingers ws j → k ≤ j
  stingers_few j k e = let l = count_at_most (λ i. is_stinger (row_at ws i)) j in omega (arith, e)

  -- so none where there is no record
  pub stingers_fit : (n most : ℕ) → n ≤ 0 → leb (stingers ws n) most ≡ true
  stingers_fit n most l = let few = stingers_few n (stingers ws n) refl in le-leb (stingers ws n) most (omega arith)

  -- one more where the record is one
  pub stingers_next : (j : ℕ) (x : Row) → x ≡ row_at ws j → (k m : ℕ) → k ≡ stingers ws j → m ≡ k + cond (is_stinger x) 1 0 → m ≡ stingers ws (j + 1)
  unfolding count_below
  stingers_next j x at k m e f = f ∙ rw (e, at, add-one j) (one_more (is_stinger (row_at ws j)) (stingers ws j))

  -- as many where it holds no clip
  pub stingers_stay : (j : ℕ) (x : Row) → x ≡ row_at ws j → (k : ℕ) → k ≡ stingers ws j → eqb x.kind 9 || eqb x.kind 10 ≡ false → k ≡ stingers ws (j + 1)
  stingers_stay j x at k e n = stingers_next j x at k k e (rw (or_none (eqb x.kind 9) (eqb x.kind 10) n).1 (omega arith))

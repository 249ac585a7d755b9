-- When a block is accepted, and what it then gives. Assumes nothing.
use mathlib.Core.Path.{◌≡◌, refl, sym, ap}
use mathlib.Core.Bool.{true, false, not}
use mathlib.Core.List.{List}
use Prim.Native.Nat.{ℕ, ◌+◌, ◌%◌, ◌^◌, ◌≤◌, ◌<◌}
use native.Mathlib.Omega.{arith}
use lib.ListN.{length}
use lib.Ieee.{Float}
use borrow.Author.Tests.{not-false, ltb-false, le-ltb, eqb-false}
use Rattle.bank.specs.Sample.{frames_of, is_pool, is_odd}
use Rattle.session.specs.declared.Session.{Session}
use Rattle.session.specs.declared.Refusal.{Refusal}
use Rattle.session.specs.WellFormed.{well_formed}
use Rattle.session.proofs.Refuse.{passed, skip, unless_fine, unless_refused}
use Rattle.session.specs.Answer.{answered}
use Rattle.block.specs.Block.{weigh_block, ran_of, block_done, block_of}
use Rattle.block.specs.Fill.{Fillable}
use Rattle.std.specs.Prelude.{Ok, Err}

-- none of 1, 2, 3 and 4
pub record Accepted (s : Session) (q c : List ℕ) (pool out : List Float) : Type 0 where
  pub formed : well_formed s q c ≡ true
  pub lent : is_pool pool s.settings.pool ≡ true
  pub even : is_odd out ≡ false
  pub clock : s.stage.clock.0 + frames_of out ≤ 2 ^ 62

module _ (s : Session) (q c : List ℕ) (pool out : List Float) where
  -- a block that is not refused is none of them,
  pub accepted : weigh_block s q c pool out ≡ Ok tt → Accepted s q c pool out
  unfolding weigh_block
  accepted e =
      let p1 = passed _ _ _ e in
      let p2 = passed _ _ _ p1.1 in
      let p3 = passed _ _ _ p2.1 in
      let p4 = passed _ _ _ p3.1 in
      record {
        formed = not-false _ p1.0;
        lent = not-false _ p2.0;
        even = p3.0;
        clock = ltb-false (2 ^ 62) (s.stage.clock.0 + frames_of out) p4.0;
      }

  -- one that is none of them is not refused,
  pub fine : Accepted s q c pool out → weigh_block s q c pool out ≡ Ok tt
  unfolding weigh_block
  fine a =
      sym
      (skip _ _ _ _ (ap not a.formed)
      (skip _ _ _ _ (ap not a.lent) (skip _ _ _ _ a.even (skip _ _ _ _ (le-ltb _ _ a.clock) refl))))

  -- and it gives what its frames made
  pub block_done_law : Accepted s q c pool out → block_of s q c pool out ≡ block_done s (ran_of s q pool (frames_of out))
  unfolding block_of
  block_done_law a = unless_fine _ _ _ (fine a)

  -- a refused one gives its refusal, and leaves session and output
  pub block_refused : (k : Refusal) → weigh_block s q c pool out ≡ Err k → block_of s q c pool out ≡ (answered (Err k) s, out)
  unfolding block_of
  block_refused k e = unless_refused _ _ _ k e

  -- its frames can be made, where its numbers are of their types
  pub fillable : Accepted s q c pool out → length s.stage.sound.voices.table ≡ 16 → s.desk.number < 2 ^ 64
      → Fillable s.settings s.bank s.stage s.queued q pool out
  fillable a places number =
      record {
        going = record { desk = s.desk; capture = c; formed = a.formed; places = places; number = number };
        lent = a.lent;
        even = let odd = eqb-false (length out % 2) 1 a.even in omega arith;
        clock = a.clock;
      }

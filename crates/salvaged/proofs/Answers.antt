-- What an answer of the salvage says, and the fresh file in its output. Assumes nothing.
use Prim.Native.Nat.{ℕ, ◌/◌}
use mathlib.Core.Path.{◌≡◌, refl, ap}
use mathlib.Core.List.{List}
use native.Mathlib.Omega.{arith}
use borrow.Author.Tests.{le-ltb}
use lib.ListN.{length, take}
use Rattle.roundtrip.proofs.Calls.{take_front}
use Rattle.remains.specs.declared.Salvaged.{Salvaged}
use Rattle.remains.specs.Salvage.{SalvageAnswer}
use Rattle.remains.specs.Salvage.{ranges_of, kept_fields, fresh, salvage_of, gives, refuses, says_salvage, left_by, salvage_out}
use Rattle.std.specs.Prelude.{Ok, Err}
use Rattle.remains.proofs.Fresh.{Done, done_salvage}

-- what says how many is done,
pub says_done : (a : SalvageAnswer) (k b r : ℕ) → says_salvage a ≡ gives k b r → a ≡ Ok (record { kept = k; bytes = b; ranges = r })
says_done (Ok t) k b r e =
    let x : t.kept ≡ k = cc in
    let y : t.bytes ≡ b = cc in
    let z : t.ranges ≡ r = cc in
    ap Ok (λ i. record { kept = x i; bytes = y i; ranges = z i })
says_done (Err x) k b r e = let z : ◌≡◌ {A = ℕ} 0 1 = cc in absurd (omega arith)

-- and what says a fault leaves a store
pub says_left : (a : SalvageAnswer) (number : ℕ) (done store : List ℕ) → says_salvage a ≡ refuses number → left_by a done store ≡ store
says_left (Ok t) number done store e = let z : ◌≡◌ {A = ℕ} 0 1 = cc in absurd (omega arith)
says_left (Err x) number done store e = refl

-- a salvage that says how many is done, and one that is done says so
module _ (file : List ℕ) (room list k b r : ℕ) where
  abbrev told : Salvaged
  told = record { kept = k; bytes = b; ranges = r }

  pub says_salvage_law : says_salvage (salvage_of file room list) ≡ gives k b r → Done file room list told
  says_salvage_law s = done_salvage file room list told (says_done (salvage_of file room list) k b r s)

  pub salvage_says : Done file room list told → says_salvage (salvage_of file room list) ≡ gives k b r
  unfolding salvage_of
  salvage_says d =
      let few = le-ltb 4096 (length (kept_fields file (ranges_of file))) d.few in
      let fits = le-ltb room (length (fresh file)) d.fits in
      let listed = le-ltb (list / 3) (length (ranges_of file)) d.listed in
      rw (few, fits, listed, d.kept, d.bytes, d.ranges) refl

-- the fresh file stands at the front of the output
pub fresh_front : (file out : List ℕ) (list k b r : ℕ) → says_salvage (salvage_of file (length out) list) ≡ gives k b r → take b (salvage_out file out list) ≡ fresh file
unfolding salvage_out
fresh_front file out list k b r s =
    let e = says_done (salvage_of file (length out) list) k b r s in
    let d = says_salvage_law file (length out) list k b r s in
    rw (e, d.bytes) (take_front (fresh file) out d.fits)

-- The callback's block: the samples that it takes, then silence. Assumes nothing.
use mathlib.Core.Path.{◌≡◌, refl, sym, ap, ◌∙◌}
use mathlib.Core.List.{List, [], ◌∷◌, ◌++◌, append-nil}
use Prim.Native.Nat.{ℕ, ◌+◌, ◌-◌, ◌≤◌, ◌<◌}
use native.Mathlib.Omega.{arith}
use native.Mathlib.Numerals.{add-one}
use borrow.Rule.Slice.PartMut.{put_mid}
use lib.ListN.{length, get_or, take, set, replicate, length-set, length-replicate, drop_of_length-le}
use lib.Seq.{take-suc-set, take_all}
use lib.Ieee.{Float, nan}
use Rattle.ramp.specs.Number.{zero32}
use Rattle.std.proofs.lemmas.Slice.{put_mid-paste}
use Rattle.bank.proofs.Places.{get_d_any}
use Rattle.ring.specs.Ring.{place_at, from}
use Rattle.ring.proofs.Places.{place_lt, place_on}

module _ (store : List Float) (h taken n : ℕ) where
  -- i samples of a block of n are taken, and the next one is at a place
  pub record Sounding (out : List Float) (at i : ℕ) : Type 0 where
    pub most : i ≤ taken
    pub size : length out ≡ n
    pub place : at ≡ place_at (length store) h i
    pub sound : take i out ≡ from store h i

  pub sound_start : (out : List Float) → length out ≡ n → h ≡ place_at (length store) h 0 → Sounding out h 0
  unfolding from
  sound_start out s e = record { most = omega arith; size = s; place = e; sound = refl }

  pub sound_turn : (out : List Float) (at i : ℕ) → Sounding out at i → i < taken → taken ≤ n → 0 < length store → (d : Float) (next : ℕ) → next ≡ place_at (length store) at 1
      → Sounding (set out i (get_or store at d)) next (i + 1)
  unfolding from
  sound_turn out at i v l t p d next e =
      record {
        most = omega arith;
        size = length-set out i (get_or store at d) ∙ v.size;
        place = e ∙ ap (λ (j : ℕ). place_at (length store) j 1) v.place ∙ place_on (length store) h i 1;
        sound =
            rw (add-one, take-suc-set out i (get_or store at d) (omega (arith, v.size)), v.sound, v.place)
            (ap (λ (x : Float). from store h i ++ (x ∷ [])) (get_d_any store (place_at (length store) h i) d nan (place_lt (length store) h i p)));
      }

  -- filled with silence after them, it is the block
  pub silence_end : (out : List Float) (at i : ℕ) → Sounding out at i → taken ≤ i → taken ≤ n → (xs : List Float) → xs ≡ replicate (n - taken) zero32
      → put_mid taken (length out - taken) out xs ≡ from store h taken ++ replicate (n - taken) zero32
  silence_end out at i v l t xs e =
      let z : List Float = replicate (n - taken) zero32 in
      let a : i ≡ taken = omega (arith, v.most) in
      put_mid-paste taken (length out - taken) out xs z (n - taken) e (omega (arith, v.size)) (sym (length-replicate (n - taken) zero32))
      ∙ rw (take_all (n - taken) z (omega (arith, length-replicate (n - taken) zero32)), drop_of_length-le out {i = taken + (n - taken)} (omega (arith, v.size)), append-nil) (ap (λ (l : List Float). l ++ z) (rw a at v.sound))

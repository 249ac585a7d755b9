-- Magnitudes of binary32 values: a sign does not change what a number rounds to, a value rounds to itself, and so a factor of at most 1 makes nothing louder.
-- Assumes nothing.
use mathlib.Core.Path.{◌≡◌, refl, sym, ap, ◌∙◌, subst}
use mathlib.Core.Logic.{◌⊎◌, inl, inr}
use mathlib.Core.Bool.{Bool, true, false, ◌&&◌, ◌||◌, cond}
use Prim.Native.Nat.{ℕ, zero, suc, ◌+◌, ◌-◌, ◌*◌, ◌%◌, ◌^◌, ◌≤◌, ◌<◌}
use native.Mathlib.Nat.{mul-pos, mul_assoc, mul_comm, mul-one, zero-mul, le_of_eq, le_trans, mul-le-mul, le_refl, le_of_mul-le-mul_right, lt_of_lt_of_le}
use native.Mathlib.Omega.{arith}
use borrow.Author.Tests.{leb-true, le-ltb}
use lib.IntN.{ℤ, pos, negsuc}
use lib.Dec.{T, leb, ltb, eqb, ltb→lt, eqb→eq, lit<}
use lib.Pow.{pow_pos, pow-lt, pow-add, pow_mono, shl_lt}
use lib.Ieee.{Float, nan, inf, fin, Format, prec, binary32, low, up, down, odd, units, round, mul, lt, le, fits}
use lib.Ieee.Fits.{down_pos, and_l, and_r}
use lib.Ieee.Exact.{HasValue, round_exact}
use lib.Ieee.Order.{round_mono}
use lib.Ieee.Positive.{through}
use Rattle.counts.proofs.Truth.{is_t, lt_or_le}
use Rattle.promises.specs.Modes.{magnitude}

-- ---- a sign does not change what a number rounds to

magnitude_odd : (d : ℕ) (s : Bool) (q k l : ℕ) → magnitude (odd d s q k l) ≡ odd d false q k l
unfolding odd
magnitude_odd d s zero k l = refl
magnitude_odd d s (suc q) k l = refl

magnitude_units : (f : Format) (s : Bool) (q k : ℕ) → magnitude (units f s q k) ≡ units f false q k
unfolding units
magnitude_units f s q k = go (ltb (q * 2 ^ k) _) _ _ (magnitude_odd (suc (prec f)) s q k (low f))
  where
    go : (b : Bool) (x y : Float) → magnitude x ≡ y → magnitude (cond b x (inf s)) ≡ cond b y (inf false)
    go true x y e = e
    go false x y e = refl

pub magnitude_round : (f : Format) (s : Bool) (num den : ℕ) → magnitude (round f s num den) ≡ round f false num den
unfolding round
magnitude_round f s num den = magnitude_units f s _ _

-- ---- a value of the format

clash : (a b : ℕ) → a ≤ b → b < a → ⊥
clash a b l g = omega arith

-- it is no finer than the smallest one,
pub no_finer : (s : Bool) (m k : ℕ) → T (fits binary32 (fin s (suc m) (negsuc k))) → suc k ≤ low binary32
unfolding fits
no_finer s m k t = go (lt_or_le (low binary32) (suc k))
  where
    digits : Bool
    digits = eqb (suc m % 2) 1 && ltb (suc m) (2 ^ 24)

    coarse : 2 ^ suc k ≤ 2 ^ low binary32
    coarse = leb-true (2 ^ suc k) (2 ^ low binary32) (is_t (leb (2 ^ suc k) (2 ^ low binary32)) (and_r digits (leb (2 ^ suc k) (2 ^ low binary32)) (and_l (digits && leb (2 ^ suc k) (2 ^ low binary32)) _ t)))

    go : (low binary32 < suc k) ⊎ (suc k ≤ low binary32) → suc k ≤ low binary32
    go (inl x) = absurd (clash (2 ^ suc k) (2 ^ low binary32) coarse (pow-lt x))
    go (inr x) = x

back : (k n : ℕ) → suc k ≤ n → n - suc k + suc k ≡ n
back k n l = omega arith

pub scaled : (m n k : ℕ) → suc k ≤ n → m * 1 * 2 ^ n ≡ m * 2 ^ (n - suc k) * 2 ^ suc k
scaled m n k l =
    ap (λ (z : ℕ). z * 2 ^ n) (mul-one m) ∙ ap (λ (z : ℕ). m * 2 ^ z) (sym (back k n l)) ∙ ap (λ (z : ℕ). m * z) (pow-add 2 (n - suc k) (suc k))
    ∙ sym (mul_assoc m (2 ^ (n - suc k)) (2 ^ suc k))

-- its digits are few,
few : (s : Bool) (m : ℕ) (e : ℤ) → T (fits binary32 (fin s (suc m) e)) → suc m < 2 ^ 24
unfolding fits
few s m e t =
    let odd : Bool = eqb (suc m % 2) 1 in
    let digits : Bool = ltb (suc m) (2 ^ 24) in
    let coarse : Bool = leb (down e) (2 ^ low binary32) in
    ltb→lt (suc m) (2 ^ 24) (and_r odd digits (and_l (odd && digits) coarse (and_l (odd && digits && coarse) _ t)))

-- and it is below 2^128
small : (s : Bool) (m k : ℕ) → T (fits binary32 (fin s (suc m) (pos k))) → suc m * 2 ^ k < 2 ^ 128
unfolding fits
small s m k t = rw (mul-one (2 ^ 128)) at (ltb→lt (suc m * 2 ^ k) (2 ^ 128 * 1) (and_r (eqb (suc m % 2) 1 && ltb (suc m) (2 ^ 24) && leb 1 (2 ^ low binary32)) _ t))

-- so it rounds to itself
own : (s : Bool) (m : ℕ) (e : ℤ) → T (fits binary32 (fin s m e)) → HasValue (round binary32 false (m * up e) (down e)) false (m * up e) (down e)
own s zero e t =
    round_exact binary32 false (0 * up e) (down e) 0 0 (down_pos e) (pow_pos 24) (pow_pos 277) (ap (λ (z : ℕ). z * 2 ^ low binary32) (zero-mul (up e)) ∙ zero-mul (2 ^ low binary32) ∙ sym (zero-mul (down e)))
own s (suc m) (pos k) t =
    let e : suc m * 2 ^ k * 2 ^ low binary32 ≡ suc m * 2 ^ (k + low binary32) = mul_assoc (suc m) (2 ^ k) (2 ^ low binary32) ∙ ap (λ (z : ℕ). suc m * z) (sym (pow-add 2 k (low binary32))) in
    round_exact binary32 false (suc m * 2 ^ k) 1 (suc m) (k + low binary32) (lit< tt) (few s m (pos k) t)
    (subst (λ (z : ℕ). z < 2 ^ 277) e (shl_lt 128 149 (small s m k t)))
    (e ∙ sym (mul-one (suc m * 2 ^ (k + low binary32))))
own s (suc m) (negsuc k) t =
    round_exact binary32 false (suc m * 1) (2 ^ suc k) (suc m) (low binary32 - suc k) (pow_pos (suc k)) (few s m (negsuc k) t)
    (lt_of_lt_of_le (shl_lt 24 (low binary32 - suc k) (few s m (negsuc k) t)) (pow_mono {i = 24 + (low binary32 - suc k)} {j = 277} (omega arith)))
    (scaled (suc m) (low binary32) k (no_finer s m k t))

-- ---- a factor of at most 1

or_split : (a b : Bool) → T (a || b) → T a ⊎ T b
or_split true b t = inl tt
or_split false b t = inr t

at_most : (a b : ℕ) → T (ltb a b || (eqb a b && true)) → a ≤ b
at_most a b t = go (or_split (ltb a b) (eqb a b && true) t)
  where
    go : T (ltb a b) ⊎ T (eqb a b && true) → a ≤ b
    go (inl l) = omega (arith, ltb→lt a b l)
    go (inr e) = le_of_eq (eqb→eq a b (and_l (eqb a b) true e))

-- what is at most a value that m * 2^e is, is not above m * 2^e
not_above : (x r : Float) (m : ℕ) (e : ℤ) → T (le x r) → HasValue r false (m * up e) (down e) → lt (fin false m e) x ≡ false
unfolding le lt
not_above x nan m e l v = absurd v
not_above x (inf t) m e l v = absurd v
not_above x (fin true p g) m e l v = absurd (subst T v.0 tt)
not_above nan (fin false p g) m e l v = refl
not_above (inf true) (fin false p g) m e l v = refl
not_above (inf false) (fin false p g) m e l v = absurd l
not_above (fin true n d) (fin false p g) m e l v = refl
not_above (fin false n d) (fin false p g) m e l v =
    le-ltb (m * up e * down d) (n * up d * down e)
    (through (n * up d) (p * up g) (m * up e) (down d) (down g) (down e) (down_pos g) (at_most (n * up d * down g) (p * up g * down d) l) (le_of_eq v.1))

-- a value × a / c, which is at most 1, is no louder
pub no_louder : (y w : Float) (a c : ℕ) → T (fits binary32 y) → HasValue w false a c → 0 < c → a ≤ c → lt (magnitude y) (magnitude (mul binary32 y w)) ≡ false
unfolding mul lt
no_louder y nan a c t v some l = absurd v
no_louder y (inf u) a c t v some l = absurd v
no_louder nan (fin u n d) a c t v some l = refl
no_louder (inf s) (fin u n d) a c t v some l = go (eqb n 0) _
  where
    go : (b o : Bool) → lt (inf false) (magnitude (cond b nan (inf o))) ≡ false
    go true o = refl
    go false o = refl
no_louder (fin s m e) (fin u n d) a c t v some l =
    let p : ℕ = m * up e in
    let q : n * up d ≤ down d = le_of_mul-le-mul_right (subst (λ (z : ℕ). z ≤ down d * c) (sym v.1) (le_trans (mul-le-mul l (le_refl (down d))) (le_of_eq (mul_comm c (down d))))) some in
    let k : p * (n * up d) * down e ≤ p * (down e * down d) =
    le_trans (le_of_eq (mul_assoc p (n * up d) (down e)))
    (mul-le-mul (le_refl p) (le_trans (le_of_eq (mul_comm (n * up d) (down e))) (mul-le-mul (le_refl (down e)) q))) in
    rw (magnitude_round binary32 _ (p * (n * up d)) (down e * down d))
    (not_above (round binary32 false (p * (n * up d)) (down e * down d)) (round binary32 false p (down e)) m e
    (round_mono binary32 (p * (n * up d)) (down e * down d) p (down e) (mul-pos (down_pos e) (down_pos d)) (down_pos e) k) (own s m e t))

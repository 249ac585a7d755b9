-- A sum whose last term is not -0.0 is not -0.0, where both terms are binary32. Assumes nothing.
use mathlib.Core.Path.{◌≡◌, refl, sym, ap, ◌∙◌, subst}
use mathlib.Core.Logic.{◌⊎◌, inl, inr}
use mathlib.Core.Bool.{Bool, true, false, cond, beq}
use mathlib.Core.List.{List, [], ◌∷◌, ◌++◌}
use Prim.Native.Nat.{ℕ, zero, suc, ◌+◌, ◌-◌, ◌*◌, ◌^◌, ◌≤◌, ◌<◌}
use native.Mathlib.Omega.{arith}
use native.Mathlib.Nat.{mul-pos, mul_assoc, mul_comm, mul_right_comm, mul-one, one-mul, zero-mul, suc-mul, add-mul, mul-sub}
use borrow.Author.Tests.{ltb-true}
use lib.IntN.{ℤ, pos, negsuc}
use lib.Dec.{T, ltb}
use lib.Pow.{pow_pos, pow-lt}
use lib.Ieee.{Float, nan, inf, fin, Format, prec, binary32, low, up, down, odd, units, round, sum, add, mul, fits}
use lib.Ieee.Fits.{up_pos, down_pos, add-fits, mul-fits}
use lib.Ieee.Exact.{round_exact}
use lib.Ieee.Order.{round_mono}
use lib.Ieee.Positive.{positive, above, above_of_le, positive_of_value}
use Rattle.std.specs.Prelude.{Option, Some, None}
use Rattle.counts.proofs.Truth.{never}
use Rattle.laws.specs.Block.{Machine, At, block as block_from}
use Rattle.laws.specs.Queue.{Each}
use Rattle.laws.proofs.Stepwise.{block_stepwise}
use Rattle.ramp.specs.Ramp.{tick_of}
use Rattle.bank.specs.Sample.{frames_of}
use Rattle.bank.specs.Recording.{View, view_of}
use Rattle.oneshot.specs.declared.Pair.{Pair}
use Rattle.oneshot.specs.declared.Voice.{Voice}
use Rattle.oneshot.specs.declared.Voices.{Voices}
use Rattle.oneshot.specs.Pair.{silence, times}
use Rattle.oneshot.specs.Voice.{voice_of}
use Rattle.oneshot.specs.Mix.{Mix, keep_if, sounding, mix_of, mix_in}
use Rattle.stage.specs.declared.Settings.{Settings}
use Rattle.stage.specs.declared.Stage.{Stage}
use Rattle.stage.specs.declared.Tail.{Tail}
use Rattle.stage.specs.Sound.{with_tail, rendered_of}
use Rattle.stage.specs.Stage.{frame_of}
use Rattle.stage.specs.Machine.{FrameMade, machine_of, output_of}
use Rattle.session.specs.declared.Session.{Session}
use Rattle.session.specs.declared.Answered.{Answered}
use Rattle.block.specs.Block.{ran_of}
use Rattle.block.proofs.Weigh.{block_done_law}
use Rattle.promises.specs.Modes.{magnitude}
use Rattle.promises.specs.Signs.{minus_zero, NeverMinusZero}
use Rattle.promises.proofs.Fine.{block_accepts}
use Rattle.promises.proofs.Magnitude.{magnitude_round, no_finer, scaled}

-- 0, of either sign
abbrev is_zero : Float → Bool
is_zero nan = false
is_zero (inf s) = false
is_zero (fin s zero e) = true
is_zero (fin s (suc m) e) = false

-- -0.0 is a 0,
minus_zero_law : (x : Float) → is_zero x ≡ false → minus_zero x ≡ false
minus_zero_law nan e = refl
minus_zero_law (inf s) e = refl
minus_zero_law (fin true zero e) z = absurd (never z)
minus_zero_law (fin true (suc m) e) z = refl
minus_zero_law (fin false m e) z = refl

-- ---- rounding

magnitude_zero : (x : Float) → is_zero (magnitude x) ≡ is_zero x
magnitude_zero nan = refl
magnitude_zero (inf s) = refl
magnitude_zero (fin s zero e) = refl
magnitude_zero (fin s (suc m) e) = refl

-- the sign that rounding is given
round_zero : (f : Format) (s : Bool) (num den : ℕ) → is_zero (round f s num den) ≡ is_zero (round f false num den)
round_zero f s num den = sym (magnitude_zero (round f s num den)) ∙ ap is_zero (magnitude_round f s num den)

units_plus : (f : Format) (q k : ℕ) → minus_zero (units f false q k) ≡ false
unfolding units odd
units_plus f q k = go (ltb (q * 2 ^ k) _) _ (plus_odd (suc (prec f)) q k (low f))
  where
    plus_odd : (d q k l : ℕ) → minus_zero (odd d false q k l) ≡ false
    plus_odd d zero k l = refl
    plus_odd d (suc q) k l = refl

    go : (b : Bool) (x : Float) → minus_zero x ≡ false → minus_zero (cond b x (inf false)) ≡ false
    go true x e = e
    go false x e = refl

-- what is rounded with a plus is not -0.0,
round_plus : (f : Format) (num den : ℕ) → minus_zero (round f false num den) ≡ false
unfolding round
round_plus f num den = units_plus f _ _

above_zero : (x : Float) → T (above x) → is_zero x ≡ false
above_zero nan t = refl
above_zero (inf s) t = refl
above_zero (fin true zero e) t = absurd t
above_zero (fin true (suc m) e) t = refl
above_zero (fin false zero e) t = absurd t
above_zero (fin false (suc m) e) t = refl

-- and neither is what is at least the smallest value
round_some : (s : Bool) (num den : ℕ) → 0 < den → den ≤ num * 2 ^ low binary32 → minus_zero (round binary32 s num den) ≡ false
round_some s num den p l =
    minus_zero_law (round binary32 s num den)
    (round_zero binary32 s num den
    ∙ above_zero (round binary32 false num den)
    (above_of_le (round binary32 false 1 (2 ^ low binary32)) (round binary32 false num den) least (round_mono binary32 1 (2 ^ low binary32) num den (pow_pos (low binary32)) p (subst (λ (n : ℕ). n ≤ num * 2 ^ low binary32) (sym (one-mul den)) l))))
  where
    least : T (positive (round binary32 false 1 (2 ^ low binary32)))
    least =
        positive_of_value (round binary32 false 1 (2 ^ low binary32)) 1 (2 ^ low binary32)
        (round_exact binary32 false 1 (2 ^ low binary32) 1 0 (pow_pos (low binary32)) (omega arith) (pow-lt {i = 0} {j = 277} (omega arith)) refl) (omega arith)

-- ---- a sum

-- so many of the smallest values
pub record Multiple (a c : ℕ) : Type 0 where
  times : ℕ
  is : a * 2 ^ low binary32 ≡ times * c

-- more than none is at least one
reach : (x w c : ℕ) → 0 < x → x ≡ w * c → c ≤ x
reach x zero c l e = let none : zero * c ≡ 0 = zero-mul c in absurd (omega (arith, e, none))
reach x (suc w) c l e = let more : suc w * c ≡ w * c + c = suc-mul w c in omega (arith, e, more)

reaches : (a c : ℕ) → 0 < a → Multiple a c → c ≤ a * 2 ^ low binary32
reaches a c l m = reach (a * 2 ^ low binary32) m.times c (mul-pos l (pow_pos (low binary32))) m.is

sub_mul : (a b k : ℕ) → (a - b) * k ≡ a * k - b * k
sub_mul a b k = mul_comm (a - b) k ∙ mul-sub k a b ∙ rw (mul_comm k a, mul_comm k b)

plus_multiple : (a b c : ℕ) → Multiple a c → Multiple b c → Multiple (a + b) c
plus_multiple a b c m n =
    record { times = m.times + n.times; is = add-mul a b (2 ^ low binary32) ∙ rw (m.is, n.is) (sym (add-mul m.times n.times c)) }

minus_multiple : (a b c : ℕ) → Multiple a c → Multiple b c → Multiple (a - b) c
minus_multiple a b c m n =
    record { times = m.times - n.times; is = sub_mul a b (2 ^ low binary32) ∙ rw (m.is, n.is) (sym (sub_mul m.times n.times c)) }

-- where both are negative, one of them must be more than 0
sum_signs : (s t : Bool) (a b c : ℕ) → 0 < c → Multiple a c → Multiple b c → (s ≡ true → t ≡ true → 0 < a + b) → minus_zero (sum binary32 s a t b c) ≡ false
unfolding sum
sum_signs true true a b c l m n some = round_some true (a + b) c l (reaches (a + b) c (some refl refl) (plus_multiple a b c m n))
sum_signs false false a b c l m n some = round_plus binary32 (a + b) c
sum_signs false true a b c l m n some = go (ltb a b) refl
  where
    go : (x : Bool) → ltb a b ≡ x → minus_zero (cond x (round binary32 true (b - a) c) (round binary32 false (a - b) c)) ≡ false
    go true e = round_some true (b - a) c l (reaches (b - a) c (omega (arith, ltb-true a b e)) (minus_multiple b a c n m))
    go false e = round_plus binary32 (a - b) c
sum_signs true false a b c l m n some = go (ltb a b) (ltb b a) refl
  where
    go : (x y : Bool) → ltb b a ≡ y → minus_zero (cond x (round binary32 false (b - a) c) (round binary32 y (a - b) c)) ≡ false
    go true y e = round_plus binary32 (b - a) c
    go false true e = round_some true (a - b) c l (reaches (a - b) c (omega (arith, ltb-true b a e)) (minus_multiple a b c m n))
    go false false e = round_plus binary32 (a - b) c

-- a finite binary32 is so many of the smallest values
whole : (s : Bool) (m : ℕ) (e : ℤ) → T (fits binary32 (fin s m e)) → Multiple (m * up e) (down e)
unfolding fits
whole s zero e t = record { times = 0; is = rw (zero-mul (up e), zero-mul (2 ^ low binary32)) (sym (zero-mul (down e))) }
whole s (suc m) (pos k) t = record { times = suc m * 2 ^ k * 2 ^ low binary32; is = sym (mul-one (suc m * 2 ^ k * 2 ^ low binary32)) }
whole s (suc m) (negsuc k) t =
    record { times = suc m * 2 ^ (low binary32 - suc k); is = scaled (suc m) (low binary32) k (no_finer s m k t) }

-- the same over a common denominator
common : (a c d : ℕ) → Multiple a c → Multiple (a * d) (c * d)
common a c d m = record { times = m.times; is = mul_right_comm a d (2 ^ low binary32) ∙ rw m.is (mul_assoc m.times c d) }

-- a sum of two binary32 values of which one is not -0.0 is not -0.0
pub add_signs : (x y : Float) → T (fits binary32 x) → T (fits binary32 y) → (minus_zero x ≡ false) ⊎ (minus_zero y ≡ false) → minus_zero (add binary32 x y) ≡ false
unfolding add
add_signs nan y p q some = refl
add_signs (inf s) nan p q some = refl
add_signs (inf s) (inf t) p q some = go (beq s t)
  where
    go : (b : Bool) → minus_zero (cond b (inf s) nan) ≡ false
    go true = refl
    go false = refl
add_signs (inf s) (fin t n d) p q some = refl
add_signs (fin s m e) nan p q some = refl
add_signs (fin s m e) (inf t) p q some = refl
add_signs (fin s m e) (fin t n d) p q some =
    sum_signs s t (m * up e * down d) (n * up d * down e) (down e * down d) (mul-pos (down_pos e) (down_pos d)) (common (m * up e) (down e) (down d) (whole s m e p))
    (subst (Multiple (n * up d * down e)) (mul_comm (down d) (down e)) (common (n * up d) (down d) (down e) (whole t n d q)))
    (λ i j. more (go some i j))
  where
    positive_part : (s : Bool) (m : ℕ) (e : ℤ) → s ≡ true → minus_zero (fin s m e) ≡ false → 0 < m
    positive_part true zero e i z = absurd (never z)
    positive_part true (suc m) e i z = omega arith
    positive_part false m e i z = absurd (never (sym i))

    go : (minus_zero (fin s m e) ≡ false) ⊎ (minus_zero (fin t n d) ≡ false) → s ≡ true → t ≡ true → (0 < m * up e * down d) ⊎ (0 < n * up d * down e)
    go (inl z) i j = inl (mul-pos (mul-pos (positive_part s m e i z) (up_pos e)) (down_pos d))
    go (inr z) i j = inr (mul-pos (mul-pos (positive_part t n d j z) (up_pos d)) (down_pos e))

    more : {a b : ℕ} → (0 < a) ⊎ (0 < b) → 0 < a + b
    more (inl l) = omega arith
    more (inr l) = omega arith

-- ---- voices, frames and blocks

-- a binary32 value that is not -0.0
abbrev Fine : Float → Type 0
Fine v = T (fits binary32 v) × (minus_zero v ≡ false)

abbrev Both : Pair → Type 0
Both p = Fine p.left × Fine p.right

-- one more term keeps a sum so,
term_fine : (s x g : Float) → Fine s → Fine (add binary32 s (mul binary32 x g))
term_fine s x g f = (add-fits binary32 s (mul binary32 x g), add_signs s (mul binary32 x g) f.0 (mul-fits binary32 x g) (inl f.1))

mix_fine : (view : View) (vs : List Voice) (sum : Pair) → Both sum → Both (mix_of view vs sum).sum
unfolding mix_of voice_of
mix_fine view [] sum f = f
mix_fine view (v ∷ vs) sum f = kept (voice_of (view v.handle) v sum).more _ _ (mix_fine view vs _ (term_fine sum.left _ _ f.0, term_fine sum.right _ _ f.1))
  where
    kept : (b : Bool) (u : Voice) (m : Mix) → Both m.sum → Both (keep_if b u m).sum
    kept true u m e = e
    kept false u m e = e

-- the stinger sum is so,
sum_fine : (view : View) (t : Voices) → Both (mix_in view t).sum
unfolding mix_in fits
sum_fine view t = mix_fine view (sounding t) silence ((tt, refl), (tt, refl))

share_fits : (x : Settings) (view : View) (g : Float) (t : Option Tail) (p : Pair) (h : Float)
    → T (fits binary32 (with_tail x view g t (times p h)).left) × T (fits binary32 (with_tail x view g t (times p h)).right)
unfolding with_tail
share_fits x view g None p h = (mul-fits binary32 p.left h, mul-fits binary32 p.right h)
share_fits x view g (Some t) p h = (add-fits binary32 _ _, add-fits binary32 _ _)

-- and so is what a frame makes
frame_fine : (x : Settings) (view : View) (s : Stage) → Both (frame_of x view s).out
unfolding frame_of rendered_of
frame_fine x view s =
    let m = sum_fine view s.sound.voices in
    let f = share_fits x view (tick_of s.sound.master).value s.sound.fade.tail _ (tick_of s.sound.master).value in
    ((add-fits binary32 _ _, add_signs _ _ f.0 m.0.0 (inr m.0.1)), (add-fits binary32 _ _, add_signs _ _ f.1 m.1.0 (inr m.1.1)))

each_append : {A : Type 0} (P : A → Type 0) (l k : List A) → Each P l → Each P k → Each P (l ++ k)
each_append P [] k e f = f
each_append P (a ∷ l) k e f = (e.0, each_append P l k e.1 f)

-- what every frame makes, a block makes alone
block_made : {C D A E : Type 0} (m : Machine C D A E) (P : A → Type 0) → ((c : C) → P (m.makes c)) → (n : ℕ) (x : At C D) → Each P (block_from m n x).made
block_made m P made =
    block_stepwise m (λ x r. Each P r.made)
    (record {
      commands = record { stays = λ x. tt; joins = λ x r s i k. each_append P r.made s.made i k; executes = λ d c q h. tt };
      frames = λ c q. (made c, tt);
    })

output_fine : (l : List FrameMade) → Each (λ m. Both m.pair) l → Each (λ v. minus_zero v ≡ false) (output_of l)
output_fine [] e = tt
output_fine (m ∷ l) e = (e.0.0.1, (e.0.1.1, output_fine l e.1))

ran_fine : (s : Session) (q : List ℕ) (pool : List Float) (n : ℕ) → Each (λ m. Both m.pair) (ran_of s q pool n).made
unfolding ran_of
ran_fine s q pool n = block_made (machine_of s.settings (view_of pool s.bank)) (λ m. Both m.pair) (frame_fine s.settings (view_of pool s.bank)) n _

pub never_minus_zero : NeverMinusZero
never_minus_zero =
    record {
      sum = λ view t. ((sum_fine view t).0.1, (sum_fine view t).1.1);
      samples = λ x out e.
          subst (λ (z : Answered ℕ × List Float). Each (λ v. minus_zero v ≡ false) z.1) (sym (block_done_law x.session x.queue x.capture x.pool out (block_accepts x out e)))
          (output_fine (ran_of x.session x.queue x.pool (frames_of out)).made (ran_fine x.session x.queue x.pool (frames_of out)));
    }

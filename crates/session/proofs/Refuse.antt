-- A chain of refusals, one link at a time, and what a call says and leaves by it. Assumes nothing.
use mathlib.Core.Path.{◌≡◌, refl, sym, ap}
use mathlib.Core.Bool.{Bool, true, false, not}
use mathlib.Core.List.{List}
use Prim.Native.Nat.{ℕ, ◌≤◌}
use native.Mathlib.Omega.{arith}
use Rattle.session.specs.declared.Session.{Session}
use Rattle.session.specs.declared.Refusal.{Refusal}
use Rattle.session.specs.Refusal.{number_of, first, unless}
use Rattle.session.specs.WellFormed.{well_formed, weigh_only}
use Rattle.session.specs.Answer.{Says, refused, gives}
use Rattle.std.specs.Prelude.{Result, Ok, Err}

-- no refusal has the number 0, which stands for none
pub number_some : (k : Refusal) → 1 ≤ number_of k
number_some Refusal.NotWellFormed = omega arith
number_some Refusal.PoolLength = omega arith
number_some Refusal.OddSamples = omega arith
number_some Refusal.ClockSpent = omega arith
number_some Refusal.NoSamples = omega arith
number_some Refusal.BadSample = omega arith
number_some Refusal.OutOfRange = omega arith
number_some Refusal.SlotsUsed = omega arith
number_some Refusal.SerialsSpent = omega arith
number_some Refusal.NoRoom = omega arith
number_some Refusal.Stale = omega arith
number_some Refusal.WrongKind = omega arith
number_some Refusal.WrongRate = omega arith
number_some Refusal.BadGain = omega arith
number_some Refusal.QueueFull = omega arith
number_some Refusal.CaptureFull = omega arith
number_some Refusal.VoicesTaken = omega arith
number_some Refusal.NumbersSpent = omega arith
number_some Refusal.Held = omega arith
number_some Refusal.ListTooShort = omega arith
number_some Refusal.Unreadable = omega arith
number_some Refusal.SenselessLoop = omega arith
number_some Refusal.BadRing = omega arith

-- a test that holds gives its refusal,
pub stop : (t : Bool) (k : Refusal) (rest : Result (Unit {0}) Refusal) → t ≡ true → Err k ≡ first t k rest
unfolding first
stop t k rest e = rw e

-- one that does not leaves it to the later ones,
pub skip : (t : Bool) (k : Refusal) (rest r : Result (Unit {0}) Refusal) → t ≡ false → r ≡ rest → r ≡ first t k rest
unfolding first
skip t k rest r e h = rw e h

-- and a call that is not refused passed this test and the later ones
pub passed : (t : Bool) (k : Refusal) (rest : Result (Unit {0}) Refusal) → first t k rest ≡ Ok tt → (t ≡ false) × (rest ≡ Ok tt)
unfolding first
passed true k rest e = let x : ◌≡◌ {A = ℕ} 0 1 = cc in absurd (omega arith)
passed false k rest e = (refl, e)

-- ---- whether a chain gives one of some numbers

-- it is refused by a number that passes the test p
abbrev pub numbered : (ℕ → Bool) → Result (Unit {0}) Refusal → Bool
numbered p (Ok tt) = false
numbered p (Err k) = p (number_of k)

-- a link of another number never gives one,
pub other : (p : ℕ → Bool) (t : Bool) (k : Refusal) (rest : Result (Unit {0}) Refusal) → p (number_of k) ≡ false → numbered p rest ≡ false → numbered p (first t k rest) ≡ false
unfolding first
other p true k rest e r = e
other p false k rest e r = r

-- nor one whose test does not hold
pub passes : (p : ℕ → Bool) (t : Bool) (k : Refusal) (rest : Result (Unit {0}) Refusal) → t ≡ false → numbered p rest ≡ false → numbered p (first t k rest) ≡ false
unfolding first
passes p t k rest e r = rw e r

-- ---- what a call gives

module _ {A : Type 0} (w : Result (Unit {0}) Refusal) (refusal : Refusal → A) (done : A) where
  -- a call that is not refused does what it does,
  pub unless_fine : w ≡ Ok tt → unless w refusal done ≡ done
  unfolding unless
  unless_fine e = rw e

  -- one that is refused gives its refusal,
  pub unless_refused : (k : Refusal) → w ≡ Err k → unless w refusal done ≡ refusal k
  unfolding unless
  unless_refused k e = rw e

  -- what holds of the refusal that it weighs, and of what it does if nothing is refused, holds of what it gives,
  pub refused_or_done : (P : A → Type 0) → ((k : Refusal) → w ≡ Err k → P (refusal k)) → (w ≡ Ok tt → P done) → P (unless w refusal done)
  unfolding unless
  refused_or_done P f g = go w f g
    where
      go : (v : Result (Unit {0}) Refusal) → ((k : Refusal) → v ≡ Err k → P (refusal k)) → (v ≡ Ok tt → P done) → P (unless v refusal done)
      go (Ok tt) f g = g refl
      go (Err k) f g = f k refl

  -- and so of every refusal
  pub unless_both : (P : A → Type 0) → ((k : Refusal) → P (refusal k)) → (w ≡ Ok tt → P done) → P (unless w refusal done)
  unless_both P f g = refused_or_done P (λ k e. f k) g

  -- a refused call gives its number alone: the session and all lent stores stay
  pub refused_leaves : {B C : Type 0} (says : A → Says C) (left : A → B) (v : C) (found : B) → says done ≡ gives v → ((k : Refusal) → left (refusal k) ≡ found)
      → (n : ℕ) → says (unless w refusal done) ≡ refused n → left (unless w refusal done) ≡ found
  refused_leaves says left v found e stays n =
      unless_both (λ a. says a ≡ refused n → left a ≡ found) (λ k r. stays k) (λ f r. let x : ◌≡◌ {A = ℕ} 0 1 = cc in absurd (omega arith))

  -- and a call that gives a value is not refused
  pub gives_fine : {C : Type 0} (says : A → Says C) → ((k : Refusal) → says (refusal k) ≡ refused (number_of k)) → (v : C) → says (unless w refusal done) ≡ gives v → w ≡ Ok tt
  unfolding unless
  gives_fine says e v = go w
    where
      go : (u : Result (Unit {0}) Refusal) → says (unless u refusal done) ≡ gives v → u ≡ Ok tt
      go (Ok tt) g = refl
      go (Err k) g = let r : says (refusal k) ≡ refused (number_of k) = e k in let x : ◌≡◌ {A = ℕ} 0 1 = cc in absurd (omega arith)

-- where 1 alone is weighed, a well formed session is not refused
pub only_fine : (s : Session) (q c : List ℕ) → well_formed s q c ≡ true → weigh_only s q c ≡ Ok tt
unfolding weigh_only
only_fine s q c e = sym (skip _ _ _ _ (ap not e) refl)

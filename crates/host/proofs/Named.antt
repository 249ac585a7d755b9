-- What numbers name: a case, and that one alone, or none. Assumes nothing.
use mathlib.Core.Path.{◌≡◌, refl, sym, ap, ◌∙◌}
use mathlib.Core.Bool.{Bool, true, false, ◌&&◌, ◌||◌, cond}
use mathlib.Core.List.{List}
use Prim.Native.Nat.{ℕ, zero, suc}
use native.Mathlib.Omega.{arith}
use lib.Dec.{eqb}
use Rattle.std.specs.Prelude.{Result, Ok, Err}
use Rattle.counts.specs.declared.SongFrame.{SongFrame}
use Rattle.bank.specs.declared.Kind.{Kind}
use Rattle.bank.specs.Slots.{used_at}
use Rattle.session.specs.declared.Session.{Session}
use Rattle.session.specs.WellFormed.{well_formed}
use Rattle.std.specs.Int.{from_bool}
use Rattle.host.specs.declared.NoSuchCase.{NoSuchCase}
use Rattle.host.specs.declared.HostSession.{HostSession}
use Rattle.host.specs.Kept.{named, is_kind, kind_of, is_state, is_flag, flag_number, slot_named, kinds_ok, is_session, session_of}
use Rattle.host.specs.Answers.{weigh_host, unless, admit_host}
use Rattle.host.proofs.Weighed.{call_refused, call_done}
use Rattle.host.proofs.Refusals.{weighed_fine, weighed_none, weighed_unnamed}

module _ {A E : Type 0} where
  abbrev value_or : A → Result A E → A
  value_or d (Ok x) = x
  value_or d (Err e) = d

  abbrev error_or : E → Result A E → E
  error_or d (Ok x) = d
  error_or d (Err e) = e

  same_value : (x y : A) → ◌≡◌ {A = Result A E} (Ok x) (Ok y) → x ≡ y
  same_value x y e = ap (value_or x) e

  same_error : (x y : E) → ◌≡◌ {A = Result A E} (Err x) (Err y) → x ≡ y
  same_error x y e = ap (error_or x) e

  never_both : (x : A) (y : E) → ◌≡◌ {A = Result A E} (Ok x) (Err y) → ⊥
  never_both x y e = let z : ◌≡◌ {A = ℕ} 0 1 = cc in absurd (omega arith)

module _ {A : Type 0} where
  -- what is given is what they name,
  pub named_is : (b : Bool) (x v : A) → Ok v ≡ named b x → (b ≡ true) × (v ≡ x)
  named_is true x v e = (refl, same_value v x e)
  named_is false x v e = absurd (never_both v (record {}) e)

  -- and of what is not they name none
  pub named_not : (b : Bool) (x : A) (y : NoSuchCase) → Err y ≡ named b x → b ≡ false
  named_not true x y e = absurd (never_both x y (sym e))
  named_not false x y e = refl

-- 1 for yes and 0 for no, as a flag
pub flag_is : (on : Bool) → from_bool on ≡ flag_number on
flag_is true = refl
flag_is false = refl

-- ---- a slot

module _ (u i k : ℕ) where
  -- one that is used holds a song or a stinger,
  pub slot_is : is_kind k ≡ true → slot_named u i k ≡ true
  unfolding slot_named
  slot_is e = go (used_at u i)
    where
      go : (b : Bool) → cond b (is_kind k) true ≡ true
      go true = e
      go false = refl

  pub slot_not : used_at u i ≡ true → is_kind k ≡ false → slot_named u i k ≡ false
  unfolding slot_named
  slot_not e f = rw (e, f)

  pub slot_free : used_at u i ≡ false → slot_named u i k ≡ true
  unfolding slot_named
  slot_free e = rw e

-- and any number but a song's stands for a stinger
pub kind_else : (k : ℕ) (x : SongFrame) → is_kind k ≡ false → Kind.Stinger ≡ kind_of k x
kind_else k x = go (eqb k 1)
  where
    go : (b : Bool) → (b || eqb k 2) ≡ false → Kind.Stinger ≡ cond b (Kind.Song x) Kind.Stinger
    go true e = let z : ◌≡◌ {A = ℕ} 0 1 = cc in absurd (omega arith)
    go false e = refl

-- ---- a session

module _ (h : HostSession) where
  -- each number but the kinds' names a case
  abbrev pub rest_named : Bool
  rest_named = is_state h.state && is_flag h.looped.set && is_flag h.tail.sounding && is_flag h.capturing

  session_named : is_session h ≡ (kinds_ok h && rest_named)
  unfolding is_session
  session_named = go (kinds_ok h) (is_state h.state) (is_flag h.looped.set) (is_flag h.tail.sounding) (is_flag h.capturing)
    where
      go : (k a b c d : Bool) → (k && a && b && c && d) ≡ (k && (a && b && c && d))
      go true a b c d = refl
      go false a b c d = refl

  pub session_is : kinds_ok h ≡ true → rest_named ≡ true → is_session h ≡ true
  session_is e f = rw (session_named, e) f

  pub kinds_not : kinds_ok h ≡ false → is_session h ≡ false
  kinds_not e = rw (session_named, e)

  pub rest_not : kinds_ok h ≡ true → rest_named ≡ false → is_session h ≡ false
  rest_not e f = rw (session_named, e) f

-- ---- what a call is given

-- an argument that names no case is refused
weighed_some : (h : HostSession) (q c : List ℕ) → weigh_host h q c false ≡ 0 → ⊥
unfolding weigh_host
weighed_some h q c = go (is_session h) (well_formed (session_of h) q c)
  where
    go : (a d : Bool) → let n : ℕ = cond a (cond false 0 (cond d 255 1)) 1 in n ≡ 0 → ⊥
    go true true e = absurd (omega arith)
    go true false e = absurd (omega arith)
    go false d e = absurd (omega arith)

module _ {A : Type 0} (h : HostSession) (q c : List ℕ) where
  pub admit_none : (x : Result A NoSuchCase) → is_session h ≡ false → ◌≡◌ {A = Result (Session × A) ℕ} (Err 1) (admit_host h q c x)
  unfolding admit_host
  admit_none (Ok x) e = call_refused 1 _ _ _ (sym (weighed_none h q c true e)) (λ z. absurd (omega arith)) refl
  admit_none (Err y) e = ap Err (sym (weighed_none h q c false e))

  pub admit_fine : (x : A) (s : Session) → is_session h ≡ true → s ≡ session_of h → ◌≡◌ {A = Result (Session × A) ℕ} (Ok (s, x)) (admit_host h q c (Ok x))
  unfolding admit_host
  admit_fine x s e f = call_done 0 _ _ _ (sym (weighed_fine h q c true e refl)) refl (ap (λ (t : Session). Ok (t, x)) f)

  pub admit_unnamed : (y : NoSuchCase) → is_session h ≡ true → well_formed (session_of h) q c ≡ true → ◌≡◌ {A = Result (Session × A) ℕ} (Err 255) (admit_host {A = A} h q c (Err y))
  unfolding admit_host
  admit_unnamed y e f = ap Err (sym (weighed_unnamed h q c e f))

  pub admit_ill : (y : NoSuchCase) → is_session h ≡ true → well_formed (session_of h) q c ≡ false → ◌≡◌ {A = Result (Session × A) ℕ} (Err 1) (admit_host {A = A} h q c (Err y))
  unfolding admit_host weigh_host
  admit_ill y e f = rw (e, f)

  module _ {R : Type 0} {r : R} (b : Bool) (v : A) (a : Result A NoSuchCase) (is : a ≡ named b v) (f : ℕ → R) (x : R) where
    -- with a number it gives what it gives for the number,
    pub call_stays : (n : ℕ) → ◌≡◌ {A = Result (Session × A) ℕ} (Err n) (admit_host h q c a) → r ≡ f n → r ≡ unless (weigh_host h q c b) f x
    unfolding admit_host unless
    call_stays n e g = go b (rw is at e)
      where
        number : (m : ℕ) → ◌≡◌ {A = Result (Session × A) ℕ} (Err n) (unless m Err (Ok (session_of h, v))) → r ≡ unless m f x
        number zero d = absurd (never_both _ _ (sym d))
        number (suc m) d = rw (← same_error _ _ d) g

        go : (b : Bool) → ◌≡◌ {A = Result (Session × A) ℕ} (Err n) (admit_host h q c (named b v)) → r ≡ unless (weigh_host h q c b) f x
        go true d = number (weigh_host h q c true) d
        go false d = let m : n ≡ weigh_host h q c false = same_error _ _ d in call_refused n _ f x m (λ z. weighed_some h q c (sym m ∙ z)) g

    -- and else what it does with the session and the argument
    pub call_does : (s : Session) (y : A) → ◌≡◌ {A = Result (Session × A) ℕ} (Ok (s, y)) (admit_host h q c a) → (s ≡ session_of h → y ≡ v → r ≡ x) → r ≡ unless (weigh_host h q c b) f x
    unfolding admit_host unless
    call_does s y e g = go b (rw is at e)
      where
        number : (m : ℕ) → ◌≡◌ {A = Result (Session × A) ℕ} (Ok (s, y)) (unless m Err (Ok (session_of h, v))) → r ≡ unless m f x
        number zero d = let p = same_value _ _ d in g (ap (λ (z : Session × A). z.0) p) (ap (λ (z : Session × A). z.1) p)
        number (suc m) d = absurd (never_both _ _ d)

        go : (b : Bool) → ◌≡◌ {A = Result (Session × A) ℕ} (Ok (s, y)) (admit_host h q c (named b v)) → r ≡ unless (weigh_host h q c b) f x
        go true d = number (weigh_host h q c true) d
        go false d = absurd (never_both _ _ d)

module _ {R : Type 0} {r : R} (h : HostSession) (q c : List ℕ) (f : ℕ → R) (x : R) where
  -- where no session matches, it gives what it gives for 1,
  pub call_unmatched : (b : Bool) → is_session h ≡ false → r ≡ f 1 → r ≡ unless (weigh_host h q c b) f x
  call_unmatched b e g = call_refused 1 _ f x (sym (weighed_none h q c b e)) (λ z. absurd (omega arith)) g

  -- and else, of a call with no argument that may name no case, what it does
  pub call_matched : is_session h ≡ true → r ≡ x → r ≡ unless (weigh_host h q c true) f x
  call_matched e g = call_done 0 _ f x (sym (weighed_fine h q c true e refl)) refl g

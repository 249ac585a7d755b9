-- Two banks that have one list: the same handles live, and each stands for clips of one kind and rate. Assumes nothing.
use mathlib.Core.Path.{◌≡◌, sym, ◌∙◌}
use mathlib.Core.Logic.{⊎_elim}
use mathlib.Core.Bool.{true}
use mathlib.Core.List.{List, [], ◌∷◌}
use Rattle.laws.specs.Queue.{Each}
use Rattle.counts.specs.declared.Handle.{Handle}
use Rattle.counts.specs.Handles.{same_handle}
use Rattle.counts.proofs.Truth.{or_cases, never}
use Rattle.bank.specs.declared.Bank.{Bank}
use Rattle.bank.specs.Slots.{live, clip_of}
use Rattle.bank.proofs.Handles.{same_is}
use Rattle.cliplist.specs.declared.Entry.{Entry}
use Rattle.cliplist.specs.Start.{names, Listed, Has}

-- the same handles live, each for clips of one kind and rate
pub record Agree (b k : Bank) : Type 0 where
  pub lives : (h : Handle) → live b h ≡ live k h
  pub kinds : (h : Handle) → live b h ≡ true → (clip_of b h).kind ≡ (clip_of k h).kind
  pub rates : (h : Handle) → live b h ≡ true → (clip_of b h).rate ≡ (clip_of k h).rate

-- a handle that is named has its clip's kind and rate in both
named : (b k : Bank) (h : Handle) (l : List Entry) → Each (Listed b) l → Each (Listed k) l → names l h ≡ true
    → ((clip_of b h).kind ≡ (clip_of k h).kind) × ((clip_of b h).rate ≡ (clip_of k h).rate)
named b k h [] x y p = absurd (never (sym p))
named b k h (e ∷ l) x y p =
    ⊎_elim
    (λ (s : same_handle h e.handle ≡ true). rw (same_is h e.handle s) (x.0.0 ∙ sym y.0.0, x.0.1 ∙ sym y.0.1))
    (λ (s : names l h ≡ true). named b k h l x.1 y.1 s)
    (or_cases (same_handle h e.handle) (names l h) p)

pub has_same : (l : List Entry) (b k : Bank) → Has l b → Has l k → Agree b k
has_same l b k x y =
    record {
      lives = λ h. x.lives h ∙ sym (y.lives h);
      kinds = λ h e. (named b k h l x.clips y.clips (sym (x.lives h) ∙ e)).0;
      rates = λ h e. (named b k h l x.clips y.clips (sym (x.lives h) ∙ e)).1;
    }

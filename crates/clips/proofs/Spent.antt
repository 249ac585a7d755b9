-- Serials never repeat: load and retire, accepted or refused, keep every spent handle spent, and the last serial given never falls. Assumes nothing.
use mathlib.Core.Path.{◌≡◌, refl}
use mathlib.Core.Bool.{true}
use mathlib.Core.List.{List}
use Prim.Native.Nat.{ℕ, ◌≤◌}
use native.Mathlib.Omega.{arith}
use lib.Ieee.{Float}
use Rattle.counts.specs.declared.Handle.{Handle}
use Rattle.bank.specs.declared.Kind.{Kind}
use Rattle.bank.specs.Slots.{spent, loaded_in, retired_from}
use Rattle.bank.proofs.Handles.{load_keeps_spent, retire_keeps_spent}
use Rattle.session.specs.declared.Session.{Session}
use Rattle.session.specs.declared.Answered.{Answered}
use Rattle.session.proofs.Refuse.{unless_both}
use Rattle.session.proofs.Typed.{Typed}
use Rattle.clips.specs.Load.{load_of}
use Rattle.clips.specs.Retire.{retire_of}
use Rattle.clips.proofs.Loaded.{load_placed}
use Rattle.clips.proofs.Retired as retire

module _ (s : Session) (q c : List ℕ) (pool samples : List Float) (kind : Kind) (rate : ℕ) where
  -- a load keeps every spent handle spent,
  pub load_spent : Typed s → (h : Handle) → spent s.bank h ≡ true → spent (load_of s q c pool samples kind rate).0.session.bank h ≡ true
  unfolding load_of
  load_spent t h e =
      unless_both {A = Answered Handle × List Float} _ _ _ (λ a. spent a.0.session.bank h ≡ true) (λ k. e)
      (λ fine. load_keeps_spent (load_placed s q c pool samples kind rate fine t) h e)

  -- and the last serial given does not fall
  pub load_last : s.bank.last ≤ (load_of s q c pool samples kind rate).0.session.bank.last
  unfolding load_of loaded_in
  load_last = unless_both {A = Answered Handle × List Float} _ _ _ (λ a. s.bank.last ≤ a.0.session.bank.last) (λ k. omega arith) (λ fine. omega arith)

module _ (s : Session) (q c : List ℕ) (h : Handle) where
  -- a retire keeps every spent handle spent,
  pub retire_spent : (k : Handle) → spent s.bank k ≡ true → spent (retire_of s q c h).session.bank k ≡ true
  unfolding retire_of
  retire_spent k e =
      unless_both {A = Answered (Unit {0})} _ _ _ (λ a. spent a.session.bank k ≡ true) (λ j. e)
      (λ fine. retire_keeps_spent s.bank h (retire.accepted s q c h fine).alive k e)

  -- and the last serial given stays
  pub retire_last : (retire_of s q c h).session.bank.last ≡ s.bank.last
  unfolding retire_of retired_from
  retire_last = unless_both {A = Answered (Unit {0})} _ _ _ (λ a. a.session.bank.last ≡ s.bank.last) (λ k. refl) (λ fine. refl)

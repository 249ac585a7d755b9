-- What capture leaves of a session, refused or not: its settings, its bank and its stage. Assumes nothing.
use mathlib.Core.Path.{◌≡◌, refl}
use mathlib.Core.List.{List}
use Prim.Native.Nat.{ℕ}
use Rattle.session.specs.declared.Session.{Session}
use Rattle.session.specs.declared.Answered.{Answered}
use Rattle.session.proofs.Refuse.{unless_both}
use Rattle.submission.proofs.Leaves.{heart}
use Rattle.control.specs.Capture.{start_capture_of, stop_capture_of}

module _ (s : Session) (q c : List ℕ) where
  -- starting capture
  pub start_leaves : heart (start_capture_of s q c).session ≡ heart s
  unfolding start_capture_of
  start_leaves = unless_both {A = Answered (Unit {0})} _ _ _ (λ z. heart z.session ≡ heart s) (λ k. refl) (λ fine. refl)

  -- and stopping it
  pub stop_leaves : (list : List ℕ) → heart (stop_capture_of s q c list).0.session ≡ heart s
  unfolding stop_capture_of
  stop_leaves list = unless_both {A = Answered ℕ × List ℕ} _ _ _ (λ z. heart z.0.session ≡ heart s) (λ k. refl) (λ fine. refl)

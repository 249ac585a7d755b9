-- What submissions, transitions and replay leave of a session, refused or not: its settings, its bank and its stage. Assumes nothing.
use mathlib.Core.Path.{◌≡◌, refl, ap, ◌∙◌}
use mathlib.Core.List.{List}
use Prim.Native.Nat.{ℕ, zero, suc, ◌/◌}
use lib.ListN.{length}
use Rattle.counts.specs.declared.SongFrame.{SongFrame}
use Rattle.timeline.specs.declared.Submission.{Submission}
use Rattle.timeline.specs.declared.Row.{Row}
use Rattle.timeline.specs.Store.{row_at}
use Rattle.transport.specs.declared.At.{At}
use Rattle.bank.specs.declared.Bank.{Bank}
use Rattle.stage.specs.declared.Settings.{Settings}
use Rattle.stage.specs.declared.Stage.{Stage}
use Rattle.session.specs.declared.Session.{Session}
use Rattle.session.specs.declared.Refusal.{Refusal}
use Rattle.session.specs.Session.{turned_away}
use Rattle.session.proofs.Refuse.{unless_both}
use Rattle.session.specs.declared.Answered.{Answered}
use Rattle.submission.specs.Submit.{taken, submit_of}
use Rattle.submission.specs.Transition.{transition_of}
use Rattle.submission.specs.Replay.{Replaying, replay_row, replayed, replay_of}
use Rattle.submission.proofs.Left.{turned_away_law}
use Rattle.submission.specs.declared.Report.{Report}

-- all but the depth and the desk
abbrev pub heart : Session → Settings × Bank × Stage
heart s = (s.settings, s.bank, s.stage)

turned_leaves : (k : Refusal) (s : Session) → heart (turned_away k s) ≡ heart s
turned_leaves k s = ap heart (turned_away_law k s)

row_leaves : (z : Replaying) (x : Row) → heart (replay_row z x).session ≡ heart z.session
unfolding replay_row
row_leaves z x = unless_both {A = Replaying} _ _ _ (λ y. heart y.session ≡ heart z.session) (λ k. turned_leaves k z.session) (λ fine. refl)

pub replayed_leaves : (s : Session) (q list : List ℕ) (n : ℕ) → heart (replayed s q list n).session ≡ heart s
unfolding replayed
replayed_leaves s q list zero = refl
replayed_leaves s q list (suc n) = row_leaves (replayed s q list n) (row_at list n) ∙ replayed_leaves s q list n

module _ (s : Session) (q c : List ℕ) where
  -- a submission,
  pub submit_leaves : (y : Submission) (at : At) → heart (submit_of s q c y at).0.session ≡ heart s
  unfolding submit_of taken
  submit_leaves y at = unless_both {A = Answered ℕ × List ℕ × List ℕ} _ _ _ (λ z. heart z.0.session ≡ heart s) (λ k. turned_leaves k s) (λ fine. refl)

  -- a transition
  pub transition_leaves : (f : SongFrame) (at : At) → heart (transition_of s q c f at).0.session ≡ heart s
  unfolding transition_of taken
  transition_leaves f at =
      unless_both {A = Answered ℕ × List ℕ × List ℕ} _ _ _ (λ z. heart z.0.session ≡ heart s) (λ k. turned_leaves k s) (λ fine. refl)

  -- and a replay
  pub replay_leaves : (list : List ℕ) → heart (replay_of s q c list).0.session ≡ heart s
  unfolding replay_of
  replay_leaves list =
      unless_both {A = Answered Report × List ℕ} _ _ _ (λ z. heart z.0.session ≡ heart s) (λ k. refl) (λ fine. replayed_leaves s q list (length list / 5))

-- A senseless loop is refused, at submission and in a replayed record, and no other loop is for its sense. Assumes nothing.
use mathlib.Core.Path.{◌≡◌, refl, sym, ap, ◌∙◌}
use mathlib.Core.Bool.{true, false, not}
use mathlib.Core.List.{List}
use Prim.Native.Nat.{ℕ, suc, ◌≤◌, ◌<◌}
use borrow.Author.Tests.{lt-ltb, le-ltb}
use Rattle.counts.specs.declared.SongFrame.{SongFrame}
use Rattle.timeline.specs.declared.Row.{Row}
use Rattle.timeline.specs.declared.Submission.{Submission}
use Rattle.timeline.specs.Command.{is_senseless}
use Rattle.timeline.specs.Record.{read_of}
use Rattle.timeline.specs.Store.{row_at}
use Rattle.transport.specs.declared.At.{At}
use Rattle.session.specs.declared.Session.{Session}
use Rattle.session.specs.declared.Refusal.{Refusal}
use Rattle.session.proofs.Refuse.{stop, skip}
use Rattle.submission.specs.Weigh.{weigh_command}
use Rattle.submission.specs.Submit.{weigh_submit}
use Rattle.submission.specs.Replay.{weigh_replayed, replayed}
use Rattle.promises.specs.Calls.{State, submit, refusal}
use Rattle.promises.specs.Kept.{Good}
use Rattle.promises.specs.Stale.{skipped}
use Rattle.promises.specs.Senseless.{SenselessRefused}
use Rattle.promises.proofs.Fine.{weighed_number, submit_says}
use Rattle.promises.proofs.Skips.{Otherwise, by, otherwise_after, row_skipped}
use Rattle.promises.proofs.Taken.{reached_all}

submitting : (x : State) (s e : SongFrame) (at : At) → Good x → e.0 ≤ s.0 → refusal (submit (Submission.Loop s e) at) x ≡ 22
unfolding weigh_submit weigh_command
submitting x s e at g l =
    submit_says x (Submission.Loop s e) at
    ∙ sym (ap weighed_number (skip _ _ _ _ (ap not g.formed) (skip _ _ _ _ refl (stop _ Refusal.SenselessLoop _ (ap not (le-ltb s.0 e.0 l))))))

accepting : (x : State) (s e : SongFrame) (at : At) → s.0 < e.0 → refusal (submit (Submission.Loop s e) at) x ≡ refusal (submit Submission.ClearLoop at) x
unfolding weigh_submit weigh_command
accepting x s e at l =
    submit_says x (Submission.Loop s e) at ∙ rw (lt-ltb s.0 e.0 l) (sym (submit_says x Submission.ClearLoop at))

senseless_otherwise : (s : Session) (q : List ℕ) (r : Row) → is_senseless (read_of r) ≡ true → Otherwise (weigh_replayed s q r)
unfolding weigh_replayed weigh_command
senseless_otherwise s q r e = otherwise_after _ _ _ refl (otherwise_after _ _ _ refl (by Refusal.SenselessLoop (sym (stop _ _ _ e)) refl))

replaying : (x : State) (list : List ℕ) (j : ℕ) → is_senseless (read_of (row_at list j)) ≡ true
    → replayed x.session x.queue list (suc j) ≡ skipped (replayed x.session x.queue list j)
unfolding replayed
replaying x list j e = row_skipped (replayed x.session x.queue list j) (row_at list j) (senseless_otherwise _ _ (row_at list j) e)

-- all of it
pub senseless_refused : SenselessRefused
senseless_refused =
    record { submitting = submitting; replaying = replaying; accepting = accepting; none = reached_all (λ y. is_senseless y ≡ false) (λ s q spare y f. f.sense) }

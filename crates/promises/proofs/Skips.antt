-- A replayed record that is refused with something else than 15 is skipped. Assumes nothing.
use mathlib.Core.Path.{◌≡◌, refl, ◌∙◌}
use mathlib.Core.Bool.{Bool, true, false}
use lib.Dec.{eqb}
use Rattle.timeline.specs.declared.Row.{Row}
use Rattle.session.specs.declared.Refusal.{Refusal}
use Rattle.session.specs.Refusal.{number_of, first}
use Rattle.session.specs.Session.{turned_away}
use Rattle.session.proofs.Refuse.{unless_refused}
use Rattle.submission.specs.Replay.{Replaying, weigh_replayed, skipped_by, replay_row}
use Rattle.promises.specs.Stale.{skipped}
use Rattle.std.specs.Prelude.{Result, Err}

-- it is refused with something else than 15
pub data Otherwise (w : Result (Unit {0}) Refusal) : Type 0 where
  by : (k : Refusal) → w ≡ Err k → eqb (number_of k) 15 ≡ false → Otherwise w

-- also where a test for something else than 15 comes before
pub otherwise_after : (t : Bool) (k : Refusal) (rest : Result (Unit {0}) Refusal) → eqb (number_of k) 15 ≡ false → Otherwise rest → Otherwise (first t k rest)
unfolding first
otherwise_after true k rest e o = by k refl e
otherwise_after false k rest e o = o

pub row_skipped : (z : Replaying) (r : Row) → Otherwise (weigh_replayed z.session z.queue r) → replay_row z r ≡ skipped z
unfolding replay_row turned_away
row_skipped z r (by k w e) = unless_refused (weigh_replayed z.session z.queue r) (skipped_by z) _ k w ∙ rw e

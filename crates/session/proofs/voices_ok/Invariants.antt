-- `voices_ok` meets its contract: the test held at every voice passed.
use mathlib.Core.Path.{◌≡◌}
use mathlib.Core.Bool.{true}
use Prim.Native.Nat.{ℕ, ◌-◌, ◌≤◌, ◌<◌}
use Rattle.oneshot.specs.Mix.{voice_at}
use Rattle.session.specs.declared.Session.{Session}
use Rattle.session.specs.WellFormed.{voice_ok}
use Rattle.session.proofs.voices_ok.Given as goal

abbrev pub invariant-loop-i : goal.invariant-loop-i
invariant-loop-i l = (l.i ≤ l.voices.count) × ((s : Session) → s.bank ≡ l.b → s.settings.rate ≡ l.rate → (k : ℕ) → k < l.i → voice_ok s (voice_at l.voices k) ≡ true)

abbrev pub decreases-loop-i : goal.decreases-loop-i
decreases-loop-i l = l.voices.count - l.i

-- A run that starts where a well formed session stands: it can go on, and it is the session's dry run. Assumes nothing.
use mathlib.Core.Path.{◌≡◌, refl}
use mathlib.Core.List.{List}
use Prim.Native.Nat.{ℕ, ◌+◌, ◌*◌, ◌^◌, ◌≤◌}
use native.Mathlib.Omega.{arith}
use borrow.Author.Tests.{le-leb}
use Rattle.counts.specs.declared.Handle.{Handle}
use Rattle.counts.proofs.Truth.{and_true}
use Rattle.timeline.specs.Store.{row_at}
use Rattle.timeline.proofs.WellFormed.{entry_readable, entry_gain, queue_entry}
use Rattle.session.specs.declared.Session.{Session}
use Rattle.session.specs.Session.{extent_now}
use Rattle.session.proofs.Parts.{Parts}
use Rattle.leaps.specs.Dry.{lengths_in, dry_ran}
use Rattle.leaps.specs.Run.{run_of, ran_from, Runnable}

-- it can go on, where every song is short enough and the sheet has a row for each queued command
pub run_ready : (s : Session) (q c : List ℕ) → Parts s q c → ((h : Handle) → lengths_in s.bank h ≤ 2 ^ 40) → (n space : ℕ) → s.stage.clock.0 + n ≤ 2 ^ 62
    → s.queued * 10 ≤ space → Runnable s.bank q (run_of s) n space
run_ready s q c p short n space clock room =
    record {
      short = short;
      fits = and_true (le-leb s.stage.playhead.transport.position.0 (extent_now s) p.position) p.looped;
      blind = refl;
      clock = clock;
      lies = omega (arith, p.queue_size, p.queued);
      reads = λ j l. entry_readable s.desk.number (row_at q j) (queue_entry s.desk.number q s.queued p.queue j l);
      gains = λ j l. entry_gain s.desk.number (row_at q j) (queue_entry s.desk.number q s.queued p.queue j l);
      room = omega arith;
    }

-- what it comes to is what the session's dry run does
pub run_dry : (s : Session) (q : List ℕ) (n : ℕ) → ran_from s.bank q (run_of s) n ≡ dry_ran s q n
unfolding ran_from dry_ran
run_dry s q n = refl

-- What holds of a run holds of fewer frames. Assumes nothing.
use Prim.Native.Nat.{ℕ, ◌≤◌}
use native.Mathlib.Omega.{arith}
use Rattle.transport.specs.declared.Transport.{Transport}
use Rattle.runs.specs.Run.{Inside, Steady}

pub inside_fewer : (frames c m n : ℕ) → Inside frames c m → n ≤ m → Inside frames c n
inside_fewer frames c m n i h l = omega (arith, i l)

pub steady_fewer : (frames extent m n : ℕ) (t : Transport) → Steady frames extent m t → n ≤ m → Steady frames extent n t
steady_fewer frames extent m n t s h =
    record { end = λ e. omega (arith, s.end e); low = λ e. omega (arith, s.low e); inside = λ e. inside_fewer frames t.cursor.0 m n (s.inside e) h; laps = s.laps }

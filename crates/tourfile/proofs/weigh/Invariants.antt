-- `weigh` meets its contract.
use mathlib.Core.Path.{◌≡◌}
use Prim.Native.Nat.{◌-◌, ◌≤◌}
use lib.ListN.{length, drop}
use Rattle.fields.specs.Field.{fields_of}
use Rattle.tourfile.specs.Reader.{start, weighed}
use Rattle.tourfile.proofs.weigh.Given as goal

abbrev pub invariant-loop-p : goal.invariant-loop-p
invariant-loop-p l = (l.p.count ≤ l.p.at) × (l.p.at ≤ length l.file) × (weighed l.clips l.p (fields_of (drop l.p.at l.file)) ≡ weighed l.clips start (fields_of l.file))

abbrev pub decreases-loop-p : goal.decreases-loop-p
decreases-loop-p l = length l.file - l.p.at

-- The passes of a frame, and of frames one after the other. Assumes nothing.
use mathlib.Core.Path.{◌≡◌}
use mathlib.Core.List.{List, [], ◌∷◌, ◌++◌}
use Prim.Native.Nat.{◌+◌, ◌≤◌}
use native.Mathlib.Omega.{arith}
use Rattle.transport.proofs.Passes.{few}
use Rattle.bank.specs.Recording.{View}
use Rattle.stage.specs.declared.Settings.{Settings}
use Rattle.stage.specs.declared.Stage.{Stage}
use Rattle.stage.specs.Mode.{is_house}
use Rattle.stage.specs.Playhead.{moved_of}
use Rattle.stage.specs.Stage.{frame_of}
use Rattle.stage.specs.Machine.{FrameMade, passes_of}

-- a frame makes at most two
pub frame_few : (x : Settings) (view : View) (s : Stage) → (frame_of x view s).passes ≤ 2
unfolding frame_of moved_of
frame_few x view s = few (is_house x) (view s.playhead.song).frames (view s.playhead.song).extent s.playhead.transport

-- they add up
pub passes_append : (l k : List FrameMade) → passes_of (l ++ k) ≡ passes_of l + passes_of k
passes_append [] k = omega arith
passes_append (m ∷ l) k = omega (arith, passes_append l k)

-- The machine's clock. Assumes nothing.
use mathlib.Core.Path.{refl}
use native.Mathlib.Numerals.{add-one}
use Rattle.laws.specs.Queue.{Clocked}
use Rattle.bank.specs.Recording.{View}
use Rattle.stage.specs.declared.Settings.{Settings}
use Rattle.stage.specs.Stage.{frame_of, execute_of}
use Rattle.stage.specs.Machine.{machine_of}

-- a frame moves the clock by one, and a command leaves it
pub clocked : (x : Settings) (view : View) → Clocked (machine_of x view)
unfolding frame_of execute_of
clocked x view = record { ticks = λ s. add-one s.clock.0; stays = λ d s. refl }

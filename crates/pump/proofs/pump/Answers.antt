-- `pump::pump` meets its contract. Assumes nothing.
use mathlib.Core.Path.{sym, ◌∙◌}
use Rattle.pump.proofs.Weighing.{accepted, pump_gives}
use Rattle.pump.proofs.pump.Goals as goal

pub returns-in-Ok : goal.returns-in-Ok
returns-in-Ok c =
    pump_gives _ _ _ _ _ _ _ (accepted _ _ _ _ _ _ _ (sym c.weigh_pump-weighed.ensures ∙ c.in-Ok.is)) _ c.frames_made-made.ensures _ _ c.round-pushed.ensures _ c.reported_by.ensures _ c.place.ensures

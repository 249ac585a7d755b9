-- 'Answers stay as they are for all rates from 8,000 to 192,000': the declick of each session is tono's own. Definitions only.
use Rattle.std.specs.Prelude.{◌≡◌}
use Rattle.ramp.specs.Number.{two32}
use Rattle.ramp.specs.Ramp.{tween_of, declick_of}
use Rattle.ramp.specs.Tono.{tono_ms}
use Rattle.promises.specs.Calls.{State, Reached}

-- tono's Tween::ms(2.0, rate), at the rate of a reached session
abbrev pub DeclickAsTono : Type 0
DeclickAsTono = (x : State) → Reached x → declick_of x.session.settings.rate ≡ tween_of (tono_ms two32 x.session.settings.rate)

-- The session's mode, chosen at opening. Definitions only.
use Rattle.std.specs.Prelude.{ℕ, Bool, eqb, leb}
use Rattle.stage.specs.declared.Settings.{Settings}

-- 0 is 'as tono', 1 is 'house'; any other is unknown
abbrev pub mode_ok : ℕ → Bool
mode_ok n = leb n 1

abbrev pub is_house : Settings → Bool
is_house x = eqb x.mode 1

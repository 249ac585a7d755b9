-- What a step of the code asks for, and no reader of the documents needs. Definitions only.
use Rattle.std.specs.Prelude.{ℕ, ◌<◌, ◌^◌}
use Rattle.fields.specs.declared.Part.{Part}

-- the word of a gain has 32 bits
abbrev pub Fits : Part → ℕ → Type 0
Fits Part.Nothing w = Unit {0}
Fits Part.Frame w = Unit {0}
Fits Part.Gain w = w < 2 ^ 32
Fits Part.Clip w = Unit {0}

-- c over a lent slice of voices, each of which sounds. Definitions only.
use Rattle.std.specs.Prelude.{ℕ, ◌≤◌, List, cond, leb, length, Result, Ok, Err}
use Rattle.bank.specs.declared.Bank.{Bank}
use Rattle.bank.specs.Recording.{View}
use Rattle.oneshot.specs.declared.Voice.{Voice}
use Rattle.oneshot.specs.declared.Voices.{Voices}
use Rattle.oneshot.specs.declared.Mixed.{Mixed}
use Rattle.oneshot.specs.declared.Pair.{Pair}
use Rattle.oneshot.specs.declared.TooMany.{TooMany}
use Rattle.oneshot.specs.Mix.{mix_in}
use Rattle.oneshot.specs.Sounding.{Sounds, Each}

-- lent voices as a table that has no other places
abbrev pub table_of : List Voice → Voices
table_of vs = record { table = vs; count = length vs }

-- where at most 16 voices are lent, each of them can sound
abbrev pub LentReady : ℕ → Bank → List Voice → Type 0
LentReady n b vs = length vs ≤ 16 → Each (Sounds n b) (table_of vs)

-- how many stay and the sum; the places
abbrev pub lent_mixed : Mixed → Result (ℕ × Pair) TooMany × List Voice
lent_mixed m = (Ok (m.voices.count, m.sum), m.voices.table)

-- what more than 16 are answered with
abbrev pub too_many : TooMany
too_many = record {}

-- at most 16 are a frame of the table; more are answered, and stay as they were
unfoldable pub lent_of : View → List Voice → Result (ℕ × Pair) TooMany × List Voice
lent_of view vs = cond (leb (length vs) 16) (lent_mixed (mix_in view (table_of vs))) (Err too_many, vs)

-- What is compared, and what is counted. Definitions only.
use Rattle.std.specs.Prelude.{ℕ, ◌+◌, ◌%◌, ◌^◌, Bool, false, cond, ◌&&◌, ◌||◌, ◌==◌, nat_le, slice_index, Option, Some, None}
use Rattle.counts.specs.Below.{all_below}
use Rattle.answers.specs.declared.lines.Line.{Line}

-- a line ends before place i, or another has the same number there
abbrev pub agrees_at : Line → Line → ℕ → Bool
agrees_at a b i = nat_le a.count i || slice_index a.words i == slice_index b.words i

-- two lines have the same numbers: at each place the same, and as many; one that could not be read has none
unfoldable pub same_numbers : Line → Option Line → Bool
same_numbers a (Some b) = all_below 24 (agrees_at a b) && a.count == b.count
same_numbers a None = false

-- one more; a count is a word of 64 bits
abbrev pub one_more : ℕ → ℕ
one_more n = (n + 1) % 2 ^ 64

-- the differences once the Rust's line is compared with ours: one more if their numbers are not the same
abbrev pub counted : Line → Option Line → ℕ → ℕ
counted rust ours n = cond (same_numbers rust ours) n (one_more n)

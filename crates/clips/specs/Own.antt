-- A session's own list of 32 words, as a tour's file asks for one. Definitions only.
use Rattle.std.specs.Prelude.{cond, List, [], ◌∷◌, ℕ, zero, suc, ◌+◌}
use Rattle.timeline.specs.Record.{handle_word}
use Rattle.bank.specs.declared.Bank.{Bank}
use Rattle.bank.specs.Slots.{used_at, clip_in, handle_of}

-- the word of a slot: the handle of its clip, none where it is free
unfoldable pub slot_word : Bank → ℕ → ℕ
slot_word b i = cond (used_at b.used i) (handle_word (handle_of i (clip_in b i))) 0

-- those of k slots from slot i on
unfoldable pub slot_words : Bank → ℕ → ℕ → List ℕ
slot_words b i zero = []
slot_words b i (suc k) = slot_word b i ∷ slot_words b (i + 1) k

-- a session's own list: each loaded clip at its slot
unfoldable pub clips_of : Bank → List ℕ
clips_of b = slot_words b 0 32

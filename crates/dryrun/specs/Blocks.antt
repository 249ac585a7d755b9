-- Block lengths as pairs of words: how many times, and how many frames. Definitions only.
use Rattle.std.specs.Prelude.{ℕ, ◌+◌, ◌*◌, ◌^◌, Option, Some, None, cond, List, [], ◌∷◌, leb}

-- all their frames together; a last word that stands alone adds none
unfoldable pub frames_in : List ℕ → ℕ
frames_in [] = 0
frames_in (times ∷ []) = 0
frames_in (times ∷ (frames ∷ rest)) = times * frames + frames_in rest

-- so many frames from clock frame 0 on, if they end by 2^62; else none
unfoldable pub sum_to : ℕ → Option ℕ
sum_to n = cond (leb n (2 ^ 62)) (Some n) None

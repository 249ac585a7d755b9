-- The ring in its lent store. Definitions only.
use Rattle.std.specs.Prelude.{ℕ, zero, suc, ◌+◌, ◌-◌, ◌%◌, ◌≤◌, ◌<◌, Bool, ◌&&◌, List, [], ◌∷◌, ◌++◌, leb, ltb, length, get_or, set, Float}
use Rattle.std.specs.Float.{nan}
use Rattle.ring.specs.declared.SampleRing.{SampleRing}

-- a ring of its parts
abbrev pub ring_at : ℕ → ℕ → SampleRing
ring_at h t = record { head = h; tail = t }

-- it holds nothing
abbrev pub empty_ring : SampleRing
empty_ring = ring_at 0 0

-- a store of 3 to 65,536 samples, head and tail inside it
abbrev pub ring_ok : ℕ → SampleRing → Bool
ring_ok n r = ((leb 3 n && leb n 65536) && ltb r.head n) && ltb r.tail n

-- the same as a fact
pub record Within (n : ℕ) (r : SampleRing) : Type 0 where
  pub least : 3 ≤ n
  pub most : n ≤ 65536
  pub head : r.head < n
  pub tail : r.tail < n

-- the samples that wait
unfoldable pub held_of : ℕ → SampleRing → ℕ
held_of n r = (r.tail + n - r.head) % n

-- those that still fit: one place always stays empty
unfoldable pub free_of : ℕ → SampleRing → ℕ
unfolding held_of
free_of n r = n - 1 - held_of n r

-- the place i samples on from h, round the store's end
unfoldable pub place_at : ℕ → ℕ → ℕ → ℕ
place_at n h i = (h + i) % n

-- k samples from place h on
unfoldable pub from : List Float → ℕ → ℕ → List Float
unfolding place_at
from store h zero = []
from store h (suc k) = from store h k ++ (get_or store (place_at (length store) h k) nan ∷ [])

-- what waits, in the order in which it is heard
abbrev pub waiting : SampleRing → List Float → List Float
waiting r store = from store r.head (held_of (length store) r)

-- samples pushed one after the other from place t on, in a store of n
unfoldable pub pushed : ℕ → List Float → ℕ → List Float → List Float
unfolding place_at
pushed n store t [] = store
pushed n store t (x ∷ xs) = pushed n (set store (place_at n t 0) x) (t + 1) xs

-- A drain: the block begins with what it takes, the rest is silence, and what it took no longer waits. Assumes nothing.
use mathlib.Core.Path.{◌≡◌, refl, sym, ap, ◌∙◌}
use mathlib.Core.List.{List, [], ◌∷◌, ◌++◌}
use Prim.Native.Nat.{ℕ, zero, suc, ◌+◌, ◌-◌, ◌*◌, ◌/◌, ◌%◌, ◌≤◌, min}
use native.Mathlib.Omega.{arith}
use native.Mathlib.Nat.{min-le_left, min-le_right}
use lib.ListN.{length, take, replicate}
use lib.Seq.{take_at}
use lib.Ieee.{Float}
use Rattle.ramp.specs.Number.{zero32}
use Rattle.ring.specs.declared.SampleRing.{SampleRing}
use Rattle.ring.specs.declared.Drained.{Drained}
use Rattle.ring.specs.Ring.{ring_at, Within, held_of, place_at, from, waiting}
use Rattle.ring.specs.Drain.{whole_of, drained, drain_done, drain_of, by_frames}
use Rattle.ring.proofs.Places.{place_lt, place_on, held_lt, tail_at, held_of_law, ring_ok_law}
use Rattle.ring.proofs.Pushed.{from_on, from_length}
use Rattle.std.specs.Prelude.{Ok}

-- ---- frame by frame
-- nothing waits: silence
none_frames : (m : ℕ) → by_frames [] m ≡ replicate m zero32
unfolding by_frames
none_frames zero = refl
none_frames (suc zero) = refl
none_frames (suc (suc m)) = rw (none_frames m)

-- half a frame waits: silence too
half_frames : (x : Float) (m : ℕ) → by_frames (x ∷ []) m ≡ replicate m zero32
unfolding by_frames
half_frames x zero = refl
half_frames x (suc zero) = refl
half_frames x (suc (suc m)) = rw (half_frames x m)

-- whole frames first, then silence, is what the rule says frame by frame
pub frames_first : (xs : List Float) (m : ℕ)
    → by_frames xs m ≡ take (min (m / 2) (length xs / 2) * 2) xs ++ replicate (m - min (m / 2) (length xs / 2) * 2) zero32
unfolding by_frames
frames_first xs zero = ap (λ (k : ℕ). take (k * 2) xs ++ replicate (0 - k * 2) zero32) (sym z)
  where
    z : min (0 / 2) (length xs / 2) ≡ 0
    z = omega arith
frames_first xs (suc zero) = ap (λ (k : ℕ). take (k * 2) xs ++ replicate (1 - k * 2) zero32) (sym z)
  where
    z : min (1 / 2) (length xs / 2) ≡ 0
    z = omega arith
frames_first [] (suc (suc m)) =
    let z : min (suc (suc m) / 2) (0 / 2) ≡ 0 = omega arith in
    let e : suc (suc m) - 0 * 2 ≡ suc (suc m) = omega arith in
    rw (z, e) (none_frames (suc (suc m)))
frames_first (x ∷ []) (suc (suc m)) =
    let z : min (suc (suc m) / 2) (1 / 2) ≡ 0 = omega arith in
    let e : suc (suc m) - 0 * 2 ≡ suc (suc m) = omega arith in
    rw (z, e) (half_frames x (suc (suc m)))
frames_first (x ∷ (y ∷ xs)) (suc (suc m)) =
    let k : ℕ = min (m / 2) (length xs / 2) in
    let e : min (suc (suc m) / 2) (suc (suc (length xs)) / 2) * 2 ≡ suc (suc (k * 2)) = omega arith in
    let f : suc (suc m) - suc (suc (k * 2)) ≡ m - k * 2 = omega arith in
    rw (e, f, frames_first xs m)

-- ---- a drain

-- the frames that a block of m samples takes
module _ (n : ℕ) (r : SampleRing) (m : ℕ) where
  -- wait,
  pub whole_held : whole_of n r m * 2 ≤ held_of n r
  whole_held = omega (arith, min-le_right (m / 2) (held_of n r / 2))

  -- and fit the block
  pub whole_most : whole_of n r m * 2 ≤ m
  whole_most = omega (arith, min-le_left (m / 2) (held_of n r / 2))

module _ (r : SampleRing) (store : List Float) where
  -- the ring with the head k samples on
  abbrev ahead : ℕ → SampleRing
  ahead k = ring_at (place_at (length store) r.head k) r.tail

  abbrev whole : ℕ → ℕ
  whole = whole_of (length store) r

  module _ (w : Within (length store) r) where
    -- k samples fewer wait,
    ahead_held : (k : ℕ) → k ≤ held_of (length store) r → held_of (length store) (ahead k) ≡ held_of (length store) r - k
    ahead_held k l =
        let m : ℕ = length store in
        let x : ℕ = held_of m r in
        let h : ℕ = place_at m r.head k in
        let e : k + (x - k) ≡ x = omega arith in
        let t : place_at m h (x - k) ≡ r.tail = place_on m r.head k (x - k) ∙ ap (place_at m r.head) e ∙ tail_at m r w in
        ap (λ (y : ℕ). held_of m (ring_at h y)) (sym t)
        ∙ held_of_law m h (x - k) (place_lt m r.head k (omega (arith, w.least))) (omega (arith, held_lt m r w))

    -- and what waited is those k and then what waits
    ahead_waits : (k : ℕ) → k ≤ held_of (length store) r → waiting r store ≡ from store r.head k ++ waiting (ahead k) store
    ahead_waits k l =
        let e : k + (held_of (length store) r - k) ≡ held_of (length store) r = omega arith in
        ap (from store r.head) (sym e)
        ∙ from_on store r.head k (held_of (length store) r - k)
        ∙ ap (λ (j : ℕ). from store r.head k ++ from store (place_at (length store) r.head k) j) (sym (ahead_held k l))

    module _ (m : ℕ) where
      -- THE BLOCK: what it takes, and then silence alone
      pub drain_block : by_frames (waiting r store) m ≡ from store r.head (whole m * 2) ++ replicate (m - whole m * 2) zero32
      drain_block =
          frames_first (waiting r store) m
          ∙ rw (from_length store r.head (held_of (length store) r), ahead_waits (whole m * 2) (whole_held (length store) r m))
          (ap (λ (l : List Float). l ++ replicate (m - whole m * 2) zero32) (take_at (from store r.head (whole m * 2)) (waiting (ahead (whole m * 2)) store) (whole m * 2) (from_length store r.head (whole m * 2))))

      -- what waited is what it took, and then what waits
      pub drain_waits : waiting r store ≡ from store r.head (whole m * 2) ++ waiting (drain_done r store m).0.ring store
      drain_waits = ahead_waits (whole m * 2) (whole_held (length store) r m)

      -- the ring stays within its store
      pub drain_within : Within (length store) (drain_done r store m).0.ring
      drain_within = record { least = w.least; most = w.most; head = place_lt (length store) r.head (whole m * 2) (omega (arith, w.least)); tail = w.tail }

      -- a whole number of frames stays a whole number of frames
      pub drain_even : held_of (length store) r % 2 ≡ 0 → held_of (length store) (drain_done r store m).0.ring % 2 ≡ 0
      drain_even e = rw (ahead_held (whole m * 2) (whole_held (length store) r m)) (omega (arith, whole_held (length store) r m))

    -- a ring within its store is not refused
    pub drain_done_law : (out : List Float) → drain_of r store out ≡ drain_done r store (length out)
    unfolding drain_of
    drain_done_law out = simp (ring_ok_law (length store) r w)

    -- what a drain gives that takes k frames, moves the head past them, and fills the block with them and silence
    pub drain_gives : (out : List Float) (k : ℕ) → k ≡ whole (length out) → (p : ℕ) → p ≡ place_at (length store) r.head (k * 2)
        → (ys : List Float) → ys ≡ from store r.head (k * 2) ++ replicate (length out - k * 2) zero32
        → ◌≡◌ {A = Drained × List Float} (drained (Ok k) (ring_at p r.tail), ys) (drain_of r store out)
    drain_gives out k e p f ys g = rw (drain_done_law out, g, f, e, drain_block (length out))

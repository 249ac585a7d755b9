-- A part of the pool over a run is the clip's share at each of its places. Assumes nothing.
use mathlib.Core.Path.{◌≡◌, refl, sym, ap, ◌∙◌}
use mathlib.Core.Bool.{Bool, true, false, cond}
use mathlib.Core.List.{List}
use Prim.Native.Nat.{ℕ, ◌+◌, ◌*◌, ◌≤◌, ◌<◌}
use native.Mathlib.Omega.{arith}
use lib.Dec.{ltb}
use lib.ListN.{length, get_or}
use Rattle.std.specs.Prelude.{Some, None}
use lib.Ieee.{Float, nan}
use borrow.Author.Tests.{ltb-true}
use Rattle.ramp.specs.Number.{zero32}
use Rattle.transport.specs.declared.Transport.{Transport}
use Rattle.transport.specs.Transport.{is_playing}
use Rattle.bank.specs.declared.Clip.{Clip}
use Rattle.bank.specs.Recording.{recording_of}
use Rattle.oneshot.specs.Heard.{heard_of, sample_at}
use Rattle.oneshot.specs.Sounding.{LiesIn}
use Rattle.oneshot.proofs.Places.{place_inside, place_past}
use Rattle.sweeps.specs.Adds.{share_of, Reads}
use Rattle.runs.specs.Run.{Inside, part_of, song_part}
use Rattle.runs.proofs.Song.{Ends, clip_share, song_share}

module _ (pool : List Float) (x : Clip) where
  -- a clip is silent past its frames
  pub clip_ends : Ends (recording_of pool x)
  clip_ends k l = place_past pool x k l

  pub part_share : (c n k : ℕ) → Inside x.frames c n → k < n * 2 → share_of pool (part_of x c) k ≡ clip_share (recording_of pool x) c k
  unfolding share_of
  part_share c n k i h = go (ltb c x.frames) refl
    where
      go : (b : Bool) → ltb c x.frames ≡ b
          → share_of pool (cond b (Some ((x.start + c) * 2)) None) k ≡ cond b (sample_at (recording_of pool x) (c * 2 + k)) zero32
      go true e =
          let l : c + n ≤ x.frames = i (ltb-true c x.frames e) in
          let q : (x.start + c) * 2 + k ≡ x.start * 2 + (c * 2 + k) = omega arith in
          ap (λ j. heard_of (get_or pool j nan)) q ∙ sym (place_inside pool x (c * 2 + k) (omega arith))
      go false e = refl

  pub part_reads : (c n : ℕ) → LiesIn (length pool) x → Inside x.frames c n → Reads (length pool) (part_of x c) (n * 2)
  part_reads c n l i = go (ltb c x.frames) refl
    where
      go : (b : Bool) → ltb c x.frames ≡ b → Reads (length pool) (cond b (Some ((x.start + c) * 2)) None) (n * 2)
      go true e = let q : c + n ≤ x.frames = i (ltb-true c x.frames e) in omega (arith, l)
      go false e = tt

  pub song_share_law : (t : Transport) (n k : ℕ) → (is_playing t.state ≡ true → Inside x.frames t.cursor.0 n) → k < n * 2
      → share_of pool (song_part x t) k ≡ song_share (recording_of pool x) t k
  unfolding share_of
  song_share_law t n k i h = go (is_playing t.state) refl
    where
      go : (b : Bool) → is_playing t.state ≡ b → share_of pool (cond b (part_of x t.cursor.0) None) k ≡ cond b (clip_share (recording_of pool x) t.cursor.0 k) zero32
      go true e = part_share t.cursor.0 n k (i e) h
      go false e = refl

  pub song_reads : (t : Transport) (n : ℕ) → LiesIn (length pool) x → (is_playing t.state ≡ true → Inside x.frames t.cursor.0 n) → Reads (length pool) (song_part x t) (n * 2)
  song_reads t n l i = go (is_playing t.state) refl
    where
      go : (b : Bool) → is_playing t.state ≡ b → Reads (length pool) (cond b (part_of x t.cursor.0) None) (n * 2)
      go true e = part_reads t.cursor.0 n l (i e)
      go false e = tt

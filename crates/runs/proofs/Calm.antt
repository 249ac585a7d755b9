-- A run of a core equals its frames: where it leads, and what it adds at each place. Assumes nothing.
use mathlib.Core.Path.{◌≡◌, refl, sym, ap, ◌∙◌}
use mathlib.Core.Bool.{Bool, true, false, cond}
use mathlib.Core.List.{List}
use mathlib.Core.Logic.{⊎_elim}
use Prim.Native.Nat.{ℕ, zero, suc, ◌+◌, ◌*◌, ◌/◌, ◌%◌, ◌≤◌, ◌<◌}
use native.Mathlib.Nat.{add-zero}
use native.Mathlib.Numerals.{add-one}
use native.Mathlib.Omega.{arith}
use lib.Dec.{ltb}
use lib.ListN.{get_or, set}
use Rattle.std.specs.Prelude.{Option, Some, None}
use lib.Ieee.{Float, binary32, nan, add, mul}
use borrow.Author.Tests.{eq-eqb, ne_eqb}
use Rattle.transport.specs.declared.Transport.{Transport}
use Rattle.transport.specs.Transport.{is_playing, moved_to}
use Rattle.bank.specs.declared.Clip.{Clip}
use Rattle.bank.specs.Slots.{extent_of}
use Rattle.bank.specs.Recording.{Recording, recording_of}
use Rattle.oneshot.specs.declared.Pair.{Pair}
use Rattle.oneshot.specs.Pair.{pair}
use Rattle.stage.specs.declared.Settings.{Settings}
use Rattle.stage.specs.declared.Tail.{Tail}
use Rattle.stage.specs.Mode.{is_house}
use Rattle.sweeps.specs.Over.{over}
use Rattle.sweeps.specs.Adds.{share_of, ticks_of, gain_at}
use Rattle.sweeps.proofs.Over.{lt_or_ge, over_past, over_same}
use Rattle.sweeps.proofs.Moving.{frame_left, frame_right}
use Rattle.sweeps.proofs.Order.{add_swap}
use Rattle.runs.specs.declared.Core.{Core}
use Rattle.runs.specs.declared.Made.{Made}
use Rattle.runs.specs.Core.{core_on, core_gives, core_made, core_passes, core_after, passes_in, core_adds, side}
use Rattle.runs.specs.Run.{cursor_by, transport_by, tail_by, core_by, Fading, Calm, song_part, over_adds}
use Rattle.runs.proofs.Song.{song_share, moved_frame, played_frame}
use Rattle.runs.proofs.Tail.{ticks_next, tail_adds, tail_frame, tail_adds_law}
use Rattle.runs.proofs.Parts.{clip_ends, part_share, song_share_law}

-- ---- no frames: nothing has moved

cursor_none : (frames c : ℕ) → cursor_by frames c 0 ≡ c
cursor_none frames c = go (ltb c frames)
  where
    go : (b : Bool) → cond b (c + 0) c ≡ c
    go true = add-zero c
    go false = refl

transport_none : (frames : ℕ) (t : Transport) → transport_by frames 0 t ≡ t
transport_none frames t = go (is_playing t.state)
  where
    go : (b : Bool) → cond b (moved_to t (t.position.0 + 0) (cursor_by frames t.cursor.0 0)) t ≡ t
    go true = rw (add-zero t.position.0, cursor_none frames t.cursor.0) refl
    go false = refl

tail_none : (frames : ℕ) (t : Option Tail) → tail_by frames 0 t ≡ t
unfolding ticks_of
tail_none frames None = refl
tail_none frames (Some t) = rw (cursor_none frames t.cursor.0) refl

pub core_none : (song tail : ℕ) (c : Core) → core_by song tail 0 c ≡ c
unfolding ticks_of
core_none song tail c = rw (transport_none song c.playhead.transport, tail_none tail c.fade.tail) refl

-- ---- a side of a frame

pub side_left : (j : ℕ) (p : Pair) → side (j * 2) p ≡ p.left
side_left j p = let e : j * 2 % 2 ≡ 0 = omega arith in rw (eq-eqb _ _ e) refl

pub side_right : (j : ℕ) (p : Pair) → side (j * 2 + 1) p ≡ p.right
side_right j p = let e : (j * 2 + 1) % 2 ≡ 0 → ⊥ = λ q. omega arith in rw (ne_eqb _ _ e) refl

side_at : (f : ℕ → Float) (k : ℕ) → side k (pair (f (k / 2 * 2)) (f (k / 2 * 2 + 1))) ≡ f k
side_at f k =
    ⊎_elim
    (λ (h : k < k / 2 * 2 + 1).
    let e : k ≡ k / 2 * 2 = omega arith in
    let z : k % 2 ≡ 0 = omega arith in
    rw (eq-eqb (k % 2) 0 z) (ap f (sym e)))
    (λ (h : k / 2 * 2 + 1 ≤ k).
    let e : k ≡ k / 2 * 2 + 1 = omega arith in
    let z : k % 2 ≡ 0 → ⊥ = λ q. omega arith in
    rw (ne_eqb (k % 2) 0 z) (ap f (sym e)))
    (lt_or_ge k (k / 2 * 2 + 1))

-- ---- one frame more

module _ (x : Settings) (s t : Recording) (c : Core) where
  pub adds_next : (n : ℕ) (os o : List Float) (d : Core) (m : Made) → o ≡ over (core_adds x s t c) 0 (n * 2) os → d ≡ core_after x s t n c
      → m ≡ core_made x s t d (pair (get_or o (n * 2) nan) (get_or o (n * 2 + 1) nan))
      → set (set o (n * 2) m.out.left) (n * 2 + 1) m.out.right ≡ over (core_adds x s t c) 0 ((n + 1) * 2) os
  unfolding over
  adds_next n os o d m eo ed em =
      let e : (n + 1) * 2 ≡ suc (suc (n * 2)) = omega arith in
      let a : 0 + n * 2 ≡ n * 2 = omega arith in
      let b : 0 + suc (n * 2) ≡ n * 2 + 1 = omega arith in
      rw (
        em,
        ed,
        eo,
        e,
        a,
        b,
        over_past (core_adds x s t c) 0 (n * 2) os (n * 2) (omega arith),
        over_past (core_adds x s t c) 0 (n * 2) os (n * 2 + 1) (omega arith),
        side_left n _,
        side_right n _,
        frame_left n,
        frame_right n,
      ) refl

-- ---- its frames

module _ (pool : List Float) (x : Settings) (song clip : Clip) (c : Core) (n : ℕ) (h : Calm song clip n c) where
  abbrev s : Recording
  s = recording_of pool song

  abbrev t : Recording
  t = recording_of pool clip

  -- song × g, plus the tail's share, at place k
  abbrev leads : ℕ → Float
  leads k = tail_adds t x (gain_at c.master (k / 2)) c.fade.tail k (mul binary32 (song_share s c.playhead.transport k) (gain_at c.master (k / 2)))

  -- in the middle of it
  calm_on : (j : ℕ) → j < n → core_on x s t (core_by song.frames clip.frames j c) ≡ core_by song.frames clip.frames (j + 1) c
  unfolding core_on
  calm_on j lt =
      rw (moved_frame x c.playhead song.frames (extent_of song.kind) n j h.song lt, tail_frame t c.fade.tail n j h.tail lt, ticks_next j c.master) refl

  calm_gives : (j : ℕ) → j < n → core_gives x s t (core_by song.frames clip.frames j c) ≡ pair (leads (j * 2)) (leads (j * 2 + 1))
  unfolding core_gives
  calm_gives j lt =
      rw (
        moved_frame x c.playhead song.frames (extent_of song.kind) n j h.song lt,
        played_frame s (clip_ends pool song) _ c.playhead.transport j,
        tail_adds_law t x (gain_at c.master j) (clip_ends pool clip) c.fade.tail _ j,
        frame_left j,
        frame_right j,
      ) refl

  -- where it leads
  pub calm_after : (j : ℕ) → j ≤ n → core_after x s t j c ≡ core_by song.frames clip.frames j c
  unfolding core_after
  calm_after zero le = sym (core_none song.frames clip.frames c)
  calm_after (suc j) le = ap (core_on x s t) (calm_after j (omega arith)) ∙ calm_on j (omega arith) ∙ ap (λ i. core_by song.frames clip.frames i c) (add-one j)

  -- it passes no loop's end
  calm_still : (j : ℕ) → j < n → core_passes x s t (core_by song.frames clip.frames j c) ≡ 0
  calm_still j lt = ap (λ m. m.passes) (moved_frame x c.playhead song.frames (extent_of song.kind) n j h.song lt)

  pub calm_passes : (j : ℕ) → j ≤ n → passes_in x s t j c ≡ 0
  unfolding passes_in
  calm_passes zero le = refl
  calm_passes (suc j) le = rw (calm_after j (omega arith), calm_still j (omega arith), calm_passes j (omega arith)) refl

  -- what it adds
  calm_adds : (k : ℕ) (y : Float) → k < n * 2 → core_adds x s t c k y ≡ add binary32 (leads k) y
  calm_adds k y lt =
      let e : core_gives x s t (core_after x s t (k / 2) c) ≡ pair (leads (k / 2 * 2)) (leads (k / 2 * 2 + 1)) = ap (core_gives x s t) (calm_after (k / 2) (omega arith)) ∙ calm_gives (k / 2) (omega arith) in
      ap (λ p. add binary32 (side k p) y) e ∙ ap (λ a. add binary32 a y) (side_at leads k)

  -- with the parts of the pool
  over_adds_law : (u : Option Tail) (p : Option ℕ) (a y : Float) (k : ℕ) → Fading clip.frames n u → k < n * 2 → share_of pool p k ≡ a
      → over_adds (is_house x) pool p clip c.master u k y ≡ add binary32 (tail_adds t x (gain_at c.master (k / 2)) u k (mul binary32 a (gain_at c.master (k / 2)))) y
  over_adds_law None p a y k f lt e = ap (λ b. add binary32 y (mul binary32 b (gain_at c.master (k / 2)))) e ∙ add_swap binary32 y (mul binary32 a (gain_at c.master (k / 2)))
  over_adds_law (Some t) p a y k f lt e =
      rw (e, part_share pool clip t.cursor.0 n k f.1 lt) refl

  pub calm_over : (os : List Float) → over (over_adds (is_house x) pool (song_part song c.playhead.transport) clip c.master c.fade.tail) 0 (n * 2) os ≡ over (core_adds x s t c) 0 (n * 2) os
  calm_over os =
      over_same (over_adds (is_house x) pool (song_part song c.playhead.transport) clip c.master c.fade.tail) (core_adds x s t c) 0 os (n * 2)
      (λ k a b y.
      over_adds_law c.fade.tail (song_part song c.playhead.transport) _ y k h.tail (omega arith) (song_share_law pool song c.playhead.transport n k h.song.inside (omega arith)) ∙ sym (calm_adds k y (omega arith)))

-- ---- and so of no frames

module _ (pool : List Float) (x : Settings) (song clip : Clip) (c : Core) where
  pub lead_after : (n : ℕ) → (0 < n → Calm song clip n c) → core_by song.frames clip.frames n c ≡ core_after x (recording_of pool song) (recording_of pool clip) n c
  unfolding core_after
  lead_after zero h = core_none song.frames clip.frames c
  lead_after (suc n) h = sym (calm_after pool x song clip c (suc n) (h (omega arith)) (suc n) (omega arith))

  pub lead_over : (n : ℕ) → (0 < n → Calm song clip n c) → (os : List Float)
      → over (over_adds (is_house x) pool (song_part song c.playhead.transport) clip c.master c.fade.tail) 0 (n * 2) os ≡ over (core_adds x (recording_of pool song) (recording_of pool clip) c) 0 (n * 2) os
  unfolding over
  lead_over zero h os = refl
  lead_over (suc n) h os = calm_over pool x song clip c (suc n) (h (omega arith)) os

  pub lead_passes : (n : ℕ) → (0 < n → Calm song clip n c) → passes_in x (recording_of pool song) (recording_of pool clip) n c ≡ 0
  unfolding passes_in
  lead_passes zero h = refl
  lead_passes (suc n) h = calm_passes pool x song clip c (suc n) (h (omega arith)) (suc n) (omega arith)

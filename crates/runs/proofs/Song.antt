-- A frame of the song in the middle of a run: rules a and b decide as before. Assumes nothing.
use mathlib.Core.Path.{◌≡◌, refl, sym, ap, ◌∙◌}
use mathlib.Core.Bool.{Bool, true, false, cond}
use Prim.Native.Nat.{ℕ, ◌+◌, ◌-◌, ◌*◌, ◌^◌, ◌≤◌, ◌<◌, min}
use native.Mathlib.Omega.{arith}
use lib.Dec.{leb, ltb}
use lib.Ieee.{Float}
use borrow.Author.Tests.{ltb-true, ltb-false, lt-ltb, lt-leb}
use Rattle.std.specs.Prelude.{Option, Some, None}
use Rattle.std.specs.Bool.{then_some}
use Rattle.std.specs.Option.{option_map_or}
use Rattle.ramp.specs.Number.{zero32}
use Rattle.counts.specs.declared.SongFrame.{SongFrame}
use Rattle.transport.specs.declared.TransportState.{TransportState}
use Rattle.transport.specs.declared.LoopRange.{LoopRange}
use Rattle.transport.specs.declared.Transport.{Transport}
use Rattle.transport.specs.declared.Stepped.{Stepped}
use Rattle.transport.specs.Transport.{is_playing, transport, wrap_of, cursor_on, advance_of, is_past, comes_round, step_of}
use Rattle.bank.specs.Recording.{Recording}
use Rattle.counts.specs.Counts.{place_of}
use Rattle.oneshot.specs.Heard.{sample_at}
use Rattle.oneshot.specs.Pair.{pair, silence, pair_at}
use Rattle.stage.specs.declared.Settings.{Settings}
use Rattle.stage.specs.declared.Playhead.{Playhead}
use Rattle.stage.specs.Mode.{is_house}
use Rattle.stage.specs.Playhead.{playhead, moved_of}
use Rattle.stage.specs.Sound.{played_of}
use Rattle.runs.specs.Run.{cursor_by, transport_by, Inside, Steady}

-- a cursor goes on by one
pub cursor_frame : (frames c n j : ℕ) → Inside frames c n → j < n → cursor_on frames (cursor_by frames c j) ≡ cursor_by frames c (j + 1)
unfolding cursor_on
cursor_frame frames c n j h l = go (ltb c frames) refl
  where
    go : (b : Bool) → ltb c frames ≡ b → cond (ltb (cond b (c + j) c) frames) (cond b (c + j) c + 1) (cond b (c + j) c) ≡ cond b (c + (j + 1)) c
    go true e =
        let i : c + n ≤ frames = h (ltb-true c frames e) in
        let q : ltb (c + j) frames ≡ true = lt-ltb (c + j) frames (omega arith) in
        let r : c + j + 1 ≡ c + (j + 1) = omega arith in
        rw (q, r) refl
    go false e = rw e refl

-- past its frames a recording is silent
abbrev pub Ends : Recording → Type 0
Ends x = (k : ℕ) → x.frames * 2 ≤ k → sample_at x k ≡ zero32

-- place k of a clip from a cursor on; past the clip +0.0
abbrev pub clip_share : Recording → ℕ → ℕ → Float
clip_share x c k = cond (ltb c x.frames) (sample_at x (c * 2 + k)) zero32

-- what it reads there is the clip's share
pub cursor_reads : (x : Recording) → Ends x → (c j i : ℕ) → sample_at x (cursor_by x.frames c j * 2 + i) ≡ clip_share x c (j * 2 + i)
cursor_reads x ends c j i = go (ltb c x.frames) refl
  where
    go : (b : Bool) → ltb c x.frames ≡ b → sample_at x (cond b (c + j) c * 2 + i) ≡ cond b (sample_at x (c * 2 + (j * 2 + i))) zero32
    go true e = let q : (c + j) * 2 + i ≡ c * 2 + (j * 2 + i) = omega arith in ap (sample_at x) q
    go false e = let q : x.frames ≤ c = ltb-false c x.frames e in ends (c * 2 + i) (omega arith)

pub cursor_left : (x : Recording) → Ends x → (c j : ℕ) → sample_at x (cursor_by x.frames c j * 2) ≡ clip_share x c (j * 2)
cursor_left x ends c j =
    let a : cursor_by x.frames c j * 2 + 0 ≡ cursor_by x.frames c j * 2 = omega arith in
    let b : j * 2 + 0 ≡ j * 2 = omega arith in
    sym (ap (sample_at x) a) ∙ cursor_reads x ends c j 0 ∙ ap (clip_share x c) b

-- where the song is heard, if it plays: at the cursor so many frames on
abbrev pub heard_at : ℕ → ℕ → Transport → Option SongFrame
heard_at frames j t = then_some (is_playing t.state) (record { 0 = cursor_by frames t.cursor.0 j })

abbrev stepped : ℕ → ℕ → Transport → Stepped
stepped frames j t = record { transport = transport_by frames (j + 1) t; heard = heard_at frames j t; passes = 0 }

-- no pass, no lap more
no_lap : (k : ℕ) → k < 2 ^ 64 → min (k + 0) (2 ^ 64 - 1) ≡ k
no_lap k h = omega arith

-- the transport's step
step_parts : (house : Bool) (st : TransportState) (p c k : ℕ) (l : Option LoopRange) (frames extent n j : ℕ) → Steady frames extent n (transport st p c l k) → j < n
    → step_of house frames extent (transport_by frames j (transport st p c l k)) ≡ stepped frames j (transport st p c l k)
unfolding step_of wrap_of advance_of is_past comes_round
step_parts house TransportState.Stopped p c k l frames extent n j h lt = rw (no_lap k h.laps) refl
step_parts house TransportState.Paused p c k l frames extent n j h lt = rw (no_lap k h.laps) refl
step_parts house TransportState.Playing p c k None frames extent n j h lt =
    let a : p + n < extent = h.end refl in
    let q : leb extent (p + j + 1) ≡ false = lt-leb extent (p + j + 1) (omega arith) in
    let r : p + j + 1 ≡ p + (j + 1) = omega arith in
    rw (q, r, cursor_frame frames c n j (h.inside refl) lt, no_lap k h.laps) refl
step_parts house TransportState.Playing p c k (Some l) frames extent n j h lt =
    let a : p + n < l.end.0 = h.end refl in
    let o : leb l.end.0 (p + j) ≡ false = lt-leb l.end.0 (p + j) (omega arith) in
    let q : leb l.end.0 (p + j + 1) ≡ false = lt-leb l.end.0 (p + j + 1) (omega arith) in
    let r : p + j + 1 ≡ p + (j + 1) = omega arith in
    rw (o, q, r, cursor_frame frames c n j (h.inside refl) lt, no_lap k h.laps) refl

pub step_frame : (house : Bool) (t : Transport) (frames extent n j : ℕ) → Steady frames extent n t → j < n → step_of house frames extent (transport_by frames j t) ≡ stepped frames j t
step_frame house t frames extent n j h lt = step_parts house t.state t.position.0 t.cursor.0 t.laps t.looped frames extent n j h lt

-- the song, if it plays
abbrev pub song_share : Recording → Transport → ℕ → Float
song_share x t k = cond (is_playing t.state) (clip_share x t.cursor.0 k) zero32

-- the playhead's step
pub moved_frame : (x : Settings) (p : Playhead) (frames extent n j : ℕ) → Steady frames extent n p.transport → j < n
    → moved_of x frames extent (playhead (transport_by frames j p.transport) p.song)
    ≡ record { playhead = playhead (transport_by frames (j + 1) p.transport) p.song; heard = heard_at frames j p.transport; passes = 0 }
unfolding moved_of
moved_frame x p frames extent n j h lt = rw (step_frame (is_house x) p.transport frames extent n j h lt) refl

-- and what it gives
pub played_frame : (r : Recording) → Ends r → (q : Playhead) (t : Transport) (j : ℕ)
    → played_of r (record { playhead = q; heard = heard_at r.frames j t; passes = 0 }) ≡ pair (song_share r t (j * 2)) (song_share r t (j * 2 + 1))
unfolding played_of
played_frame r ends q t j = go (is_playing t.state)
  where
    go : (b : Bool)
        → option_map_or (λ c. pair_at r (place_of c)) (then_some b (record { 0 = cursor_by r.frames t.cursor.0 j })) silence
        ≡ pair (cond b (clip_share r t.cursor.0 (j * 2)) zero32) (cond b (clip_share r t.cursor.0 (j * 2 + 1)) zero32)
    go true = rw (cursor_left r ends t.cursor.0 j, cursor_reads r ends t.cursor.0 j 1) refl
    go false = refl

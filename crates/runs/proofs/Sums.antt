-- The sums of a run: voice after voice over all its places is, at each place, voice after voice. Assumes nothing.
use mathlib.Core.Path.{◌≡◌, refl, sym, ap, ◌∙◌}
use mathlib.Core.List.{List, [], ◌∷◌, ◌++◌, map, map-append}
use Prim.Native.Nat.{ℕ, zero, suc, ◌+◌, ◌-◌, ◌*◌, ◌/◌, ◌≤◌, ◌<◌}
use native.Mathlib.Numerals.{add-one}
use native.Mathlib.Omega.{arith}
use lib.ListN.{length, get_or, take, drop, set, length-map, length-set}
use lib.Seq.{take-suc, drop-cons, append_snoc, set_at, set-get_or, get_or-append-add, get_or-drop, length-take-le}
use Rattle.std.specs.Prelude.{Some}
use lib.Ieee.{Float, nan, binary32, add, mul}
use Rattle.bank.specs.declared.Clip.{Clip}
use Rattle.bank.specs.Recording.{Recording, View, recording_of}
use Rattle.oneshot.specs.declared.Voice.{Voice}
use Rattle.oneshot.specs.Heard.{heard_of}
use Rattle.oneshot.proofs.Places.{place_inside}
use Rattle.sweeps.specs.Over.{over}
use Rattle.sweeps.specs.Adds.{share_of, ticks_of, gain_at, adds, stream_adds, four_adds, cleared}
use Rattle.sweeps.proofs.Four.{four_adds_law}
use Rattle.sweeps.proofs.Ticks.{gain_landed}
use Rattle.sweeps.proofs.Over.{length_over, over_same, over_again}
use Rattle.runs.specs.Voices.{voice_by, LastsIn, Still, stream_of, share_in, voice_adds, voice_on, sum_from, sums}

-- ---- one voice

-- a part that sounds is the clip from the voice's head on
pub voice_sweep : (pool : List Float) (c : Clip) (v : Voice) (n : ℕ) (os : List Float) → v.head.0 + n * 2 < c.frames * 2
    → over (adds pool (Some (c.start * 2 + v.head.0)) v.gain) 0 (n * 2) os ≡ voice_on pool c n v os
unfolding share_of share_in
voice_sweep pool c v n os h =
    over_same (adds pool (Some (c.start * 2 + v.head.0)) v.gain) (voice_adds (recording_of pool c) v) 0 os (n * 2)
    (λ k a b x.
    let e : c.start * 2 + v.head.0 + k ≡ c.start * 2 + (v.head.0 + k) = omega arith in
    ap (λ y. add binary32 x (mul binary32 y (gain_at v.gain (k / 2)))) (ap (λ i. heard_of (get_or pool i nan)) e ∙ sym (place_inside pool c (v.head.0 + k) (omega arith))))

-- so is its stream, if its gain stands still
pub still_sweep : (pool : List Float) (c : Clip) (v : Voice) (n : ℕ) (os : List Float) → Still v → v.head.0 + n * 2 < c.frames * 2
    → over (stream_adds pool (stream_of v c)) 0 (n * 2) os ≡ voice_on pool c n v os
unfolding ticks_of
still_sweep pool c v n os r h =
    over_same (stream_adds pool (stream_of v c)) (adds pool (Some (c.start * 2 + v.head.0)) v.gain) 0 os (n * 2)
    (λ k a b x.
    ap (λ g. add binary32 x (mul binary32 (share_of pool (Some (c.start * 2 + v.head.0)) k) g)) (sym (gain_landed 0 (k / 2) v.gain (omega (arith, r)) (omega arith))))
    ∙ voice_sweep pool c v n os h

-- four of them
pub four_sweep : (pool : List Float) (n m : ℕ) (a b c d : Voice) (ca cb cc cd : Clip) (os : List Float)
    → Still a × Still b × Still c × Still d → LastsIn m n a ca × LastsIn m n b cb × LastsIn m n c cc × LastsIn m n d cd × (n * 2 ≤ length os)
    → over (four_adds pool (stream_of a ca) (stream_of b cb) (stream_of c cc) (stream_of d cd)) 0 (n * 2) os
    ≡ voice_on pool cd n d (voice_on pool cc n c (voice_on pool cb n b (voice_on pool ca n a os)))
four_sweep pool n m a b c d ca cb cc cd os s h =
    four_adds_law pool (stream_of a ca) (stream_of b cb) (stream_of c cc) (stream_of d cd) (n * 2) os h.4
    ∙ still_sweep pool cd d n _ s.3 h.3.1
    ∙ ap (voice_on pool cd n d)
    (still_sweep pool cc c n _ s.2 h.2.1
    ∙ ap (voice_on pool cc n c) (still_sweep pool cb b n _ s.1 h.1.1 ∙ ap (voice_on pool cb n b) (still_sweep pool ca a n os s.0 h.0.1)))

-- ---- voice after voice

pub sum_snoc : (view : View) (vs : List Voice) (v : Voice) (k : ℕ) (x : Float) → sum_from view (vs ++ (v ∷ [])) k x ≡ add binary32 (sum_from view vs k x) (share_in (view v.handle) v k)
unfolding sum_from
sum_snoc view [] v k x = refl
sum_snoc view (u ∷ us) v k x = sum_snoc view us v k (add binary32 x (share_in (view u.handle) u k))

-- a sweep that leaves each place
over_idle : (f : ℕ → Float → Float) → ((k : ℕ) (x : Float) → f k x ≡ x) → (n : ℕ) (os : List Float) → over f 0 n os ≡ os
unfolding over
over_idle f h zero os = refl
over_idle f h (suc n) os = rw (over_idle f h n os, h (0 + n) (get_or os (0 + n) nan)) (set-get_or os (0 + n) nan)

module _ (view : View) (old : List Voice) (count n : ℕ) (os : List Float) where
  -- i voices are added, and moved on
  pub record Mixing (o : List Float) (table : List Voice) (i : ℕ) : Type 0 where
    pub upto : i ≤ count
    pub few : count ≤ length old
    pub room : n * 2 ≤ length os
    pub same : length o ≡ length os
    pub places : length table ≡ length old
    pub so : table ≡ map (voice_by n) (take i old) ++ drop i old
    pub sum : o ≡ over (sum_from view (take i old)) 0 (n * 2) os

  pub mixing_start : count ≤ length old → n * 2 ≤ length os → Mixing os old 0
  unfolding sum_from
  mixing_start f r =
      record { upto = omega arith; few = f; room = r; same = refl; places = refl; so = refl; sum = sym (over_idle (sum_from view []) (λ k x. refl) (n * 2) os) }

  module _ {o : List Float} {table : List Voice} {i : ℕ} (m : Mixing o table i) where
    moved : length (map (voice_by n) (take i old)) ≡ i
    moved = length-map (take i old) (voice_by n) ∙ length-take-le i old (omega (arith, m.upto, m.few))

    -- a voice from i on is as it came
    pub mixing_its : (j : ℕ) (d : Voice) → i ≤ j → get_or table j d ≡ get_or old j d
    mixing_its j d le =
        let xs : List Voice = map (voice_by n) (take i old) in
        let a : length xs + (j - i) ≡ j = omega (arith, moved) in
        let b : i + (j - i) ≡ j = omega arith in
        rw m.so (ap (λ k. get_or (xs ++ drop i old) k d) (sym a) ∙ get_or-append-add xs (drop i old) (j - i) d ∙ get_or-drop i old (j - i) d ∙ ap (λ k. get_or old k d) b)

    -- the voice at i is added and moved on
    pub mixing_turn : (x : Recording) (v d : Voice) → i < count → v ≡ get_or old i d → x ≡ view v.handle → Mixing (over (voice_adds x v) 0 (n * 2) o) (set table i (voice_by n v)) (i + 1)
    mixing_turn x v d lt ev ex =
        let below : i < length old = omega (arith, m.few) in
        let t : take (suc i) old ≡ take i old ++ (v ∷ []) = rw ev (take-suc old i d below) in
        let s : set table i (voice_by n v) ≡ map (voice_by n) (take i old) ++ (voice_by n v ∷ drop (suc i) old) =
        rw (m.so, drop-cons old i d below) (set_at (map (voice_by n) (take i old)) (get_or old i d) (drop (suc i) old) (voice_by n v) i moved) in
        let e : map (voice_by n) (take (suc i) old) ++ drop (suc i) old ≡ map (voice_by n) (take i old) ++ (voice_by n v ∷ drop (suc i) old) =
        rw (t, map-append (voice_by n) (take i old) (v ∷ [])) (append_snoc (map (voice_by n) (take i old)) (voice_by n v) (drop (suc i) old)) in
        let a : over (voice_adds x v) 0 (n * 2) o ≡ over (sum_from view (take (suc i) old)) 0 (n * 2) os =
        ap (over (voice_adds x v) 0 (n * 2)) m.sum
        ∙ over_again (voice_adds x v) (sum_from view (take i old)) (n * 2) os m.room
        ∙ over_same _ (sum_from view (take (suc i) old)) 0 os (n * 2)
        (λ k b c y. ap (λ z. voice_adds z v k (sum_from view (take i old) k y)) ex ∙ sym (ap (λ vs. sum_from view vs k y) t ∙ sum_snoc view (take i old) v k y)) in
        record {
          upto = omega arith;
          few = m.few;
          room = m.room;
          same = length_over (voice_adds x v) 0 (n * 2) o ∙ m.same;
          places = length-set table i (voice_by n v) ∙ m.places;
          so = rw add-one (s ∙ sym e);
          sum = rw add-one a;
        }

  -- all are
  module _ {o : List Float} {table : List Voice} {i : ℕ} (m : Mixing o table i) (le : count ≤ i) where
    all : i ≡ count
    all = omega (arith, m.upto)

    pub mixing_table : table ≡ map (voice_by n) (take count old) ++ drop count old
    mixing_table = rw (← all) m.so

    -- over what was cleared
    pub mixing_sums : (first : List Float) → os ≡ over cleared 0 (n * 2) first → o ≡ over (sums view (take count old)) 0 (n * 2) first
    mixing_sums first e =
        let l : n * 2 ≤ length first = omega (arith, m.room, ap length e, length_over cleared 0 (n * 2) first) in
        (rw all at m.sum) ∙ ap (over (sum_from view (take count old)) 0 (n * 2)) e ∙ over_again (sum_from view (take count old)) cleared (n * 2) first l

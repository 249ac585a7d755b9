-- The loop of frames over sums: what it keeps, what a turn does with that, and what it ends with. Assumes nothing.
use mathlib.Core.Path.{◌≡◌, refl, sym, ap, ap₂, ◌∙◌}
use mathlib.Core.List.{List, [], ◌++◌, append-nil}
use Prim.Native.Nat.{ℕ, zero, suc, ◌+◌, ◌-◌, ◌*◌, ◌≤◌}
use native.Mathlib.Omega.{arith}
use lib.ListN.{length, get_or, take, drop, length-drop, take-append-drop, drop_of_length-le}
use lib.Seq.{take_all, take-set-le, drop-set-add, get_or-drop}
use lib.Ieee.{Float, nan}
use Rattle.bank.specs.declared.Clip.{Clip}
use Rattle.bank.specs.Recording.{Recording, recording_of}
use Rattle.stage.specs.declared.Settings.{Settings}
use Rattle.sweeps.specs.Over.{over}
use Rattle.sweeps.proofs.Over.{length_over, over_split, over_same}
use Rattle.runs.specs.declared.Core.{Core}
use Rattle.runs.specs.declared.Gone.{Gone}
use Rattle.runs.specs.Core.{core_after, passes_in, core_adds, CoreReady}
use Rattle.runs.proofs.Cores.{after_add, passes_add, passes_few, adds_later, after_ready}

-- ---- a sweep from a place on is a sweep over what stands from there on

module _ (f : ℕ → Float → Float) (a : ℕ) (os : List Float) where
  over_take : (n : ℕ) → take a (over f a n os) ≡ take a os
  unfolding over
  over_take zero = refl
  over_take (suc n) = take-set-le a (over f a n os) (a + n) _ (omega arith) ∙ over_take n

  over_drop : (n : ℕ) → drop a (over f a n os) ≡ over (λ k. f (a + k)) 0 n (drop a os)
  unfolding over
  over_drop zero = refl
  over_drop (suc n) =
      let e : 0 + n ≡ n = omega arith in
      rw (drop-set-add a (over f a n os) n (f (a + n) (get_or os (a + n) nan)), over_drop n, e, get_or-drop a os n nan) refl

  over_part : (n : ℕ) → over f a n os ≡ take a os ++ over (λ k. f (a + k)) 0 n (drop a os)
  over_part n = sym (take-append-drop a (over f a n os)) ∙ rw (over_take n, over_drop n) refl

-- ---- the loop

module _ (x : Settings) (pool : List Float) (song clip : Clip) (c₀ : Core) (n : ℕ) (os : List Float) where
  abbrev s : Recording
  s = recording_of pool song

  abbrev t : Recording
  t = recording_of pool clip

  -- i of n frames are made with p passes, and the core stands at c
  pub record Onward (o : List Float) (c : Core) (p i : ℕ) : Type 0 where
    pub upto : i ≤ n
    pub room : n * 2 ≤ length os
    pub same : length o ≡ length os
    pub first : CoreReady (length pool) song clip c₀
    pub core : c ≡ core_after x s t i c₀
    pub passed : p ≡ passes_in x s t i c₀
    pub so : o ≡ over (core_adds x s t c₀) 0 (i * 2) os

  pub onward_start : CoreReady (length pool) song clip c₀ → n * 2 ≤ length os → Onward os c₀ 0 0
  unfolding core_after passes_in over
  onward_start h r = record { upto = omega arith; room = r; same = refl; first = h; core = refl; passed = refl; so = refl }

  module _ {o : List Float} {c : Core} {p i : ℕ} (h : Onward o c p i) where
    pub onward_ready : CoreReady (length pool) song clip c
    onward_ready = rw h.core (after_ready x pool song clip c₀ i h.first)

    -- with at most two passes a frame the passes stay below the output's places
    pub onward_few : (j : ℕ) → i + j ≤ n → (r : ℕ) → r ≡ passes_in x s t j c → p + r ≤ length os
    onward_few j le r er = rw (h.passed, er) (omega (arith, passes_few x s t i c₀, passes_few x s t j c, h.room))

    -- j frames more, over the later part
    pub onward_turn : (j : ℕ) → i + j ≤ n → (d : Core) → d ≡ core_after x s t j c → (r : ℕ) → r ≡ passes_in x s t j c → (ys : List Float) → ys ≡ over (core_adds x s t c) 0 (j * 2) (take (length o - i * 2) (drop (i * 2) o))
        → Onward (take (i * 2) o ++ (ys ++ drop (length o - i * 2) (drop (i * 2) o))) d (p + r) (i + j)
    onward_turn j le d ed r er ys ey =
        let f : ℕ → Float → Float = core_adds x s t c₀ in
        let l : length (drop (i * 2) o) ≡ length o - i * 2 = length-drop (i * 2) o in
        let w : take (length o - i * 2) (drop (i * 2) o) ≡ drop (i * 2) o = take_all (length o - i * 2) (drop (i * 2) o) (omega arith) in
        let q : drop (length o - i * 2) (drop (i * 2) o) ≡ [] = drop_of_length-le (drop (i * 2) o) {i = length o - i * 2} (omega arith) in
        let two : (i + j) * 2 ≡ i * 2 + j * 2 = omega arith in
        let y : ys ≡ over (λ k. f (i * 2 + k)) 0 (j * 2) (drop (i * 2) o) =
        ey ∙ ap (over (core_adds x s t c) 0 (j * 2)) w
        ∙ over_same (core_adds x s t c) (λ k. f (i * 2 + k)) 0 (drop (i * 2) o) (j * 2) (λ k a b z. ap (λ u. core_adds x s t u k z) h.core ∙ sym (adds_later x s t i c₀ k z)) in
        let e : take (i * 2) o ++ (ys ++ drop (length o - i * 2) (drop (i * 2) o)) ≡ over f 0 ((i + j) * 2) os =
        rw (q, append-nil, y) (sym (over_part f (i * 2) o (j * 2))) ∙ ap (over f (i * 2) (j * 2)) h.so ∙ over_split f 0 (i * 2) (i * 2) (omega arith) os (j * 2) ∙ ap (λ k. over f 0 k os) (sym two) in
        record {
          upto = le;
          room = h.room;
          same = ap length e ∙ length_over f 0 ((i + j) * 2) os;
          first = h.first;
          core = ed ∙ ap (core_after x s t j) h.core ∙ sym (after_add x s t i j c₀);
          passed = ap₂ ◌+◌ h.passed (er ∙ ap (passes_in x s t j) h.core) ∙ sym (passes_add x s t i j c₀);
          so = e;
        }

    pub onward_end : n ≤ i
        → (◌≡◌ {A = Gone} (record { core = c; frames = n; passes = p }) (record { core = core_after x s t n c₀; frames = n; passes = passes_in x s t n c₀ })) × (o ≡ over (core_adds x s t c₀) 0 (n * 2) os)
    onward_end le =
        let e : i ≡ n = omega (arith, h.upto) in
        (rw (h.core, h.passed, e) refl, rw (← e) h.so)

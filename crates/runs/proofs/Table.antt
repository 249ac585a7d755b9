-- The table's voices in a run: each can sound for all its frames. Assumes nothing.
use mathlib.Core.Path.{◌≡◌, refl, sym, ap, ◌∙◌, subst}
use mathlib.Core.List.{List}
use Prim.Native.Nat.{ℕ, ◌+◌, ◌≤◌, ◌<◌}
use native.Mathlib.Omega.{arith}
use lib.ListN.{length, get_or, set}
use lib.Ieee.{Float}
use Rattle.bank.specs.declared.Clip.{Clip}
use Rattle.bank.specs.declared.Bank.{Bank}
use Rattle.bank.specs.Slots.{blank, clip_of}
use Rattle.bank.specs.Recording.{recording_of, view_of}
use Rattle.bank.proofs.Places.{get_d_any}
use Rattle.oneshot.specs.declared.Voice.{Voice}
use Rattle.oneshot.specs.declared.Voices.{Voices}
use Rattle.oneshot.specs.Mix.{voice_at, blank_voice}
use Rattle.oneshot.specs.Sounding.{Sounds, Each, Ready}
use Rattle.runs.specs.Voices.{voice_by, Lasts, LastsIn, voice_on}
use Rattle.runs.proofs.Sums.{Mixing, mixing_its, mixing_turn}

-- a voice can sound n frames of the clip in its slot, and has more
pub record Able (pool : List Float) (bank : Bank) (n : ℕ) (p : Clip) (v : Voice) : Type 0 where
  pub slot : v.handle.slot < 32
  pub lasts : LastsIn (length pool) n v (get_or bank.clips v.handle.slot p)
  pub same : recording_of pool (get_or bank.clips v.handle.slot p) ≡ view_of pool bank v.handle

module _ (pool : List Float) (bank : Bank) (clips : length bank.clips ≡ 32) (n : ℕ) (p : Clip) where
  able : (v : Voice) → Sounds (length pool) bank v → Lasts (view_of pool bank) n v → Able pool bank n p v
  unfolding view_of
  able v s l =
      let e : clip_of bank v.handle ≡ get_or bank.clips v.handle.slot p = get_d_any bank.clips v.handle.slot blank p (omega (arith, s.slot)) in
      record { slot = s.slot; lasts = (rw e at s.inside, rw e at l); same = ap (recording_of pool) (sym e) }

  module _ (t : Voices) (r : Ready (length pool) bank t) (e : Each (Lasts (view_of pool bank) n) t) (os : List Float)
      {o : List Float} {table : List Voice} {i : ℕ} (m : Mixing (view_of pool bank) t.table t.count n os o table i) (d : Voice) where
    its : (j : ℕ) → i ≤ j → get_or table j d ≡ get_or t.table j d
    its j le = mixing_its (view_of pool bank) t.table t.count n os m j d le

    -- a voice from i on can
    pub able_its : (j : ℕ) → i ≤ j → j < t.count → Able pool bank n p (get_or table j d)
    able_its j le lt =
        let q : voice_at t j ≡ get_or table j d = get_d_any t.table j blank_voice d (omega (arith, m.few)) ∙ sym (its j le) in
        subst (Able pool bank n p) q (able (voice_at t j) (r.each j lt) (e j lt))

    -- voice j is added and moved on, once those before it are
    pub able_turn : {o' : List Float} {table' : List Voice} (j k : ℕ) → k ≡ j + 1 → i ≤ j → j < t.count → Mixing (view_of pool bank) t.table t.count n os o' table' j
        → Mixing (view_of pool bank) t.table t.count n os (voice_on pool (get_or bank.clips (get_or table j d).handle.slot p) n (get_or table j d) o') (set table' j (voice_by n (get_or table j d))) k
    able_turn j k q le lt m' = rw q (mixing_turn (view_of pool bank) t.table t.count n os m' _ (get_or table j d) d lt (its j le) (able_its j le lt).same)

    -- so four from i on
    pub able_four : i + 4 ≤ t.count
        → let v : ℕ → Voice = λ j. get_or table j d in
        let on : ℕ → List Float → List Float = λ j. voice_on pool (get_or bank.clips (v j).handle.slot p) n (v j) in
        let by : ℕ → List Voice → List Voice = λ j l. set l j (voice_by n (v j)) in
        Mixing (view_of pool bank) t.table t.count n os (on (i + 3) (on (i + 2) (on (i + 1) (on i o)))) (by (i + 3) (by (i + 2) (by (i + 1) (by i table)))) (i + 4)
    able_four le =
        let one = able_turn i (i + 1) refl (omega arith) (omega arith) m in
        let two = able_turn (i + 1) (i + 2) (omega arith) (omega arith) (omega arith) one in
        let three = able_turn (i + 2) (i + 3) (omega arith) (omega arith) (omega arith) two in
        able_turn (i + 3) (i + 4) (omega arith) (omega arith) (omega arith) three

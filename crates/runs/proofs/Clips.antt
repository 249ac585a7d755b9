-- The two clips that a run takes out of the bank: the song's, and the tail's. Assumes nothing.
use mathlib.Core.Path.{◌≡◌, ap}
use mathlib.Core.List.{List}
use Prim.Native.Nat.{◌<◌}
use native.Mathlib.Omega.{arith}
use lib.ListN.{length, get_or}
use lib.Ieee.{Float}
use Rattle.std.specs.Prelude.{Option, Some, None}
use Rattle.counts.specs.declared.Handle.{Handle}
use Rattle.bank.specs.declared.Clip.{Clip}
use Rattle.bank.specs.declared.Bank.{Bank}
use Rattle.bank.specs.Slots.{blank, clip_of}
use Rattle.bank.specs.Recording.{recording_of, view_of}
use Rattle.bank.proofs.Places.{get_d_any}
use Rattle.oneshot.specs.Sounding.{LiesIn}
use Rattle.stage.specs.declared.Tail.{Tail}
use Rattle.stage.specs.Ready.{Fades}
use Rattle.runs.specs.Run.{slot_of}
use Rattle.runs.proofs.Frames.{Tails}

module _ (pool : List Float) (bank : Bank) (clips : length bank.clips ≡ 32) (p : Clip) where
  -- what stands in a slot is the clip of a handle there
  pub clip_at_law : (h : Handle) → h.slot < 32 → clip_of bank h ≡ get_or bank.clips h.slot p
  clip_at_law h l = get_d_any bank.clips h.slot blank p (omega arith)

  module _ (h : Handle) (l : h.slot < 32) where
    pub tail_slot : (t : Option Tail) → Fades (length pool) bank t → slot_of t h < 32
    tail_slot None f = l
    tail_slot (Some t) f = f.0

    -- it lies in the pool, as the song's does
    pub tail_lies : (t : Option Tail) → Fades (length pool) bank t → LiesIn (length pool) (clip_of bank h) → LiesIn (length pool) (get_or bank.clips (slot_of t h) p)
    tail_lies None f i = rw (← clip_at_law h l) i
    tail_lies (Some t) f i = rw (← clip_at_law t.song f.0) f.1

    -- the tail sounds as it
    pub tail_sounds : (t : Option Tail) → Fades (length pool) bank t → Tails (view_of pool bank) (recording_of pool (get_or bank.clips (slot_of t h) p)) t
    unfolding view_of
    tail_sounds None f = tt
    tail_sounds (Some t) f = ap (recording_of pool) (clip_at_law t.song f.0)

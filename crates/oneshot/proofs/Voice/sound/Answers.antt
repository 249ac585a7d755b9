-- `oneshot::Voice::sound` meets its contract. Assumes nothing.
use native.Mathlib.Omega.{arith}
use mathlib.Core.Path.{◌≡◌}
use lib.ListN.{length, get_or}
use Rattle.bank.specs.declared.Kind.{Kind}
use Prim.Native.Nat.{◌<◌}
use Rattle.counts.specs.declared.Handle.{Handle}
use Rattle.bank.specs.declared.Bank.{Bank}
use Rattle.bank.specs.declared.Clip.{Clip}
use Rattle.bank.specs.Slots.{blank, clip_of}
use Rattle.bank.specs.Recording.{view_of}
use Rattle.oneshot.specs.Voice.{voice_of}
use Rattle.bank.proofs.Places.{get_d_any}
use Rattle.oneshot.proofs.Voice.sound.Goals as goal

abbrev past : Clip
past = record { serial = 0; kind = Kind.Song (record { 0 = 0 }); start = 0; frames = 0; rate = 0 }

clip : (b : Bank) (h : Handle) → length b.clips ≡ 32 → h.slot < 32 → get_or b.clips h.slot past ≡ clip_of b h
clip b h l p = get_d_any b.clips h.slot past blank (omega arith)

pub returns : goal.returns
unfolding voice_of view_of
returns c =
    rw (c.plus-summed.ensures, c.times.ensures, c.tick-ticked.ensures, c.pair_at-frame.ensures, clip c.args.bank c.args.self.handle (omega arith) c.requires.slot)

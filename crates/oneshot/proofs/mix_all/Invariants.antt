-- `oneshot::mix_all` walks over its voices (`proofs/Walk.antt`).
use lib.ListN.{length, take}
use Rattle.bank.specs.Recording.{view_of}
use Rattle.oneshot.specs.Pair.{silence}
use Rattle.oneshot.specs.Mix.{mix_of}
use Rattle.oneshot.specs.Sounding.{Sounds}
use Rattle.oneshot.proofs.Walk.{Going}
use Rattle.oneshot.proofs.mix_all.Given as goal

abbrev pub invariant-loop-i : goal.invariant-loop-i
invariant-loop-i l = Going (view_of l.pool l.bank) (Sounds (length l.pool) l.bank) l.initial.voices (mix_of (view_of l.pool l.bank) (take (length l.initial.voices) l.initial.voices) silence) (length l.initial.voices) l.voices l.sum l.kept l.i

-- `runs::voices_ahead` meets its contract. Assumes nothing.
use native.Mathlib.Omega.{arith}
use lib.Ieee.{nan}
use Rattle.bank.specs.declared.Kind.{Kind}
use Rattle.bank.specs.declared.Clip.{Clip}
use Rattle.oneshot.specs.declared.Voice.{Voice}
use Rattle.runs.proofs.Looking.{looking_turn}
use Rattle.runs.proofs.voices_ahead.Goals as goal

abbrev past_voice : Voice
past_voice = record { handle = record { slot = 0; serial = 0 }; head = record { 0 = 0 }; gain = record { value = nan; target = nan; step = nan; remaining = 0 } }

abbrev past_clip : Clip
past_clip = record { serial = 0; kind = Kind.Song (record { 0 = 0 }); start = 0; frames = 0; rate = 0 }

pub loop-i-preserved : goal.loop-i-preserved
loop-i-preserved c =
    looking_turn _ _ _ _ c.loop-i.invariant (omega (arith, c.requires.few)) (omega arith) c.requires c.loop-i-test.true past_voice past_clip _ _ c.voice_ahead-left.ensures (omega (arith, c.min-least.ensures)) (omega (arith, c.min-least.ensures))

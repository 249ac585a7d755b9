-- `runs::mix_on` meets its contract. Assumes nothing.
use mathlib.Core.Path.{refl, ap}
use Prim.Native.Nat.{◌+◌, ◌*◌}
use lib.Ieee.{nan}
use Rattle.bank.specs.declared.Kind.{Kind}
use Rattle.bank.specs.declared.Clip.{Clip}
use Rattle.oneshot.specs.declared.Voice.{Voice}
use Rattle.sweeps.specs.Adds.{cleared}
use Rattle.sweeps.proofs.Over.{length_over}
use Rattle.runs.proofs.Table.{able_its, able_turn, able_four}
use native.Mathlib.Omega.{arith}
use Rattle.runs.proofs.Sums.{mixing_start, mixing_table, mixing_sums}
use Rattle.runs.proofs.mix_on.Goals as goal

abbrev past_voice : Voice
past_voice = record { handle = record { slot = 0; serial = 0 }; head = record { 0 = 0 }; gain = record { value = nan; target = nan; step = nan; remaining = 0 } }

abbrev past_clip : Clip
past_clip = record { serial = 0; kind = Kind.Song (record { 0 = 0 }); start = 0; frames = 0; rate = 0 }

pub loop-i-init : goal.loop-i-init
loop-i-init c =
    mixing_start _ _ _ _ _ (omega (arith, c.requires.0.few)) (rw c.clear.ensures (omega (arith, c.requires.2, length_over cleared 0 (c.args.frames * 2) c.args.out.now)))

pub bounds-bank-a : goal.bounds-bank-a
bounds-bank-a c = (able_its c.args.pool.now c.args.bank (omega arith) c.args.frames past_clip c.args.voices c.requires.0 c.requires.1 _ c.loop-i.invariant past_voice c.loop-i.i (omega arith) (omega arith)).slot

pub bounds-bank-b : goal.bounds-bank-b
bounds-bank-b c = (able_its c.args.pool.now c.args.bank (omega arith) c.args.frames past_clip c.args.voices c.requires.0 c.requires.1 _ c.loop-i.invariant past_voice (c.loop-i.i + 1) (omega arith) (omega arith)).slot

pub bounds-bank-c : goal.bounds-bank-c
bounds-bank-c c = (able_its c.args.pool.now c.args.bank (omega arith) c.args.frames past_clip c.args.voices c.requires.0 c.requires.1 _ c.loop-i.invariant past_voice (c.loop-i.i + 2) (omega arith) (omega arith)).slot

pub bounds-bank-d : goal.bounds-bank-d
bounds-bank-d c = (able_its c.args.pool.now c.args.bank (omega arith) c.args.frames past_clip c.args.voices c.requires.0 c.requires.1 _ c.loop-i.invariant past_voice (c.loop-i.i + 3) (omega arith) (omega arith)).slot

pub four_on-w-requires : goal.four_on-w-requires
four_on-w-requires c =
    let i = c.loop-i.i in (
      (able_its c.args.pool.now c.args.bank (omega arith) c.args.frames past_clip c.args.voices c.requires.0 c.requires.1 _ c.loop-i.invariant past_voice i (omega arith) (omega arith)).lasts,
      (able_its c.args.pool.now c.args.bank (omega arith) c.args.frames past_clip c.args.voices c.requires.0 c.requires.1 _ c.loop-i.invariant past_voice (i + 1) (omega arith) (omega arith)).lasts,
      (able_its c.args.pool.now c.args.bank (omega arith) c.args.frames past_clip c.args.voices c.requires.0 c.requires.1 _ c.loop-i.invariant past_voice (i + 2) (omega arith) (omega arith)).lasts,
      (able_its c.args.pool.now c.args.bank (omega arith) c.args.frames past_clip c.args.voices c.requires.0 c.requires.1 _ c.loop-i.invariant past_voice (i + 3) (omega arith) (omega arith)).lasts,
      omega (arith, c.loop-i.invariant),
    )

pub loop-i-preserved-then-count-i-ge4 : goal.loop-i-preserved-then-count-i-ge4
loop-i-preserved-then-count-i-ge4 c =
    rw (c.four_on-w.ensures.0, c.four_on-w.ensures.1) (able_four c.args.pool.now c.args.bank (omega arith) c.args.frames past_clip c.args.voices c.requires.0 c.requires.1 _ c.loop-i.invariant past_voice (omega arith))

pub bounds-bank-v : goal.bounds-bank-v
bounds-bank-v c = (able_its c.args.pool.now c.args.bank (omega arith) c.args.frames past_clip c.args.voices c.requires.0 c.requires.1 _ c.loop-i.invariant past_voice _ (omega arith) (omega arith)).slot

pub voice_on-requires : goal.voice_on-requires
voice_on-requires c = ((able_its c.args.pool.now c.args.bank (omega arith) c.args.frames past_clip c.args.voices c.requires.0 c.requires.1 _ c.loop-i.invariant past_voice _ (omega arith) (omega arith)).lasts, omega (arith, c.loop-i.invariant))

pub loop-i-preserved : goal.loop-i-preserved
loop-i-preserved c =
    rw (c.voice_on.ensures.0, c.voice_on.ensures.1) (able_turn c.args.pool.now c.args.bank (omega arith) c.args.frames past_clip c.args.voices c.requires.0 c.requires.1 _ c.loop-i.invariant past_voice _ _ refl (omega arith) c.loop-i-test.true c.loop-i.invariant)

pub returns : goal.returns
returns c =
    (ap (λ t. record { table = t; count = c.args.voices.count }) (mixing_table _ _ _ _ _ c.loop-i.invariant c.loop-i-test.false), mixing_sums _ _ _ _ _ c.loop-i.invariant c.loop-i-test.false c.args.out.now c.clear.ensures)

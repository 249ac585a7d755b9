-- Over two pools that agree on what a block reads, a block makes the same and leaves the same. Assumes nothing.
use mathlib.Core.Path.{ap}
use mathlib.Core.List.{List}
use Prim.Native.Nat.{ℕ, ◌+◌, ◌<◌}
use lib.Ieee.{Float}
use Rattle.std.specs.Prelude.{Option, Some, None}
use Rattle.laws.proofs.Lists.{each_map}
use Rattle.counts.specs.declared.Claim.{Claim}
use Rattle.timeline.specs.declared.QueueRecord.{QueueRecord}
use Rattle.timeline.specs.Command.{claim_of}
use Rattle.timeline.specs.Queue.{frame}
use Rattle.bank.specs.Sample.{frames_of}
use Rattle.bank.specs.Recording.{view_of}
use Rattle.stage.specs.declared.Tail.{Tail}
use Rattle.session.specs.declared.Answered.{Answered}
use Rattle.session.specs.Answer.{says}
use Rattle.block.specs.Block.{reported}
use Rattle.block.proofs.Pools.{SameTail, SameClaim, block_agrees_on}
use Rattle.submission.specs.Order.{waiting}
use Rattle.promises.specs.Calls.{State, code}
use Rattle.promises.specs.Own.{SameForTail, SameForClaim, NothingElse}

module _ (x : State) (pool : List Float) where
  tail_same : (t : Option Tail) → SameForTail x pool t → SameTail (view_of x.pool x.session.bank) (view_of pool x.session.bank) t
  tail_same None e = tt
  tail_same (Some t) e = e

  claim_same : (y : Claim) → SameForClaim x pool y → SameClaim (view_of x.pool x.session.bank) (view_of pool x.session.bank) y
  claim_same Claim.Nothing e = tt
  claim_same (Claim.Song h) e = e
  claim_same (Claim.Stinger h) e = e

pub nothing_else : NothingElse
nothing_else x pool out r =
    let e =
    block_agrees_on x.session x.queue x.capture x.pool pool out r.size
    (record {
      held = record { song = r.song; tail = tail_same x pool x.session.stage.sound.fade.tail r.tail; voices = r.voices };
      named =
          each_map (λ (y : QueueRecord). frame y < x.session.stage.clock.0 + frames_of out → SameForClaim x pool (claim_of y.command))
          (λ (y : QueueRecord). frame y < x.session.stage.clock.0 + frames_of out → SameClaim (view_of x.pool x.session.bank) (view_of pool x.session.bank) (claim_of y.command))
          (λ y f l. claim_same x pool (claim_of y.command) (f l)) (waiting x.session x.queue) r.named;
    }) in
    (ap (λ (z : Answered ℕ × List Float). z.1) e, ap (λ (z : Answered ℕ × List Float). reported z.0.answer) e, ap (λ (z : Answered ℕ × List Float). code (says z.0.answer)) e, ap (λ (z : Answered ℕ × List Float). z.0.session) e)

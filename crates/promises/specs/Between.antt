-- 'Rooms stream in while the score plays.' A load or a retirement before a block and after it, each call over the stores that the call before left, whatever
-- the mode. Definitions only.
use Rattle.std.specs.Prelude.{◌≡◌, ◌≢◌, List, ℕ, Float}
use Rattle.counts.specs.declared.Handle.{Handle}
use Rattle.bank.specs.declared.Kind.{Kind}
use Rattle.session.specs.Answer.{Says, says}
use Rattle.block.specs.Block.{block_of}
use Rattle.clips.specs.Load.{load_of}
use Rattle.clips.specs.Retire.{retire_of}
use Rattle.promises.specs.Calls.{State, Call, load, retire, block, refusal, after, out_of}
use Rattle.promises.specs.Kept.{Good}

-- what a block says: its passes, or the refusal's number
abbrev pub block_says : List Float → State → Says ℕ
block_says out x = says (block_of x.session x.queue x.capture x.pool out).0.answer

-- what a load says: its handle, or the refusal's number
abbrev pub load_says : List Float → Kind → ℕ → State → Says Handle
load_says samples kind rate x = says (load_of x.session x.queue x.capture x.pool samples kind rate).0.answer

-- and a retirement: that it is done, or the refusal's number
abbrev pub retire_says : Handle → State → Says (Unit {0})
retire_says h x = says (retire_of x.session x.queue x.capture h).answer

-- a call before a block and after it
pub record EitherPlace {A : Type 0} (call : Call) (call_says : State → Says A) (out : List Float) (x : State) : Type 0 where
  -- the call says the same in either place,
  pub called : call_says (after (block out) x) ≡ call_says x
  -- and so does the block, which may be refused;
  pub played : block_says out (after call x) ≡ block_says out x
  -- its samples are the same,
  pub samples : out_of (after call x) out ≡ out_of x out
  -- and so are the session and the pool that both leave, with queue and capture
  pub left : after (block out) (after call x) ≡ after call (after (block out) x)

-- any load: it is accepted after a block exactly if before it, with the same handle
abbrev pub LoadBetween : Type 0
LoadBetween = (samples : List Float) (kind : Kind) (rate : ℕ) (out : List Float) (x : State) → Good x → EitherPlace (load samples kind rate) (load_says samples kind rate) out x

-- a retirement accepted before the block: it is then accepted after it too
abbrev pub RetireBetween : Type 0
RetireBetween = (h : Handle) (out : List Float) (x : State) → Good x → refusal (retire h) x ≡ 0 → EitherPlace (retire h) (retire_says h) out x

-- one that is accepted after the block alone is not the same in either place,
abbrev pub RetireParts : Type 0
RetireParts =
    (h : Handle) (out : List Float) (x : State) → refusal (retire h) x ≢ 0 → refusal (retire h) (after (block out) x) ≡ 0
    → after (block out) (after (retire h) x) ≢ after (retire h) (after (block out) x)

-- and two loads are not in either order: the first takes the lower slot, whichever it is
abbrev pub LoadsPart : Type 0
LoadsPart =
    (a b : List Float) (kind_a kind_b : Kind) (rate_a rate_b : ℕ) (x : State) → Good x → refusal (load a kind_a rate_a) x ≡ 0 → refusal (load b kind_b rate_b) x ≡ 0 → a ≢ b
    → after (load b kind_b rate_b) (after (load a kind_a rate_a) x) ≢ after (load a kind_a rate_a) (after (load b kind_b rate_b) x)

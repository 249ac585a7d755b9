-- 'Samples leaving the ring must be the session's own in order, with silence only in between. Demand 3's cut then holds for what is pumped.' Definitions only.
use Rattle.std.specs.Prelude.{◌≡◌, true, ◌≢◌, List, [], ◌∷◌, ◌++◌, ℕ, ◌+◌, ◌-◌, ◌*◌, ◌%◌, length, take, replicate, Float, Result, Ok, Err}
use Rattle.ramp.specs.Number.{zero32}
use Rattle.block.specs.Block.{ran_of, block_done}
use Rattle.ring.specs.declared.Drained.{Drained}
use Rattle.ring.specs.Ring.{ring_ok, held_of, waiting, pushed}
use Rattle.session.specs.Answer.{says}
use Rattle.ring.specs.Drain.{drain_of}
use Rattle.pump.specs.Pump.{pumped_frames, pumped_passes, frames_made}
use Rattle.host.specs.Answers.{says_by}
use Rattle.host.specs.Calls.{drain_host}
use Rattle.promises.specs.Calls.{State, Feed, block, pump, code, refusal, after, out_of, report_of, pumping, feed_of}
use Rattle.promises.specs.Kept.{Good}
use Rattle.pump.specs.declared.Pushed.{Pushed}
use Rattle.session.specs.declared.Refusal.{Refusal}

-- a store of 3 to 65,536 samples, head and tail inside it
abbrev pub Inside : Feed → Type 0
Inside f = ring_ok (length f.store) f.ring ≡ true

-- what waits, in the order in which it will be heard
abbrev pub waits : Feed → List Float
waits f = waiting f.ring f.store

-- ---- a pump

-- the samples that it makes: those of a block of the frames that it answers
abbrev pub makes : State → Result Pushed Refusal → List Float
makes x (Ok m) = (block_done x.session (ran_of x.session x.queue x.pool m.frames)).1
makes x (Err k) = []

-- it is a block of the frames made: the same refusal, session and passes, and the samples are pushed from the tail on
pub record AsBlock (x : State) (f : Feed) (n : ℕ) (out : List Float) : Type 0 where
  pub number : refusal (pump f n) x ≡ refusal (block out) x
  pub state : after (pump f n) x ≡ after (block out) x
  pub passes : pumped_passes (pumping x f n).0.answer ≡ report_of x out
  pub samples : refusal (block out) x ≡ 0 → (feed_of x f n).store ≡ pushed (length f.store) f.store f.ring.tail (out_of x out)

abbrev pub PumpsBlock : Type 0
PumpsBlock = (x : State) (f : Feed) (n : ℕ) (out : List Float) → Inside f → length out ≡ frames_made (length f.store) f.ring n * 2 → AsBlock x f n out

-- asking for a frames and then for b, with no call between, is asking for a + b: same session, ring and store; frames and passes add up
pub record InTwo (x : State) (f : Feed) (a b : ℕ) : Type 0 where
  pub first : refusal (pump f a) x ≡ 0
  pub second : refusal (pump (feed_of x f a) b) (after (pump f a) x) ≡ 0
  pub state : after (pump (feed_of x f a) b) (after (pump f a) x) ≡ after (pump f (a + b)) x
  pub feed : feed_of (after (pump f a) x) (feed_of x f a) b ≡ feed_of x f (a + b)
  pub frames : pumped_frames (pumping x f a).0.answer + pumped_frames (pumping (after (pump f a) x) (feed_of x f a) b).0.answer ≡ pumped_frames (pumping x f (a + b)).0.answer
  pub passes : pumped_passes (pumping x f a).0.answer + pumped_passes (pumping (after (pump f a) x) (feed_of x f a) b).0.answer ≡ pumped_passes (pumping x f (a + b)).0.answer

abbrev pub PumpCut : Type 0
PumpCut = (x : State) (f : Feed) (a b : ℕ) → Good x → refusal (pump f (a + b)) x ≡ 0 → InTwo x f a b

-- ---- a drain

-- what it gives: answer and ring; block
abbrev pub draining : Feed → List Float → Drained × List Float
draining f out = drain_of f.ring f.store out

-- the frames that its answer tells; a refused one takes none
abbrev pub drained_frames : Result ℕ Refusal → ℕ
drained_frames (Ok n) = n
drained_frames (Err k) = 0

-- the ring after it, over the same store
abbrev pub drained_feed : Feed → List Float → Feed
drained_feed f out = record { ring = (draining f out).0.ring; store = f.store }

-- the samples that it takes: two of its block's first for each frame that it answers
abbrev pub takes : Feed → List Float → List Float
takes f out = take (drained_frames (draining f out).0.answer * 2) (draining f out).1

-- the rest of its block is silence
pub record OnlySilence (f : Feed) (out : List Float) : Type 0 where
  pub accepted : code (says (draining f out).0.answer) ≡ 0
  pub whole : length (takes f out) ≡ drained_frames (draining f out).0.answer * 2
  pub silence : (draining f out).1 ≡ takes f out ++ replicate (length out - drained_frames (draining f out).0.answer * 2) zero32

abbrev pub Silence : Type 0
Silence = (f : Feed) (out : List Float) → Inside f → OnlySilence f out

-- a refused one leaves ring and block as they were
abbrev pub DrainRefused : Type 0
DrainRefused = (f : Feed) (out : List Float) → code (says (draining f out).0.answer) ≢ 0 → (drained_feed f out ≡ f) × ((draining f out).1 ≡ out)

-- an exported one says, leaves and fills what it does
pub record HostDrain (f : Feed) (out : List Float) : Type 0 where
  pub answer : let o = (drain_host f.ring f.store out).0 in says_by o.refusal o.frames ≡ says (draining f out).0.answer
  pub ring : (drain_host f.ring f.store out).0.ring ≡ (draining f out).0.ring
  pub block : (drain_host f.ring f.store out).1 ≡ (draining f out).1

abbrev pub HostDrains : Type 0
HostDrains = (f : Feed) (out : List Float) → HostDrain f out

-- ---- turns

-- a pump of the frames asked for, of any session with any stores, or a drain into the callback's block
pub data Turn : Type 0 where
  pumped : State → ℕ → Turn
  drained : List Float → Turn

-- the ring and its store after a turn,
abbrev pub fed : Turn → Feed → Feed
fed (pumped x n) f = feed_of x f n
fed (drained out) f = drained_feed f out

-- what it made,
abbrev pub made_in : Turn → Feed → List Float
made_in (pumped x n) f = makes x (pumping x f n).0.answer
made_in (drained out) f = []

-- and what left the ring
abbrev pub left_in : Turn → Feed → List Float
left_in (pumped x n) f = []
left_in (drained out) f = takes f out

-- turns one after the other, each on what the one before it left
abbrev pub fed_by : List Turn → Feed → Feed
fed_by [] f = f
fed_by (t ∷ ts) f = fed_by ts (fed t f)

abbrev pub all_made : List Turn → Feed → List Float
all_made [] f = []
all_made (t ∷ ts) f = made_in t f ++ all_made ts (fed t f)

abbrev pub all_left : List Turn → Feed → List Float
all_left [] f = []
all_left (t ∷ ts) f = left_in t f ++ all_left ts (fed t f)

-- over any turns: what left the ring, and then what waits, is what waited, and then what was made
abbrev pub InOrder : Type 0
InOrder = (ts : List Turn) (f : Feed) → Inside f → Inside (fed_by ts f) × (all_left ts f ++ waits (fed_by ts f) ≡ waits f ++ all_made ts f)

-- and where whole frames waited, whole frames wait, so that a left sample stays a left one
abbrev pub WholeFrames : Type 0
WholeFrames = (ts : List Turn) (f : Feed) → Inside f → held_of (length f.store) f.ring % 2 ≡ 0
    → held_of (length (fed_by ts f).store) (fed_by ts f).ring % 2 ≡ 0

-- ---- one session, pumped in portions with no other call on it between

-- frames asked for, or a drain into the callback's block
pub data Portion : Type 0 where
  asked : ℕ → Portion
  played : List Float → Portion

-- the turns that portions are,
abbrev pub turns_of : List Portion → State → Feed → List Turn
turns_of [] x f = []
turns_of (asked n ∷ ps) x f = pumped x n ∷ turns_of ps (after (pump f n) x) (feed_of x f n)
turns_of (played out ∷ ps) x f = drained out ∷ turns_of ps x (drained_feed f out)

-- and what they leave of the session
abbrev pub portioned : List Portion → State → Feed → State
portioned [] x f = x
portioned (asked n ∷ ps) x f = portioned ps (after (pump f n) x) (feed_of x f n)
portioned (played out ∷ ps) x f = portioned ps x (drained_feed f out)

-- the frames made in all,
abbrev pub all_frames : List Turn → Feed → ℕ
all_frames [] f = 0
all_frames (pumped x n ∷ ts) f = pumped_frames (pumping x f n).0.answer + all_frames ts (feed_of x f n)
all_frames (drained out ∷ ts) f = all_frames ts (drained_feed f out)

-- and their passes
abbrev pub all_passes : List Turn → Feed → ℕ
all_passes [] f = 0
all_passes (pumped x n ∷ ts) f = pumped_passes (pumping x f n).0.answer + all_passes ts (feed_of x f n)
all_passes (drained out ∷ ts) f = all_passes ts (drained_feed f out)

-- they are one block of all their frames, whatever is drained between; a refused pump makes none and changes nothing
pub record AsOneBlock (ps : List Portion) (x : State) (f : Feed) (out : List Float) : Type 0 where
  pub accepted : refusal (block out) x ≡ 0
  pub samples : all_made (turns_of ps x f) f ≡ out_of x out
  pub passes : all_passes (turns_of ps x f) f ≡ report_of x out
  pub state : portioned ps x f ≡ after (block out) x

abbrev pub OneBlock : Type 0
OneBlock = (ps : List Portion) (x : State) (f : Feed) (out : List Float) → Good x → Inside f → length out ≡ all_frames (turns_of ps x f) f * 2
    → AsOneBlock ps x f out

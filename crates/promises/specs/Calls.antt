-- Every call on a session and its lent stores, as one step: what it says, and what it leaves. Definitions only.
use Rattle.std.specs.Prelude.{◌≡◌, true, List, [], ◌∷◌, ◌++◌, ℕ, Float}
use Rattle.counts.specs.declared.SongFrame.{SongFrame}
use Rattle.counts.specs.declared.Handle.{Handle}
use Rattle.timeline.specs.declared.Submission.{Submission}
use Rattle.timeline.specs.Command.{command_of, typed}
use Rattle.transport.specs.declared.At.{At}
use Rattle.bank.specs.declared.Kind.{Kind}
use Rattle.stage.specs.declared.Settings.{Settings}
use Rattle.session.specs.declared.Session.{Session}
use Rattle.session.specs.Answer.{Says, refused, gives, says}
use Rattle.block.specs.Block.{reported, block_of}
use Rattle.ring.specs.declared.SampleRing.{SampleRing}
use Rattle.pump.specs.declared.Pumped.{Pumped}
use Rattle.pump.specs.Pump.{says_pump, pump_of}
use Rattle.clips.specs.Open.{open_of}
use Rattle.clips.specs.Load.{load_of}
use Rattle.clips.specs.Retire.{retire_of}
use Rattle.submission.specs.Submit.{submit_of}
use Rattle.submission.specs.Transition.{transition_of}
use Rattle.submission.specs.Replay.{replay_of}
use Rattle.control.specs.declared.PerformanceSnapshot.{PerformanceSnapshot}
use Rattle.control.specs.Capture.{start_capture_of, stop_capture_of}
use Rattle.control.specs.Snapshot.{snapshot_of, apply_of}
use Rattle.control.specs.Metrics.{metrics_of}

-- a session with its stores as the call before left them
pub record State : Type 0 where
  pub session : Session
  pub queue : List ℕ
  pub capture : List ℕ
  pub pool : List Float

-- a state of its parts
abbrev pub state : Session → List ℕ → List ℕ → List Float → State
state s q c p = record { session = s; queue = q; capture = c; pool = p }

-- the stores as they were, with another session
abbrev pub with_session : State → Session → State
with_session x s = state s x.queue x.capture x.pool

-- a ring with its store, as the call before left them
pub record Feed : Type 0 where
  pub ring : SampleRing
  pub store : List Float

-- the calls on a session, with what each is given
pub data Call : Type 0 where
  load : List Float → Kind → ℕ → Call
  retire : Handle → Call
  submit : Submission → At → Call
  transition : SongFrame → At → Call
  block : List Float → Call
  pump : Feed → ℕ → Call
  start_capture : Call
  stop_capture : List ℕ → Call
  replay : List ℕ → Call
  snapshot : Call
  apply : PerformanceSnapshot → Call
  metrics : Call

-- the number of the refusal, 0 for none
abbrev pub code : {A : Type 0} → Says A → ℕ
code (refused k) = k
code (gives v) = 0

-- what a pump gives: answer, session and ring; store
abbrev pub pumping : State → Feed → ℕ → Pumped × List Float
pumping x f n = pump_of x.session x.queue x.capture x.pool f.ring f.store n

-- a call: the number of its refusal, and the state that it leaves
abbrev pub step : Call → State → ℕ × State
step (load samples kind rate) x =
    let o = load_of x.session x.queue x.capture x.pool samples kind rate in
    (code (says o.0.answer), state o.0.session x.queue x.capture o.1)
step (retire h) x =
    let o = retire_of x.session x.queue x.capture h in
    (code (says o.answer), with_session x o.session)
step (submit y at) x =
    let o = submit_of x.session x.queue x.capture y at in
    (code (says o.0.answer), state o.0.session o.1 o.2 x.pool)
step (transition f at) x =
    let o = transition_of x.session x.queue x.capture f at in
    (code (says o.0.answer), state o.0.session o.1 o.2 x.pool)
step (block out) x =
    let o = block_of x.session x.queue x.capture x.pool out in
    (code (says o.0.answer), with_session x o.0.session)
step (pump f n) x =
    let o = pumping x f n in
    (code (says_pump o.0.answer), with_session x o.0.session)
step start_capture x =
    let o = start_capture_of x.session x.queue x.capture in
    (code (says o.answer), with_session x o.session)
step (stop_capture list) x =
    let o = stop_capture_of x.session x.queue x.capture list in
    (code (says o.0.answer), with_session x o.0.session)
step (replay list) x =
    let o = replay_of x.session x.queue x.capture list in
    (code (says o.0.answer), state o.0.session o.1 x.capture x.pool)
step snapshot x =
    let o = snapshot_of x.session x.queue x.capture in
    (code (says o.answer), with_session x o.session)
step (apply y) x =
    let o = apply_of x.session x.queue x.capture y in
    (code (says o.answer), with_session x o.session)
step metrics x =
    let o = metrics_of x.session x.queue x.capture in
    (code (says o.answer), with_session x o.session)

-- the number of its refusal alone
abbrev pub refusal : Call → State → ℕ
refusal k x = (step k x).0

-- the state after it alone
abbrev pub after : Call → State → State
after k x = (step k x).1

-- what a block leaves in its output
abbrev pub out_of : State → List Float → List Float
out_of x out = (block_of x.session x.queue x.capture x.pool out).1

-- the passes that it reports; none where it is refused
abbrev pub report_of : State → List Float → ℕ
report_of x out = reported (block_of x.session x.queue x.capture x.pool out).0.answer

-- what is heard of a call: of a block its output, else nothing; what a pump makes waits in its ring
abbrev pub heard : Call → State → List Float
heard (load samples kind rate) x = []
heard (retire h) x = []
heard (submit y at) x = []
heard (transition f at) x = []
heard (block out) x = out_of x out
heard (pump f n) x = []
heard start_capture x = []
heard (stop_capture list) x = []
heard (replay list) x = []
heard snapshot x = []
heard (apply y) x = []
heard metrics x = []

-- the ring and its store after a pump
abbrev pub feed_of : State → Feed → ℕ → Feed
feed_of x f n = record { ring = (pumping x f n).0.ring; store = (pumping x f n).1 }

-- calls one after the other: what they leave
abbrev pub after_all : List Call → State → State
after_all [] x = x
after_all (k ∷ ks) x = after_all ks (after k x)

-- what is heard of them all, in order
abbrev pub heard_all : List Call → State → List Float
heard_all [] x = []
heard_all (k ∷ ks) x = heard k x ++ heard_all ks (after k x)

-- what blocks report, one after the other
abbrev pub reports : List (List Float) → State → List ℕ
reports [] x = []
reports (out ∷ outs) x = report_of x out ∷ reports outs (after (block out) x)

-- what opening is given
pub record Opening : Type 0 where
  pub settings : Settings
  pub queue : List ℕ
  pub capture : List ℕ
  pub pool : List Float
  pub samples : List Float
  pub rate : ℕ
  pub extent : SongFrame

-- the number of its refusal, and the state that it leaves
abbrev pub opened : Opening → ℕ × State
opened o =
    let r = open_of o.settings o.queue o.capture o.pool o.samples o.rate o.extent in
    (code (says r.0.answer), state r.0.session o.queue o.capture r.1)

-- in the definitions numbers have no width and floats no format: what a call is given is of its type
abbrev pub Given : Call → Type 0
Given (load samples kind rate) = Unit {0}
Given (retire h) = Unit {0}
Given (submit y at) = typed (command_of y) ≡ true
Given (transition f at) = Unit {0}
Given (block out) = Unit {0}
Given (pump f n) = Unit {0}
Given start_capture = Unit {0}
Given (stop_capture list) = Unit {0}
Given (replay list) = Unit {0}
Given snapshot = Unit {0}
Given (apply y) = Unit {0}
Given metrics = Unit {0}

-- a state that an opening and calls lead to, each over the stores as the call before left them
pub data Reached : State → Type 0 where
  at_opening : (o : Opening) → (opened o).0 ≡ 0 → Reached (opened o).1
  after_call : {x : State} (k : Call) → Given k → Reached x → Reached (after k x)

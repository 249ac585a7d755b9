-- The exported functions on a session as a host keeps it: a host's state stands for one that the calls reach, and what is promised of those holds for it.
-- Definitions only.
use Rattle.std.specs.Prelude.{◌≡◌, ◌≢◌, Bool, true, false, ◌&&◌, List, [], ℕ, Float}
use Rattle.counts.specs.declared.SongFrame.{SongFrame}
use Rattle.counts.specs.declared.Handle.{Handle}
use Rattle.session.specs.Answer.{says}
use Rattle.clips.specs.Open.{open_of}
use Rattle.clips.specs.Load.{load_of}
use Rattle.clips.specs.Retire.{retire_of}
use Rattle.submission.specs.Submit.{submit_of}
use Rattle.submission.specs.Transition.{transition_of}
use Rattle.submission.specs.Replay.{replay_of}
use Rattle.block.specs.Block.{block_of}
use Rattle.pump.specs.Pump.{says_pump}
use Rattle.control.specs.Capture.{start_capture_of, stop_capture_of}
use Rattle.control.specs.Snapshot as control
use Rattle.control.specs.Metrics.{metrics_of}
use Rattle.host.specs.declared.HostSession.{HostSession}
use Rattle.host.specs.declared.HostPumped.{HostPumped}
use Rattle.host.specs.declared.HostCommand.{HostCommand}
use Rattle.host.specs.declared.HostAt.{HostAt}
use Rattle.host.specs.declared.HostSnapshot.{HostSnapshot}
use Rattle.host.specs.Kept.{is_kind, kind_of, session_of}
use Rattle.host.specs.Arguments.{is_submission, submission_of, is_at, at_of, is_snapshot, snapshot_of}
use Rattle.host.specs.Answers.{says_by, turned}
use Rattle.host.specs.Calls.{open_host, load_host, retire_host, submit_host, transition_host, replay_host, block_host, pump_host, start_capture_host, stop_capture_host, snapshot_host, apply_host, metrics_host}
use Rattle.promises.specs.Calls as calls
use Rattle.promises.specs.Calls.{State, Feed, Call, state, pumping, feed_of, refusal, after, heard, Opening, opened, Given, Reached}

-- a host's session with its stores as the call before left them
pub record HostState : Type 0 where
  pub session : HostSession
  pub queue : List ℕ
  pub capture : List ℕ
  pub pool : List Float

-- a host's state of its parts
abbrev pub host_state : HostSession → List ℕ → List ℕ → List Float → HostState
host_state h q c p = record { session = h; queue = q; capture = c; pool = p }

-- the stores as they were, with another session
abbrev pub keeping : HostState → HostSession → HostState
keeping x h = host_state h x.queue x.capture x.pool

-- the state that it stands for
abbrev pub state_of : HostState → State
state_of x = state (session_of x.session) x.queue x.capture x.pool

-- the exported functions on a session, with what each is given
pub data HostCall : Type 0 where
  load : List Float → ℕ → SongFrame → ℕ → HostCall
  retire : Handle → HostCall
  submit : HostCommand → HostAt → HostCall
  transition : SongFrame → HostAt → HostCall
  block : List Float → HostCall
  pump : Feed → ℕ → HostCall
  start_capture : HostCall
  stop_capture : List ℕ → HostCall
  replay : List ℕ → HostCall
  snapshot : HostCall
  apply : HostSnapshot → HostCall
  metrics : HostCall

-- what an exported pump gives: answer, session and ring; store
abbrev pub host_pumping : HostState → Feed → ℕ → HostPumped × List Float
host_pumping x f n = pump_host x.session x.queue x.capture x.pool f.ring f.store n

-- the number that it answers, and the state that it leaves
abbrev pub host_step : HostCall → HostState → ℕ × HostState
host_step (load samples kind extent rate) x =
    let o = load_host x.session x.queue x.capture x.pool samples kind extent rate in
    (o.0.refusal, host_state o.0.session x.queue x.capture o.1)
host_step (retire h) x =
    let o = retire_host x.session x.queue x.capture h in
    (o.refusal, keeping x o.session)
host_step (submit y at) x =
    let o = submit_host x.session x.queue x.capture y at in
    (o.0.refusal, host_state o.0.session o.1 o.2 x.pool)
host_step (transition f at) x =
    let o = transition_host x.session x.queue x.capture f at in
    (o.0.refusal, host_state o.0.session o.1 o.2 x.pool)
host_step (block out) x =
    let o = block_host x.session x.queue x.capture x.pool out in
    (o.0.refusal, keeping x o.0.session)
host_step (pump f n) x =
    let o = host_pumping x f n in
    (o.0.refusal, keeping x o.0.session)
host_step start_capture x =
    let o = start_capture_host x.session x.queue x.capture in
    (o.refusal, keeping x o.session)
host_step (stop_capture list) x =
    let o = stop_capture_host x.session x.queue x.capture list in
    (o.0.refusal, keeping x o.0.session)
host_step (replay list) x =
    let o = replay_host x.session x.queue x.capture list in
    (o.0.refusal, host_state o.0.session o.1 x.capture x.pool)
host_step snapshot x =
    let o = snapshot_host x.session x.queue x.capture in
    (o.refusal, keeping x o.session)
host_step (apply y) x =
    let o = apply_host x.session x.queue x.capture y in
    (o.refusal, keeping x o.session)
host_step metrics x =
    let o = metrics_host x.session x.queue x.capture in
    (o.refusal, keeping x o.session)

-- the number alone
abbrev pub host_refusal : HostCall → HostState → ℕ
host_refusal k x = (host_step k x).0

-- the state after it alone
abbrev pub host_after : HostCall → HostState → HostState
host_after k x = (host_step k x).1

-- what a block leaves in its output
abbrev pub host_out : HostState → List Float → List Float
host_out x out = (block_host x.session x.queue x.capture x.pool out).1

-- the ring and its store after a pump
abbrev pub host_feed : HostState → Feed → ℕ → Feed
host_feed x f n = record { ring = (host_pumping x f n).0.ring; store = (host_pumping x f n).1 }

-- what a stop leaves in its list
abbrev pub host_list : HostState → List ℕ → List ℕ
host_list x list = (stop_capture_host x.session x.queue x.capture list).1

-- what is heard of it: of a block its output, else nothing
abbrev pub host_heard : HostCall → HostState → List Float
host_heard (load samples kind extent rate) x = []
host_heard (retire h) x = []
host_heard (submit y at) x = []
host_heard (transition f at) x = []
host_heard (block out) x = host_out x out
host_heard (pump f n) x = []
host_heard start_capture x = []
host_heard (stop_capture list) x = []
host_heard (replay list) x = []
host_heard snapshot x = []
host_heard (apply y) x = []
host_heard metrics x = []

-- opening: the number, and the state that it leaves
abbrev pub host_opened : Opening → ℕ × HostState
host_opened o =
    let r = open_host o.settings o.queue o.capture o.pool o.samples o.rate o.extent in
    (r.0.refusal, host_state r.0.session o.queue o.capture r.1)

-- whether what it is given names a case each
abbrev pub named : HostCall → Bool
named (load samples kind extent rate) = is_kind kind
named (retire h) = true
named (submit y at) = is_submission y && is_at at
named (transition f at) = is_at at
named (block out) = true
named (pump f n) = true
named start_capture = true
named (stop_capture list) = true
named (replay list) = true
named snapshot = true
named (apply y) = is_snapshot y
named metrics = true

-- the call that it then makes
abbrev pub call_of : HostCall → Call
call_of (load samples kind extent rate) = calls.load samples (kind_of kind extent) rate
call_of (retire h) = calls.retire h
call_of (submit y at) = calls.submit (submission_of y) (at_of at)
call_of (transition f at) = calls.transition f (at_of at)
call_of (block out) = calls.block out
call_of (pump f n) = calls.pump f n
call_of start_capture = calls.start_capture
call_of (stop_capture list) = calls.stop_capture list
call_of (replay list) = calls.replay list
call_of snapshot = calls.snapshot
call_of (apply y) = calls.apply (snapshot_of y)
call_of metrics = calls.metrics

-- a host's state that an opening and exported functions lead to, each over the stores as the one before left them
pub data HostReached : HostState → Type 0 where
  at_opening : (o : Opening) → (host_opened o).0 ≡ 0 → HostReached (host_opened o).1
  after_call : {x : HostState} (k : HostCall) → Given (call_of k) → HostReached x → HostReached (host_after k x)

-- what a host reads of it is what its call says: the refusal, or what the call gives, a pump's ring and store, and a stop's list
abbrev pub SameAnswer : HostCall → HostState → Type 0
SameAnswer (load samples kind extent rate) x =
    let o = load_host x.session x.queue x.capture x.pool samples kind extent rate in
    says_by o.0.refusal o.0.handle ≡ says (load_of (session_of x.session) x.queue x.capture x.pool samples (kind_of kind extent) rate).0.answer
SameAnswer (retire h) x =
    says_by (retire_host x.session x.queue x.capture h).refusal tt ≡ says (retire_of (session_of x.session) x.queue x.capture h).answer
SameAnswer (submit y at) x =
    let o = submit_host x.session x.queue x.capture y at in
    says_by o.0.refusal o.0.number ≡ says (submit_of (session_of x.session) x.queue x.capture (submission_of y) (at_of at)).0.answer
SameAnswer (transition f at) x =
    let o = transition_host x.session x.queue x.capture f at in
    says_by o.0.refusal o.0.number ≡ says (transition_of (session_of x.session) x.queue x.capture f (at_of at)).0.answer
SameAnswer (block out) x =
    let o = block_host x.session x.queue x.capture x.pool out in
    says_by o.0.refusal o.0.passes ≡ says (block_of (session_of x.session) x.queue x.capture x.pool out).0.answer
SameAnswer (pump f n) x =
    let o = host_pumping x f n in
    (says_by o.0.refusal (o.0.frames, o.0.passes) ≡ says_pump (pumping (state_of x) f n).0.answer) × (host_feed x f n ≡ feed_of (state_of x) f n)
SameAnswer start_capture x =
    says_by (start_capture_host x.session x.queue x.capture).refusal tt ≡ says (start_capture_of (session_of x.session) x.queue x.capture).answer
SameAnswer (stop_capture list) x =
    let o = stop_capture_host x.session x.queue x.capture list in
    let r = stop_capture_of (session_of x.session) x.queue x.capture list in
    (says_by o.0.refusal o.0.copied ≡ says r.0.answer) × (o.1 ≡ r.1)
SameAnswer (replay list) x =
    let o = replay_host x.session x.queue x.capture list in
    says_by o.0.refusal o.0.report ≡ says (replay_of (session_of x.session) x.queue x.capture list).0.answer
SameAnswer snapshot x =
    let o = snapshot_host x.session x.queue x.capture in
    says_by o.refusal (snapshot_of o.snapshot) ≡ says (control.snapshot_of (session_of x.session) x.queue x.capture).answer
SameAnswer (apply y) x =
    says_by (apply_host x.session x.queue x.capture y).refusal tt ≡ says (control.apply_of (session_of x.session) x.queue x.capture (snapshot_of y)).answer
SameAnswer metrics x =
    let o = metrics_host x.session x.queue x.capture in
    says_by o.refusal o.metrics ≡ says (metrics_of (session_of x.session) x.queue x.capture).answer

-- it says what its call says, and leaves and sounds what the call does
pub record DoesItsCall (k : HostCall) (x : HostState) : Type 0 where
  pub answer : SameAnswer k x
  pub number : host_refusal k x ≡ refusal (call_of k) (state_of x)
  pub state : state_of (host_after k x) ≡ after (call_of k) (state_of x)
  pub output : host_heard k x ≡ heard (call_of k) (state_of x)

-- an exported opening too
pub record OpensAsCall (o : Opening) : Type 0 where
  pub answer : let r = open_host o.settings o.queue o.capture o.pool o.samples o.rate o.extent in
      says_by r.0.refusal r.0.handle ≡ says (open_of o.settings o.queue o.capture o.pool o.samples o.rate o.extent).0.answer
  pub number : (host_opened o).0 ≡ (opened o).0
  pub state : state_of (host_opened o).1 ≡ (opened o).1

pub record ForHosts : Type 0 where
  -- what a host has reached stands for a reached state, so that all that is promised of those holds for it
  pub reached : (x : HostState) → HostReached x → Reached (state_of x)
  -- opening is the call,
  pub opening : (o : Opening) → OpensAsCall o
  -- there each exported function does its call, where it names cases,
  pub calling : (k : HostCall) (x : HostState) → HostReached x → named k ≡ true → DoesItsCall k x
  -- and else answers 255
  pub unnamed : (k : HostCall) (x : HostState) → HostReached x → named k ≡ false → host_refusal k x ≡ 255

-- for every exported function and every state of a host, whatever it keeps, and for every number
pub record HostRefused : Type 0 where
  -- the very session comes back, 15 alone counted, and every store is as it was,
  pub state : (k : HostCall) (x : HostState) → host_refusal k x ≢ 0 → host_after k x ≡ keeping x (turned (host_refusal k x) x.session)
  -- a block's output,
  pub output : (x : HostState) (out : List Float) → host_refusal (block out) x ≢ 0 → host_out x out ≡ out
  -- a pump's ring and every sample of its store
  pub feed : (x : HostState) (f : Feed) (n : ℕ) → host_refusal (pump f n) x ≢ 0 → host_feed x f n ≡ f
  -- and a stop's list too;
  pub list : (x : HostState) (list : List ℕ) → host_refusal (stop_capture list) x ≢ 0 → host_list x list ≡ list
  -- and so are those that are lent to an opening
  pub opening : (o : Opening) → (host_opened o).0 ≢ 0
      → ((host_opened o).1.queue ≡ o.queue) × ((host_opened o).1.capture ≡ o.capture) × ((host_opened o).1.pool ≡ o.pool)

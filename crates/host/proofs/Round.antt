-- A session that goes to a host and comes back is the same session; a host's session that comes and goes back is the same but for what is not used. Assumes nothing.
use mathlib.Core.Path.{◌≡◌, refl, sym, ap, ◌∙◌}
use mathlib.Core.Bool.{Bool, true, false, not, ◌&&◌, ◌||◌, cond}
use mathlib.Core.List.{List, [], ◌∷◌, map}
use mathlib.Core.Logic.{◌⊎◌, inl, inr}
use Prim.Native.Nat.{ℕ, zero, suc, ◌+◌, ◌<◌, ◌≤◌}
use native.Mathlib.Omega.{arith}
use lib.Dec.{eqb, leb}
use lib.Ieee.{Float}
use lib.ListN.{length, get_or}
use borrow.Author.Tests.{leb-true, eqb-true}
use Rattle.std.specs.Prelude.{Option, Some, None}
use Rattle.counts.specs.Below.{within}
use Rattle.counts.proofs.Truth.{two_ways, never, and_true, and_l, and_r, cond_both}
use Rattle.counts.proofs.Below.{all_true, all_at, all_same}
use Rattle.counts.specs.declared.SongFrame.{SongFrame}
use Rattle.counts.specs.declared.Handle.{Handle}
use Rattle.ramp.specs.Number.{zero32}
use Rattle.bank.specs.declared.Kind.{Kind}
use Rattle.bank.specs.declared.Clip.{Clip}
use Rattle.bank.specs.Slots.{extent_of, used_at}
use Rattle.transport.specs.declared.TransportState.{TransportState}
use Rattle.timeline.specs.declared.Submission.{Submission}
use Rattle.timeline.specs.Command.{command_of}
use Rattle.timeline.specs.Record.{row_with}
use Rattle.transport.specs.declared.LoopRange.{LoopRange}
use Rattle.transport.specs.declared.At.{At}
use Rattle.stage.specs.declared.Tail.{Tail}
use Rattle.session.specs.declared.Session.{Session}
use Rattle.control.specs.declared.PerformanceSnapshot.{PerformanceSnapshot}
use Rattle.host.specs.declared.HostClip.{HostClip}
use Rattle.host.specs.declared.HostLoop.{HostLoop}
use Rattle.host.specs.declared.HostTail.{HostTail}
use Rattle.host.specs.declared.HostSession.{HostSession}
use Rattle.host.specs.declared.HostCommand.{HostCommand}
use Rattle.host.specs.declared.HostAt.{HostAt}
use Rattle.host.specs.Kept.{is_kind, kind_of, kind_number, clip_of, clip_numbers, is_state, state_of, state_number, is_flag, flag_of, flag_number, loop_of, loop_numbers, tail_of, tail_numbers, no_handle, blank_clip, slot_named, kinds_ok, is_session, session_of, host_of, tidy_clip, tidy_slots, tidy_loop, tidy_tail, tidy}
use Rattle.host.specs.Arguments.{is_submission, submission_of, is_at, at_of, is_snapshot, snapshot_of, snapshot_numbers}

-- ---- a session to its host and back

-- a kind,
pub kind_back : (k : Kind) → kind_of (kind_number k) (record { 0 = extent_of k }) ≡ k
kind_back (Kind.Song extent) = refl
kind_back Kind.Stinger = refl

-- a clip,
pub clip_back : (c : Clip) → clip_of (clip_numbers c) ≡ c
clip_back c = ap (λ (k : Kind). record { serial = c.serial; kind = k; start = c.start; frames = c.frames; rate = c.rate }) (kind_back c.kind)

-- a list of clips,
pub clips_back : (cs : List Clip) → map clip_of (map clip_numbers cs) ≡ cs
clips_back [] = refl
clips_back (c ∷ cs) = rw (clip_back c, clips_back cs)

-- a state,
pub state_back : (x : TransportState) → state_of (state_number x) ≡ x
state_back TransportState.Stopped = refl
state_back TransportState.Playing = refl
state_back TransportState.Paused = refl

-- a flag,
pub flag_back : (on : Bool) → flag_of (flag_number on) ≡ on
flag_back true = refl
flag_back false = refl

-- a loop,
pub loop_back : (x : Option LoopRange) → loop_of (loop_numbers x) ≡ x
loop_back None = refl
loop_back (Some l) = refl

-- a tail,
pub tail_back : (x : Option Tail) → tail_of (tail_numbers x) ≡ x
tail_back None = refl
tail_back (Some t) = refl

-- and so a session comes back the same,
pub there_and_back : (s : Session) → session_of (host_of s) ≡ s
unfolding session_of host_of
there_and_back s =
    rw (
      clips_back s.bank.clips,
      state_back s.stage.playhead.transport.state,
      loop_back s.stage.playhead.transport.looped,
      tail_back s.stage.sound.fade.tail,
      flag_back s.desk.capturing,
    )

-- as does a snapshot
pub snapshot_back : (x : PerformanceSnapshot) → snapshot_of (snapshot_numbers x) ≡ x
snapshot_back x = rw (state_back x.state, loop_back x.looped)

-- ---- each number of a host's session that a session gives names a case

kind_named : (k : Kind) → is_kind (kind_number k) ≡ true
kind_named (Kind.Song extent) = refl
kind_named Kind.Stinger = refl

state_named : (x : TransportState) → is_state (state_number x) ≡ true
state_named TransportState.Stopped = refl
state_named TransportState.Playing = refl
state_named TransportState.Paused = refl

flag_named : (on : Bool) → is_flag (flag_number on) ≡ true
flag_named true = refl
flag_named false = refl

loop_named : (x : Option LoopRange) → is_flag (loop_numbers x).set ≡ true
loop_named None = refl
loop_named (Some l) = refl

tail_named : (x : Option Tail) → is_flag (tail_numbers x).sounding ≡ true
tail_named None = refl
tail_named (Some t) = refl

clips_named : (cs : List Clip) (i : ℕ) → is_kind (get_or (map clip_numbers cs) i blank_clip).kind ≡ true
clips_named [] i = refl
clips_named (c ∷ cs) zero = kind_named c.kind
clips_named (c ∷ cs) (suc i) = clips_named cs i

-- what holds a song or a stinger names one, used or not
slot_named_law : (u i kind : ℕ) → is_kind kind ≡ true → slot_named u i kind ≡ true
unfolding slot_named
slot_named_law u i kind e = cond_both (λ b. b ≡ true) (used_at u i) (is_kind kind) true e refl

-- so a host's session that a session gives is never refused for its numbers,
pub names : (s : Session) → is_session (host_of s) ≡ true
unfolding is_session kinds_ok host_of
names s =
    and_true
    (and_true
    (and_true
    (and_true (all_true _ 32 (λ i l. slot_named_law s.bank.used i _ (clips_named s.bank.clips i))) (state_named s.stage.playhead.transport.state))
    (loop_named s.stage.playhead.transport.looped))
    (tail_named s.stage.sound.fade.tail))
    (flag_named s.desk.capturing)

-- nor a snapshot that a snapshot gives
pub snapshot_names : (x : PerformanceSnapshot) → is_snapshot (snapshot_numbers x) ≡ true
snapshot_names x = and_true (state_named x.state) (loop_named x.looped)

-- ---- a host's session to a session and back

-- a clip comes back as it was, its kind too if its slot is used,
clip_tidy : (used : Bool) (c : HostClip) → cond used (is_kind c.kind) true ≡ true → clip_numbers (clip_of c) ≡ tidy_clip used c
clip_tidy used c e = go used (two_ways (eqb c.kind 1)) e
  where
    song : eqb c.kind 1 ≡ true → c.kind ≡ 1
    song = eqb-true c.kind 1

    go : (used : Bool) → (eqb c.kind 1 ≡ true) ⊎ (eqb c.kind 1 ≡ false) → cond used (is_kind c.kind) true ≡ true → clip_numbers (clip_of c) ≡ tidy_clip used c
    go true (inl is) e = rw (song is)
    go false (inl is) e = rw (song is)
    go true (inr not) e = let stinger : c.kind ≡ 2 = eqb-true c.kind 2 (ap (λ b. b || eqb c.kind 2) (sym not) ∙ e) in rw stinger
    go false (inr not) e = rw not

-- and so do the slots from i on
slots_tidy : (u i : ℕ) (cs : List HostClip) → ((k j : ℕ) → j ≡ i + k → k < length cs → slot_named u j (get_or cs k blank_clip).kind ≡ true)
    → map clip_numbers (map clip_of cs) ≡ tidy_slots u i cs
unfolding slot_named tidy_slots
slots_tidy u i [] e = refl
slots_tidy u i (c ∷ cs) e =
    rw (clip_tidy (used_at u i) c (e 0 i (omega arith) (omega arith)), slots_tidy u (suc i) cs (λ k j p l. e (suc k) j (omega arith) (omega arith)))

state_tidy : (n : ℕ) → is_state n ≡ true → state_number (state_of n) ≡ n
state_tidy zero e = refl
state_tidy (suc zero) e = refl
state_tidy (suc (suc zero)) e = refl
state_tidy (suc (suc (suc n))) e = let l : suc (suc (suc n)) ≤ 2 = leb-true _ _ e in absurd (omega arith)

-- what holds of 0 and of 1 holds of a flag
by_flag : (P : ℕ → Type 0) → P 0 → P 1 → (n : ℕ) → is_flag n ≡ true → P n
by_flag P off on zero e = off
by_flag P off on (suc zero) e = on
by_flag P off on (suc (suc n)) e = let l : suc (suc n) ≤ 1 = leb-true _ _ e in absurd (omega arith)

flag_tidy : (n : ℕ) → is_flag n ≡ true → flag_number (flag_of n) ≡ n
flag_tidy = by_flag (λ n. flag_number (flag_of n) ≡ n) refl refl

loop_tidy : (x : HostLoop) → is_flag x.set ≡ true → loop_numbers (loop_of x) ≡ tidy_loop x
loop_tidy x = by_flag (λ n. let y : HostLoop = record { set = n; start = x.start; end = x.end } in loop_numbers (loop_of y) ≡ tidy_loop y) refl refl x.set

tail_tidy : (x : HostTail) → is_flag x.sounding ≡ true → tail_numbers (tail_of x) ≡ tidy_tail x
tail_tidy x =
    by_flag
    (λ n. let y : HostTail = record { sounding = n; song = x.song; cursor = x.cursor; weight = x.weight } in tail_numbers (tail_of y) ≡ tidy_tail y)
    refl refl x.sounding

-- each number names a case
record Named (h : HostSession) : Type 0 where
  kinds : kinds_ok h ≡ true
  state : is_state h.state ≡ true
  looped : is_flag h.looped.set ≡ true
  tail : is_flag h.tail.sounding ≡ true
  capturing : is_flag h.capturing ≡ true

named : (h : HostSession) → is_session h ≡ true → Named h
unfolding is_session
named h e =
    let kinds : Bool = kinds_ok h in
    let state : Bool = is_state h.state in
    let looped : Bool = is_flag h.looped.set in
    let tail : Bool = is_flag h.tail.sounding in
    let e3 : kinds && state && looped && tail ≡ true = and_l (kinds && state && looped && tail) (is_flag h.capturing) e in
    let e2 : kinds && state && looped ≡ true = and_l (kinds && state && looped) tail e3 in
    let e1 : kinds && state ≡ true = and_l (kinds && state) looped e2 in
    record {
      kinds = and_l kinds state e1;
      state = and_r kinds state e1;
      looped = and_r (kinds && state) looped e2;
      tail = and_r (kinds && state && looped) tail e3;
      capturing = and_r (kinds && state && looped && tail) (is_flag h.capturing) e;
    }

-- where each number names a case, the session that it matches is the same, with what is not used as 0
pub back_and_there : (h : HostSession) → length h.clips ≡ 32 → is_session h ≡ true → host_of (session_of h) ≡ tidy h
unfolding session_of host_of tidy kinds_ok
back_and_there h size e =
    let n : Named h = named h e in
    rw (
      slots_tidy h.used 0 h.clips (λ k j p l. let e : j ≡ k = omega arith in rw e (all_at _ 32 k n.kinds (omega arith))),
      state_tidy h.state n.state,
      loop_tidy h.looped n.looped,
      tail_tidy h.tail n.tail,
      flag_tidy h.capturing n.capturing,
    )

-- ---- what is refused for its numbers is matched by no session

-- a used slot keeps its kind
slots_keep : (u i : ℕ) (cs : List HostClip) (k j : ℕ) → j ≡ i + k → slot_named u j (get_or (tidy_slots u i cs) k blank_clip).kind ≡ slot_named u j (get_or cs k blank_clip).kind
unfolding slot_named tidy_slots
slots_keep u i [] k j p = refl
slots_keep u i (c ∷ cs) zero j p = let q : j ≡ i = omega arith in rw q (same (used_at u i))
  where
    same : (used : Bool) → cond used (is_kind (tidy_clip used c).kind) true ≡ cond used (is_kind c.kind) true
    same true = refl
    same false = refl
slots_keep u i (c ∷ cs) (suc k) j p = slots_keep u (suc i) cs k j (omega arith)

-- what is not used has no part in it
pub tidy_names : (h : HostSession) → is_session (tidy h) ≡ is_session h
unfolding is_session kinds_ok tidy
tidy_names h = rw (all_same _ _ 32 (λ i l. slots_keep h.used 0 h.clips i i (omega arith)))

-- a host's session that some session gives, but for what is not used, has numbers that each name a case
pub matched : (s : Session) (h : HostSession) → host_of s ≡ tidy h → is_session h ≡ true
matched s h e = sym (tidy_names h) ∙ ap is_session (sym e) ∙ names s

-- ---- what an argument names

-- a song's start
abbrev start : SongFrame
start = record { 0 = 0 }

-- a command of a kind, with what the kinds use
abbrev command : ℕ → Float → Handle → SongFrame → SongFrame → HostCommand
command k g h s e = record { kind = k; gain = g; clip = h; frame = s; end = e }

-- a command's kind is numbered as in a record
pub as_recorded : (x : HostCommand) (t n : ℕ) → is_submission x ≡ true → (row_with t n (command_of (submission_of x))).kind ≡ x.kind
as_recorded x t n e = go x.kind below e
  where
    of : ℕ → HostCommand
    of k = command k x.gain x.clip x.frame x.end

    below : x.kind ≤ 10
    below = leb-true x.kind 10 (and_r (leb 1 x.kind) (leb x.kind 10) (and_l (within 1 10 x.kind) (not (eqb x.kind 5)) e))

    go : (k : ℕ) → k ≤ 10 → is_submission (of k) ≡ true → (row_with t n (command_of (submission_of (of k)))).kind ≡ k
    go zero l e = absurd (never (sym e))
    go (suc zero) l e = refl
    go (suc (suc zero)) l e = refl
    go (suc (suc (suc zero))) l e = refl
    go (suc (suc (suc (suc zero)))) l e = refl
    go (suc (suc (suc (suc (suc zero))))) l e = absurd (never (sym e))
    go (suc (suc (suc (suc (suc (suc zero)))))) l e = refl
    go (suc (suc (suc (suc (suc (suc (suc zero))))))) l e = refl
    go (suc (suc (suc (suc (suc (suc (suc (suc zero)))))))) l e = refl
    go (suc (suc (suc (suc (suc (suc (suc (suc (suc zero))))))))) l e = refl
    go (suc (suc (suc (suc (suc (suc (suc (suc (suc (suc zero)))))))))) l e = refl
    go (suc (suc (suc (suc (suc (suc (suc (suc (suc (suc (suc k))))))))))) l e = absurd (omega arith)

-- a command that names a submission
pub record Said (y : Submission) : Type 0 where
  pub says : HostCommand
  pub named : is_submission says ≡ true
  pub means : submission_of says ≡ y

-- each of the nine has one
pub each_said : (y : Submission) → Said y
each_said Submission.Play = record { says = command 1 zero32 no_handle start start; named = refl; means = refl }
each_said Submission.Pause = record { says = command 2 zero32 no_handle start start; named = refl; means = refl }
each_said Submission.Stop = record { says = command 3 zero32 no_handle start start; named = refl; means = refl }
each_said (Submission.Seek f) = record { says = command 4 zero32 no_handle f start; named = refl; means = refl }
each_said (Submission.Loop s e) = record { says = command 6 zero32 no_handle s e; named = refl; means = refl }
each_said Submission.ClearLoop = record { says = command 7 zero32 no_handle start start; named = refl; means = refl }
each_said (Submission.Gain g) = record { says = command 8 g no_handle start start; named = refl; means = refl }
each_said (Submission.Swap h) = record { says = command 9 zero32 h start start; named = refl; means = refl }
each_said (Submission.Stinger h g) = record { says = command 10 g h start start; named = refl; means = refl }

-- a number and a frame that name a time
pub record Timed (y : At) : Type 0 where
  pub time : HostAt
  pub named : is_at time ≡ true
  pub means : at_of time ≡ y

-- each of the three has one
pub each_timed : (y : At) → Timed y
each_timed At.Immediate = record { time = record { kind = 1; frame = 0 }; named = refl; means = refl }
each_timed (At.Frame t) = record { time = record { kind = 2; frame = t.0 }; named = refl; means = refl }
each_timed (At.Song t) = record { time = record { kind = 3; frame = t.0 }; named = refl; means = refl }

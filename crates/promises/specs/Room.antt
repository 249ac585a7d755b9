-- 'Retiring frees slot and room .. Retired room is used again.' Definitions only.
use Rattle.std.specs.Prelude.{◌≡◌, ◌≢◌, ◌≤◌}
use Rattle.counts.specs.declared.Handle.{Handle}
use Rattle.bank.specs.Sample.{frames_of}
use Rattle.bank.specs.Slots.{clip_of}
use Rattle.clips.specs.Load.{start_for}
use Rattle.promises.specs.Calls.{State, retire, refusal, after}
use Rattle.promises.specs.Kept.{Good}
use Rattle.promises.specs.Own.{Clipped, loading}

-- where a clip is retired, one of at most its frames finds a slot and room, and no later in the pool
abbrev pub RoomAgain : Type 0
RoomAgain =
    (x : State) (h : Handle) (c : Clipped) → Good x → refusal (retire h) x ≡ 0
    → 1 ≤ frames_of c.samples → frames_of c.samples ≤ (clip_of x.session.bank h).frames
    → let y : State = after (retire h) x in
    (refusal (loading c) y ≢ 8) × (refusal (loading c) y ≢ 10) × (start_for y.session c.samples ≤ (clip_of x.session.bank h).start)

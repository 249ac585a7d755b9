-- 'A clip can't be retired while song, tail, voice, queue or running capture holds it.' Definitions only.
use Rattle.std.specs.Prelude.{◌≡◌, true, false, ℕ, ◌<◌, Some}
use Rattle.counts.specs.declared.Handle.{Handle}
use Rattle.counts.specs.declared.SongFrame.{SongFrame}
use Rattle.counts.specs.Handles.{claims}
use Rattle.ramp.specs.declared.Ramp.{Ramp}
use Rattle.timeline.specs.Command.{claim_of}
use Rattle.timeline.specs.Record.{read_of}
use Rattle.timeline.specs.Store.{row_at}
use Rattle.bank.specs.Slots.{live}
use Rattle.oneshot.specs.Mix.{voice_at}
use Rattle.session.specs.Session.{captured_now}
use Rattle.promises.specs.Calls.{State, retire, refusal}
use Rattle.promises.specs.Kept.{Good}

-- in a state a handle is live
abbrev pub Live : Handle → State → Type 0
Live h x = live x.session.bank h ≡ true

-- or stale
abbrev pub Stale : Handle → State → Type 0
Stale h x = live x.session.bank h ≡ false

-- what holds a clip: the song, the tail, a voice that sounds, a queued command, or a record of a running capture
pub data Holds (h : Handle) (x : State) : Type 0 where
  by_song : x.session.stage.playhead.song ≡ h → Holds h x
  by_tail : (at : SongFrame) (w : Ramp) → x.session.stage.sound.fade.tail ≡ Some (record { song = h; cursor = at; weight = w }) → Holds h x
  by_voice : (i : ℕ) → i < x.session.stage.sound.voices.count → (voice_at x.session.stage.sound.voices i).handle ≡ h → Holds h x
  by_queue : (j : ℕ) → j < x.session.queued → claims h (claim_of (read_of (row_at x.queue j))) ≡ true → Holds h x
  by_capture : (j : ℕ) → j < captured_now x.session.desk → claims h (claim_of (read_of (row_at x.capture j))) ≡ true → Holds h x

-- whatever is held is live
abbrev pub HeldLive : Type 0
HeldLive = (h : Handle) (x : State) → Good x → Holds h x → Live h x

-- each follows from the other
abbrev pub Exactly : Type 0 → Type 0 → Type 0
Exactly A B = (A → B) × (B → A)

-- of a good state
pub record Retires (h : Handle) (x : State) : Type 0 where
  -- 11 exactly if the handle is not live,
  pub stale : Exactly (refusal (retire h) x ≡ 11) (Stale h x)
  -- 19 exactly if it is and something holds it,
  pub held : Exactly (refusal (retire h) x ≡ 19) (Live h x × Holds h x)
  -- and else it is done
  pub done : Exactly (refusal (retire h) x ≡ 0) (Live h x × (Holds h x → ⊥))

abbrev pub Retire : Type 0
Retire = (h : Handle) (x : State) → Good x → Retires h x

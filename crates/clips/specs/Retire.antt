-- Retiring. Definitions only.
use Rattle.std.specs.Prelude.{ℕ, Bool, false, not, ◌||◌, List, Result, Ok, Err, Option, Some, None}
use Rattle.counts.specs.declared.Handle.{Handle}
use Rattle.counts.specs.Below.{any_below}
use Rattle.counts.specs.Handles.{same_handle}
use Rattle.timeline.specs.Queue.{holds}
use Rattle.bank.specs.Slots.{live, retired_from}
use Rattle.oneshot.specs.Mix.{voice_at}
use Rattle.stage.specs.declared.Tail.{Tail}
use Rattle.stage.specs.declared.Stage.{Stage}
use Rattle.session.specs.declared.Session.{Session}
use Rattle.session.specs.declared.Refusal.{Refusal}
use Rattle.session.specs.declared.Answered.{Answered}
use Rattle.session.specs.Refusal.{first, unless}
use Rattle.session.specs.Session.{with_bank, captured_now}
use Rattle.session.specs.WellFormed.{well_formed}
use Rattle.session.specs.Answer.{answered}

-- the tail is that clip
abbrev pub tail_holds : Handle → Option Tail → Bool
tail_holds h None = false
tail_holds h (Some t) = same_handle h t.song

-- song, tail or voice holds it
unfoldable pub stage_holds : Handle → Stage → Bool
stage_holds h x =
    same_handle h x.playhead.song
    || tail_holds h x.sound.fade.tail
    || any_below x.sound.voices.count (λ i. same_handle h (voice_at x.sound.voices i).handle)

-- held by song, tail, voice, queue or running capture
unfoldable pub held_now : Session → List ℕ → List ℕ → Handle → Bool
held_now s q c h = stage_holds h s.stage || holds h q s.queued || holds h c (captured_now s.desk)

-- 1, 11, 19
unfoldable pub weigh_retire : Session → List ℕ → List ℕ → Handle → Result (Unit {0}) Refusal
weigh_retire s q c h =
    first (not (well_formed s q c)) Refusal.NotWellFormed
    (first (not (live s.bank h)) Refusal.Stale
    (first (held_now s q c h) Refusal.Held
    (Ok tt)))

-- retiring frees slot and room and writes no sample
unfoldable pub retire_of : Session → List ℕ → List ℕ → Handle → Answered (Unit {0})
retire_of s q c h = unless (weigh_retire s q c h) (λ k. answered (Err k) s) (answered (Ok tt) (with_bank s (retired_from s.bank h)))

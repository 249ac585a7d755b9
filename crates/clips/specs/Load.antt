-- Loading. Definitions only.
use Rattle.std.specs.Prelude.{ℕ, ◌+◌, ◌-◌, ◌*◌, ◌^◌, not, ◌&&◌, List, eqb, length, Float, Result, Ok, Err}
use Rattle.counts.specs.declared.Handle.{Handle}
use Rattle.bank.specs.declared.Kind.{Kind}
use Rattle.bank.specs.declared.Clip.{Clip}
use Rattle.bank.specs.Sample.{frames_of, is_odd, is_pool, samples_ok}
use Rattle.bank.specs.Slots.{free_slot, loaded_in}
use Rattle.bank.specs.Room.{first_fit, nowhere, pasted}
use Rattle.bank.specs.WellFormed.{rate_ok, extent_ok}
use Rattle.session.specs.declared.Session.{Session}
use Rattle.session.specs.declared.Refusal.{Refusal}
use Rattle.session.specs.Refusal.{first, unless}
use Rattle.session.specs.Session.{with_bank}
use Rattle.session.specs.WellFormed.{well_formed}
use Rattle.session.specs.declared.Answered.{Answered}
use Rattle.session.specs.Answer.{answered}

-- the lowest start where the clip fits in the session's pool
abbrev pub start_for : Session → List Float → ℕ
start_for s samples = first_fit s.bank s.settings.pool (frames_of samples)

-- 1, 2, 3, 5, 6, 7, 8, 9, 10
unfoldable pub weigh_load : Session → List ℕ → List ℕ → List Float → List Float → Kind → ℕ → Result (Unit {0}) Refusal
weigh_load s q c pool samples kind rate =
    first (not (well_formed s q c)) Refusal.NotWellFormed
    (first (not (is_pool pool s.settings.pool)) Refusal.PoolLength
    (first (is_odd samples) Refusal.OddSamples
    (first (eqb (length samples) 0) Refusal.NoSamples
    (first (not (samples_ok samples)) Refusal.BadSample
    (first (not (rate_ok rate && extent_ok kind (frames_of samples))) Refusal.OutOfRange
    (first (eqb s.bank.used (2 ^ 32 - 1)) Refusal.SlotsUsed
    (first (eqb s.bank.last (2 ^ 32 - 1)) Refusal.SerialsSpent
    (first (eqb (start_for s samples) nowhere) Refusal.NoRoom
    (Ok tt)))))))))

-- the next serial, in the lowest free slot
abbrev pub handle_for : Session → Handle
handle_for s = record { slot = free_slot s.bank.used; serial = s.bank.last + 1 }

-- the clip there, with that serial
abbrev pub clip_for : Session → List Float → Kind → ℕ → Clip
clip_for s samples kind rate =
    record { serial = s.bank.last + 1; kind = kind; start = start_for s samples; frames = frames_of samples; rate = rate }

-- a load that is not refused: the clip in its slot, its samples at its start, every other sample as it was
abbrev pub load_done : Session → List Float → List Float → Kind → ℕ → Answered Handle × List Float
load_done s pool samples kind rate = (
  answered (Ok (handle_for s)) (with_bank s (loaded_in s.bank (handle_for s).slot (clip_for s samples kind rate))),
  pasted pool (start_for s samples * 2) samples,
)

-- answer and session; pool
unfoldable pub load_of : Session → List ℕ → List ℕ → List Float → List Float → Kind → ℕ → Answered Handle × List Float
load_of s q c pool samples kind rate =
    unless (weigh_load s q c pool samples kind rate)
    (λ k. (answered (Err k) s, pool))
    (load_done s pool samples kind rate)
